-- What attributes mean, one group after the other.
use Rattle.std.proofs.Common.{◌≡◌, ◌∙◌, ℕ, zero, suc, List, [], ◌∷◌, ◌++◌, drop, refl, ap, append_assoc}
use Rattle.avp_lists.specs.declared.pairs.Pair.{Pair}
use Rattle.avp_dict.specs.Dictionary.{Dictionary}
use Rattle.avp_packet.specs.Meanings.{first_pairs, attribute_pairs, meaning_after, continued}
use Rattle.avp_packet.specs.Splitting.{Part, parts, part_octets}
use Rattle.avp_packet.proofs.Splits.{parts-none, parts-octets}
use Rattle.avp_packet.specs.Splitting.{begins_whole}
use Rattle.std.proofs.Common.{false}

module _ (dictionary : Dictionary) (secret authenticator : List ℕ) where
  abbrev means : List Part → List Pair
  means ps = attribute_pairs dictionary secret authenticator ps

  meaning_after-drop : (k : ℕ) (ps : List Part) → meaning_after dictionary secret authenticator k ps ≡ means (drop k ps)
  unfolding meaning_after
  meaning_after-drop zero ps = refl
  meaning_after-drop (suc k) [] = refl
  meaning_after-drop (suc k) (p ∷ ps) = meaning_after-drop k ps

  -- the first attribute's pairs, and those of what is after it and what its value goes on in
  pub attribute_pairs-cons : (p : Part) (ps : List Part) → means (p ∷ ps) ≡ first_pairs dictionary secret authenticator p ps ++ means (drop (continued p ps) ps)
  unfolding meaning_after
  attribute_pairs-cons p ps = ap (λ (pairs : List Pair). first_pairs dictionary secret authenticator p ps ++ pairs) (meaning_after-drop (continued p ps) ps)

  pub attribute_pairs-nil : means [] ≡ []
  unfolding meaning_after
  attribute_pairs-nil = refl

  -- one group more is read
  pub one_read : (old new : List Pair) (octets after rest : List ℕ) (p : Part) → octets ≡ part_octets p ++ after → new ≡ old ++ first_pairs dictionary secret authenticator p (parts after) → parts rest ≡ drop (continued p (parts after)) (parts after)
      → new ++ means (parts rest) ≡ old ++ means (parts octets)
  one_read old new octets after rest p e n r =
      let split = ap parts e ∙ parts-octets p after in
      rw (n, r, split, append_assoc, attribute_pairs-cons p (parts after))

  pub none_left : (old : List Pair) (octets : List ℕ) → begins_whole octets ≡ false → means (parts octets) ≡ []
  none_left old octets h = ap means (parts-none octets h) ∙ attribute_pairs-nil
