-- No line has a name that is too long, and what a folded name says of the lines with it.
use Rattle.std.proofs.Common.{◌≡◌, ◌≤◌, ◌<◌, ℕ, Bool, false, List, length, map, Option, None, Some, IfSome, IfNone, MatchOption, slice_get, option_and_then, sym, ap, ◌∙◌, All, bytes_eq}
use Rattle.std.proofs.lemmas.List.Elements.{All-weaker}
use Rattle.avp_dict.specs.Letters.{max_name}
use Rattle.avp_dict.proofs.Folding.{same_folded, too_long}
use Rattle.avp_dict.proofs.LastPlaces.{last_found, last_place_none}
use Rattle.avp_dict.specs.Dictionary.{last_where}
use Rattle.avp_dict.specs.Words.{lower, same_name}

module _ {X : Type 0} (name_of : X → List ℕ) where
  pub short_where : (test : X → Bool) → ((x : X) → length (name_of x) ≤ max_name → test x ≡ false) → (xs : List X) → All (λ x. length (name_of x) ≤ max_name) xs → None ≡ last_where test xs
  short_where test only xs h =
      sym (last_found test xs ∙ ap (option_and_then (slice_get xs)) (last_place_none test xs (All-weaker (λ x. length (name_of x) ≤ max_name) (λ x. test x ≡ false) only xs h)))

  pub by_folded : (name : List ℕ) (key : Option (List ℕ)) → IfSome key (λ f. f ≡ map lower name) → IfNone key (max_name < length name)
      → MatchOption key ((x : X) → length (name_of x) ≤ max_name → same_name (name_of x) name ≡ false) (λ k. (x : X) → bytes_eq (map lower (name_of x)) k ≡ same_name (name_of x) name)
  by_folded name (Some k) is long = λ x. ap (bytes_eq (map lower (name_of x))) is ∙ sym (same_folded (name_of x) name)
  by_folded name None is long = λ x short. too_long (name_of x) name short long
