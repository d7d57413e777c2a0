-- What is written of an attribute, piece by piece.
use Rattle.std.proofs.Common.{◌≡◌, ◌∙◌, ℕ, zero, suc, ◌+◌, ◌-◌, ◌/◌, ◌<◌, ◌≤◌, Bool, true, false, List, [], ◌∷◌, ◌++◌, get_or, length, take, drop, refl, sym, ap, arith, append-nil, append_assoc}
use Rattle.std.specs.Prelude.{filter}
use Rattle.std.specs.Int.{bytes_high_first}
use Rattle.std.specs.List.{flat_map}
use Rattle.std.proofs.lemmas.List.{drop_more, get_or_default, length-append, length-drop}
use Rattle.std.proofs.lemmas.Grind.{common_steps}
use Rattle.std.specs.Prelude.{nat_lt}
use Rattle.avp_packet.specs.internal.Ranges.{IsVendorInRange}
use Rattle.std.proofs.lemmas.Grind.{flat_map-append}
use Rattle.avp_lists.specs.declared.pairs.Pair.{Pair}
use Rattle.avp_lists.specs.Instances.{is_other}
use Rattle.avp_dict.specs.Dictionary.{Dictionary}
use Rattle.avp_dict.specs.Sent.{is_sent, sent}
use Rattle.avp_dict.specs.declared.entries.Format.{Format}
use Rattle.avp_dict.specs.AttributeNumbers.{vendor_specific}
use Rattle.avp_packet.specs.AttributeOctets.{attribute_octets, fragments, part, parts_of, parts_of_pair, vendor_part, vendor_value}
use Rattle.avp_packet.specs.Sending.{message_authenticator_id}
use Rattle.avp_packet.specs.Splitting.{part_octets}
use Rattle.avp_packet.specs.internal.Filling.{kept_pairs}
use Rattle.avp_packet.specs.ExtendedTypes.{piece_octets, more_flag}
use Rattle.avp_packet.proofs.Tests.{by_test}

-- ---- vendors

pub length-bytes_high_first : (k n : ℕ) → length (bytes_high_first k n) ≡ k
length-bytes_high_first zero n = refl
length-bytes_high_first (suc k) n = ap suc (length-bytes_high_first k n)

pub length-vendor_value : (vendor number : ℕ) (os : List ℕ) (f : Format) → length (vendor_value vendor number os f) ≡ 4 + f.t + f.l + length os
length-vendor_value vendor number os f =
    let t : List ℕ = bytes_high_first f.t number in
    let l : List ℕ = bytes_high_first f.l (f.t + f.l + length os) in
    let a = length-append (bytes_high_first 4 vendor ++ t ++ l) os in
    let b = length-append (bytes_high_first 4 vendor ++ t) l in
    let d = length-append (bytes_high_first 4 vendor) t in
    let e = length-bytes_high_first f.t number in
    let g = length-bytes_high_first f.l (f.t + f.l + length os) in
    let h = length-bytes_high_first 4 vendor in
    a ∙ omega arith

regrouped : (o a b c d e f : List ℕ) → o ++ a ++ b ++ c ++ d ++ e ++ f ≡ o ++ (a ++ (b ++ (c ++ d ++ e ++ f)))
regrouped o a b c d e f = simp append_assoc

pub vendor_written : (old os : List ℕ) (f : Format) (vendor number n : ℕ) → n ≡ f.t + f.l + length os
    → (old ++ vendor_specific ∷ (6 + n) ∷ [] ++ bytes_high_first 4 vendor ++ bytes_high_first f.t number ++ bytes_high_first f.l n) ++ os ≡ old ++ flat_map part_octets (vendor_part vendor number os f)
vendor_written old os f vendor number n e =
    let long : 6 + (f.t + f.l + length os) ≡ 2 + length (vendor_value vendor number os f) = omega (arith, length-vendor_value vendor number os f) in
    let v : List ℕ = vendor_value vendor number os f in
    let after : List ℕ → List ℕ = λ xs. xs ++ bytes_high_first 4 vendor ++ bytes_high_first f.t number ++ bytes_high_first f.l (f.t + f.l + length os) ++ os in
    rw (e, long)
    (ap after (sym (append_assoc old (vendor_specific ∷ []) ((2 + length v) ∷ [])))
    ∙ regrouped old (vendor_specific ∷ []) ((2 + length v) ∷ []) (bytes_high_first 4 vendor) (bytes_high_first f.t number) (bytes_high_first f.l (f.t + f.l + length os)) os
    ∙ ap (λ (xs : List ℕ). old ++ xs) (sym (append-nil (vendor_specific ∷ (2 + length v) ∷ v))))

-- ---- pieces

pub pieces_more : (t number : ℕ) (os : List ℕ) → piece_octets < length os
    → flat_map part_octets (fragments ((length os - 1) / piece_octets) t number os) ≡ part_octets (part t (number ∷ more_flag ∷ take piece_octets os)) ++ flat_map part_octets (fragments ((length (drop piece_octets os) - 1) / piece_octets) t number (drop piece_octets os))
unfolding fragments
pieces_more t number os h =
    let e = length-drop piece_octets os in
    let more : (length os - 1) / piece_octets ≡ suc ((length (drop piece_octets os) - 1) / piece_octets) = omega arith in
    ap (λ n. flat_map part_octets (fragments n t number os)) more

pub pieces_last : (t number : ℕ) (os : List ℕ) → length os ≤ piece_octets → flat_map part_octets (fragments ((length os - 1) / piece_octets) t number os) ≡ part_octets (part t (number ∷ 0 ∷ os))
unfolding fragments
pieces_last t number os h =
    let none : (length os - 1) / piece_octets ≡ 0 = omega arith in
    ap (λ n. flat_map part_octets (fragments n t number os)) none ∙ append-nil (part_octets (part t (number ∷ 0 ∷ os)))

-- ---- lists

-- one vendor's number more within its range
pub ranged_more : (i : ℕ) (pairs : List Pair) (p : Pair) → p ≡ get_or pairs i p → i < length pairs → IsVendorInRange p.id → ((k : ℕ) (d : Pair) → k < i → IsVendorInRange (get_or pairs k d).id) → (k : ℕ) (d : Pair) → k < i + 1 → IsVendorInRange (get_or pairs k d).id
ranged_more i pairs p is within this before k d lt =
    by_test (IsVendorInRange (get_or pairs k d).id) (nat_lt k i)
    (λ h. before k d (grind (arith, common_steps)))
    (λ h. let same : k ≡ i = grind (arith, common_steps) in
    let here : get_or pairs k d ≡ p = ap (λ n. get_or pairs n d) same ∙ get_or_default pairs i d p within ∙ sym is in
    rw here this)

module _ (dictionary : Dictionary) (secret authenticator : List ℕ) where
  abbrev written : List Pair → List ℕ
  written pairs = attribute_octets dictionary secret authenticator pairs

  pub written-cons : (p : Pair) (ps : List Pair) → written (p ∷ ps) ≡ written (p ∷ []) ++ written ps
  unfolding parts_of sent
  written-cons p ps =
      by_test (written (p ∷ ps) ≡ written (p ∷ []) ++ written ps) (is_sent dictionary p)
      (λ e. rw (e, append-nil (parts_of_pair dictionary secret authenticator p), flat_map-append part_octets (parts_of_pair dictionary secret authenticator p) (flat_map (parts_of_pair dictionary secret authenticator) (filter (is_sent dictionary) ps))))
      (λ e. rw e)

  pub written-nil : written [] ≡ []
  unfolding parts_of sent
  written-nil = refl

  -- those that are kept
  pub kept-cons : (all : Bool) (p : Pair) (ps : List Pair) → written (kept_pairs all (p ∷ ps)) ≡ written (kept_pairs all (p ∷ [])) ++ written (kept_pairs all ps)
  kept-cons true p ps = written-cons p ps
  kept-cons false p ps =
      by_test (written (kept_pairs false (p ∷ ps)) ≡ written (kept_pairs false (p ∷ [])) ++ written (kept_pairs false ps)) (is_other message_authenticator_id p)
      (λ e. rw e (written-cons p (kept_pairs false ps)))
      (λ e. rw (e, written-nil) refl)

  -- one pair more
  pub written-more : (all : Bool) (old new : List ℕ) (pairs : List Pair) (i : ℕ) (d : Pair) → i < length pairs → new ≡ old ++ written (kept_pairs all (get_or pairs i d ∷ [])) → new ++ written (kept_pairs all (drop (i + 1) pairs)) ≡ old ++ written (kept_pairs all (drop i pairs))
  written-more all old new pairs i d lt e =
      rw (e, append_assoc, drop_more pairs i d lt, kept-cons all (get_or pairs i d) (drop (i + 1) pairs))

  pub kept-nil : (all : Bool) → written (kept_pairs all []) ≡ []
  kept-nil true = written-nil
  kept-nil false = written-nil
