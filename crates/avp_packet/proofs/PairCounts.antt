-- Attributes mean no more pairs than they have octets.
use Rattle.std.proofs.Common.{◌∙◌, ℕ, zero, suc, ◌+◌, ◌-◌, ◌≤◌, Bool, true, false, cond, nat_le, ◌==◌, List, [], ◌∷◌, length, drop, Option, Some, None, ap, arith}
use Rattle.std.specs.Prelude.{IfSome}
use Rattle.std.specs.List.{flat_map}
use Rattle.std.specs.Option.{option_and_then}
use Rattle.std.proofs.lemmas.List.{length-append, length-drop, length-map}
use Rattle.avp_lists.specs.declared.pairs.AttrId.TheVariants.{Plain}
use Rattle.avp_lists.specs.declared.pairs.Pair.{Pair}
use Rattle.avp_dict.specs.declared.entries.Format.{Format}
use Rattle.avp_dict.specs.Dictionary.{Dictionary}
use Rattle.avp_dict.specs.AttributeNumbers.{vendor_specific}
use Rattle.avp_packet.specs.Meanings.{Subattribute, are_subattributes, begins_subattribute, extended_pair, first_pairs, first_run, first_subattribute, long_pair, attribute_pairs, meaning_after, continued, pair_meant, subattribute_length, subattribute_pair, subattributes, subattributes_after, subattributes_by, vendor_of, vendor_pairs, vendor_subattributes}
use Rattle.avp_packet.specs.Splitting.{Part, left, part_octets, parts}
use Rattle.avp_packet.specs.VendorFormats.{known_format}
use Rattle.avp_packet.specs.ExtendedTypes.{holds_one, holds_long}
use Rattle.avp_packet.proofs.Splits.{is_split}

kept_short : (b : Bool) (ss : List Subattribute) (n : ℕ) → length ss ≤ n → length (cond b ss []) ≤ n
kept_short true ss n h = h
kept_short false ss n h = omega arith

subattributes_short : (f : Format) (k : ℕ) (os : List ℕ) → length (subattributes_after f k os) ≤ length os
unfolding subattributes_after
subattributes_short f k [] = omega arith
subattributes_short f (suc k) (o ∷ os) = let rest = subattributes_short f k os in omega (arith, rest)
subattributes_short f zero (o ∷ os) =
    let rest = subattributes_short f (subattribute_length f (o ∷ os) - 1) os in
    kept_short (begins_subattribute f (o ∷ os)) (first_subattribute f (o ∷ os) ∷ subattributes_after f (subattribute_length f (o ∷ os) - 1) os) (suc (length os)) (omega (arith, rest))

module _ (dictionary : Dictionary) (secret authenticator : List ℕ) where
  vendor_short : (part : Part) → length (vendor_pairs dictionary secret authenticator part (vendor_subattributes dictionary part.value)) ≤ 2 + length part.value
  unfolding vendor_subattributes
  vendor_short part = by_room (nat_le 4 (length part.value))
    where
      of_subattributes : (o : Option (List Subattribute)) → IfSome o (λ ss. length ss ≤ length part.value) → length (vendor_pairs dictionary secret authenticator part o) ≤ 2 + length part.value
      of_subattributes None h = omega arith
      of_subattributes (Some ss) h = let same = length-map ss (subattribute_pair dictionary secret authenticator (vendor_of part.value)) in omega (arith, same, h)

      kept : (b : Bool) (ss : List Subattribute) → length ss ≤ length part.value → IfSome (cond b (Some ss) None) (λ found. length found ≤ length part.value)
      kept true ss h = h
      kept false ss h = tt

      by_format : (o : Option Format) → IfSome (option_and_then (subattributes_by part.value) o) (λ ss. length ss ≤ length part.value)
      by_format None = tt
      by_format (Some f) =
          let same = length-drop 4 part.value in
          let short = subattributes_short f 0 (drop 4 part.value) in
          kept (are_subattributes f (drop 4 part.value)) (subattributes f (drop 4 part.value)) (omega (arith, same, short))

      by_room : (b : Bool) → length (vendor_pairs dictionary secret authenticator part (cond b (option_and_then (subattributes_by part.value) (known_format (vendor_of part.value) dictionary)) None)) ≤ 2 + length part.value
      by_room true = of_subattributes (option_and_then (subattributes_by part.value) (known_format (vendor_of part.value) dictionary)) (by_format (known_format (vendor_of part.value) dictionary))
      by_room false = omega arith

  chosen : (a b : List Pair) (test : Bool) (n : ℕ) → length a ≤ n → length b ≤ n → length (cond test a b) ≤ n
  chosen a b true n h g = h
  chosen a b false n h g = g

  first_short : (part : Part) (ps : List Part) → length (first_pairs dictionary secret authenticator part ps) ≤ 2 + length part.value
  first_short part ps =
      let n = 2 + length part.value in
      let one : (p : Pair) → length (p ∷ []) ≤ n = λ p. omega arith in
      chosen _ _ (part.number == vendor_specific) n (vendor_short part)
      (chosen _ _ (holds_one part.number) n (one (extended_pair dictionary secret authenticator part))
      (chosen _ _ (holds_long part.number) n (one (long_pair dictionary secret authenticator part (first_run part ps))) (one (pair_meant dictionary secret authenticator (Plain part.number) part.value))))

  meaning_short : (k : ℕ) (ps : List Part) → length (meaning_after dictionary secret authenticator k ps) ≤ length (flat_map part_octets ps)
  unfolding meaning_after
  meaning_short k [] = omega arith
  meaning_short (suc k) (part ∷ ps) =
      let rest = meaning_short k ps in
      let all = length-append (part_octets part) (flat_map part_octets ps) in
      omega (arith, rest, all)
  meaning_short zero (part ∷ ps) =
      let first = first_short part ps in
      let rest = meaning_short (continued part ps) ps in
      let here = length-append (first_pairs dictionary secret authenticator part ps) (meaning_after dictionary secret authenticator (continued part ps) ps) in
      let all = length-append (part_octets part) (flat_map part_octets ps) in
      omega (arith, first, rest, here, all)

  -- octets mean no more pairs than there are octets
  pub few_pairs : (os : List ℕ) → length (attribute_pairs dictionary secret authenticator (parts os)) ≤ length os
  few_pairs os =
      let short = meaning_short 0 (parts os) in
      let whole = ap length ((is_split os).whole) ∙ length-append (flat_map part_octets (parts os)) (left os) in
      omega (arith, short, whole)
