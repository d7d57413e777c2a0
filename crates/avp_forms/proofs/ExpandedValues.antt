-- What is put in for values by their types, and how long it is.
use Rattle.std.proofs.Common.{◌≡◌, ◌≤◌, ◌∙◌, ℕ, ℤ, true, false, not, cond, nat_le, ◌&&◌, ◌||◌, List, Option, Some, None, length, IsTrue, is_some, option_map, refl, ap, subst, arith}
use Rattle.std.specs.Fmt.{signed_decimal}
use Rattle.std.proofs.lemmas.Bool.{and_parts, not-true}
use Rattle.std.proofs.lemmas.Bool.Decides.{nat_tests}
use Rattle.hex.specs.Hex.{lower_digits}
use Rattle.hex.proofs.HexLemmas.{length-encode_with}
use Rattle.avp_lists.specs.declared.pairs.AttrId.{AttrId}
use Rattle.avp_lists.specs.declared.pairs.Value.{Value}
use Rattle.avp_lists.specs.declared.pairs.Value.TheVariants as values
use Rattle.avp_dict.specs.Dictionary.{Dictionary}
use Rattle.avp_dict.specs.Names.{Described, described}
use Rattle.avp_dict.specs.Octets.{kind_described, kind_of, octets}
use Rattle.avp_dict.specs.Printing.{address_text, ether_text, hexadecimal, number_text, printed_text, text_by, typed_text}
use Rattle.avp_dict.specs.Sent.{is_container, is_raw}
use Rattle.avp_forms.specs.Expansions.{is_octets, is_printed_by_type, is_short_enough, max_expansion}
use Rattle.avp_forms.specs.Written.{typed_text_put}

module _ (id : AttrId) (d : Dictionary) where
  octets_by : (os : List ℕ) (o : Option Described) → text_by id (values.Bytes os) d o ≡ hexadecimal os
  unfolding octets
  octets_by os None = refl
  octets_by os (Some e) = refl

  pub bytes_put : (os : List ℕ) → typed_text_put id (values.Bytes os) d ≡ hexadecimal os
  unfolding printed_text octets
  bytes_put os =
      elim (is_container id) as (λ b. cond (b || false) (hexadecimal (octets id (values.Bytes os) d)) (text_by id (values.Bytes os) d (described id d)) ≡ hexadecimal os) [
        | true ↦ refl
        | false ↦ octets_by os (described id d)
      ]

  pub raw_put : (os : List ℕ) → typed_text_put id (values.Raw os) d ≡ hexadecimal os
  unfolding printed_text octets
  raw_put os =
      elim (is_container id) as (λ b. cond (b || true) (hexadecimal (octets id (values.Raw os) d)) (text_by id (values.Raw os) d (described id d)) ≡ hexadecimal os) [
        | true ↦ refl
        | false ↦ refl
      ]

  module _ (v : Value) (raw : is_raw v ≡ false) where
    printed_typed : (e : Described) → is_container id ≡ false → described id d ≡ Some e → printed_text id v d ≡ typed_text e.kind id v d
    unfolding printed_text
    printed_typed e values is =
        let by_number : (is_container id || is_raw v) ≡ false = rw (values, raw) refl in
        ap (λ b. cond b (hexadecimal (octets id v d)) (text_by id v d (described id d))) by_number ∙ ap (text_by id v d) is

    by_line : (o : Option Described) → is_some (option_map kind_described o) ≡ true → (e : Described) × (o ≡ Some e)
    by_line None h = absurd cc
    by_line (Some e) h = (e, refl)

    -- a number or an address is printed by its attribute's type
    by_type : is_octets v ≡ false → is_printed_by_type id v d ≡ true → (e : Described) × (described id d ≡ Some e) × (printed_text id v d ≡ typed_text e.kind id v d)
    by_type other h =
        let both = and_parts (not (is_container id)) (is_some (kind_of id d)) (subst (λ b. (b || (not (is_container id) && is_some (kind_of id d))) ≡ true) other h) in
        let line = by_line (described id d) both.1 in
        (line.0, line.1, printed_typed line.0 (not-true (is_container id) both.0) line.1)

  some_line : (e f : Described) (o : Option Described) → o ≡ Some e → o ≡ Some f → e ≡ f
  some_line e f None p q = absurd cc
  some_line e f (Some g) p q = cc

  pub number_put : (n : ℕ) (e : Described) → described id d ≡ Some e → is_printed_by_type id (values.Int n) d ≡ true → typed_text_put id (values.Int n) d ≡ number_text e.kind id n d
  number_put n e is h =
      let t = by_type (values.Int n) refl refl h in
      t.2 ∙ ap (λ (f : Described). number_text f.kind id n d) (some_line t.0 e (described id d) t.1 is)

  pub signed_put : (z : ℤ) → is_printed_by_type id (values.Signed z) d ≡ true → typed_text_put id (values.Signed z) d ≡ signed_decimal z
  signed_put z h = (by_type (values.Signed z) refl refl h).2

  pub address_put : (os : List ℕ) → is_printed_by_type id (values.Addr os) d ≡ true → typed_text_put id (values.Addr os) d ≡ address_text os
  address_put os h = (by_type (values.Addr os) refl refl h).2

  pub ether_put : (os : List ℕ) → is_printed_by_type id (values.Ether os) d ≡ true → typed_text_put id (values.Ether os) d ≡ ether_text os
  ether_put os h = (by_type (values.Ether os) refl refl h).2

-- ---- lengths

pub digits_within : (os : List ℕ) → length os ≤ 4012 → length (hexadecimal os) ≤ max_expansion
digits_within os h = let e = length-encode_with lower_digits os in omega (arith, e, h)

short_octets : (os : List ℕ) → nat_le (length os) 4012 ≡ true → length os ≤ 4012
short_octets os h = grind (arith, nat_tests)

pub short_bytes : (v : Value) (os : List ℕ) → v ≡ values.Bytes os → IsTrue (is_short_enough v) → length os ≤ 4012
short_bytes v os is h = short_octets os (subst (λ x. is_short_enough x ≡ true) is h)

pub short_raw : (v : Value) (os : List ℕ) → v ≡ values.Raw os → IsTrue (is_short_enough v) → length os ≤ 4012
short_raw v os is h = short_octets os (subst (λ x. is_short_enough x ≡ true) is h)
