-- Names by number that stand for nothing.
use Rattle.std.proofs.Common.{◌≡◌, ℕ, ◌<◌, ◌≤◌, ◌^◌, Bool, true, false, cond, arith, List, [], ◌∷◌, Option, Some, None, refl, nat_le}
use Rattle.std.specs.List.{onto_first, slice_split}
use Rattle.std.proofs.lemmas.Grind.{common_steps}
use Rattle.avp_dict.specs.declared.file.numbers.TheConstants.{GREATEST_NUMBER}
use Rattle.avp_dict.specs.declared.entries.VendorFormat.{VendorFormat}
use Rattle.avp_dict.specs.declared.entries.VendorLine.{VendorLine}
use Rattle.avp_dict.specs.Attributes.{max_in}
use Rattle.avp_dict.specs.Dictionary.{format_of}
use Rattle.avp_dict.specs.Letters.{is_dot}
use Rattle.avp_dict.specs.Names.{id_numbered, vendor_id_numbered}
use Rattle.avp_dict.specs.Settled.{holds, is_in_format}

past_most : (t n : ℕ) → GREATEST_NUMBER < n → nat_le n (max_in t) ≡ false
past_most t n h = grind (arith, common_steps)

past_format : (format : Option VendorFormat) (n : ℕ) → GREATEST_NUMBER < n → holds n format ≡ false
past_format None n h = refl
past_format (Some f) n h = grind (arith, common_steps, past_most f.t n h)

pub past_formats : (vendors : List VendorLine) (v n : ℕ) → GREATEST_NUMBER < n → is_in_format v n vendors ≡ false
unfolding is_in_format
past_formats vendors v n h = past_format (format_of v vendors) n h

-- a number of 2 ^ 64 or more
pub number_past : (vendors : List VendorLine) (v n : ℕ) → 2 ^ 64 ≤ n → vendor_id_numbered vendors (Some v) (Some n) ≡ None
number_past vendors v n h =
    let most : GREATEST_NUMBER < n = omega arith in
    grind (arith, common_steps, past_formats vendors v n most)

pub vendor_past : (vendors : List VendorLine) (v : ℕ) (number : Option ℕ) → 2 ^ 64 ≤ v → vendor_id_numbered vendors (Some v) number ≡ None
vendor_past vendors v None h = refl
vendor_past vendors v (Some n) h = grind (arith, common_steps)

-- four parts or more
more_by : (vendors : List VendorLine) (t v n : List ℕ) (b : Bool) (o : ℕ) (parts : List (List ℕ)) → id_numbered vendors (t ∷ (v ∷ (n ∷ cond b ([] ∷ parts) (onto_first o parts)))) ≡ None
more_by vendors t v n true o parts = refl
more_by vendors t v n false o [] = refl
more_by vendors t v n false o (part ∷ parts) = refl

pub four_parts : (vendors : List VendorLine) (t v n rest : List ℕ) → id_numbered vendors (t ∷ (v ∷ (n ∷ slice_split is_dot rest))) ≡ None
four_parts vendors t v n [] = refl
four_parts vendors t v n (o ∷ os) = more_by vendors t v n (is_dot o) o (slice_split is_dot os)
