-- What is read of another number of words, or of parts, than there has to be.
use Rattle.std.proofs.Common.{◌≡◌, ◌≢◌, ℕ, List, [], ◌∷◌, Option, None, Err, length, get_or, refl, true, arith, Bor}
use Rattle.avp_dict.specs.declared.entries.VendorLine.{VendorLine}
use Rattle.avp_dict.specs.Attributes.{id_of_parts, id_of_more}
use Rattle.avp_dict.specs.Readings.{value}
use Rattle.avp_dict.specs.Refusals.{miscounted}
use Rattle.avp_dict.specs.Vendors.{format_parts, two_parts}
use Rattle.avp_dict.specs.Words.{number_of}
use Rattle.avp_dict.specs.internal.Views.{views}

pub many_ids : (vendors : List VendorLine) (block : Option ℕ) (parts : List (Bor (List ℕ))) → length parts ≢ 1 → length parts ≢ 2 → id_of_parts vendors block (views parts) ≡ id_of_more (views parts)
unfolding id_of_parts
many_ids vendors block (n ∷ []) one two = absurd (one refl)
many_ids vendors block (t ∷ x ∷ []) one two = absurd (two refl)
many_ids vendors block _ one two = refl

pub no_value : (words : List (Bor (List ℕ))) → length words ≢ 3 → value (views words) ≡ Err (miscounted 3 (views words))
unfolding value
no_value (a ∷ b ∷ c ∷ []) three = absurd (three refl)
no_value _ three = refl

pub three_parts : (parts : List (Bor (List ℕ))) (d e : Bor (List ℕ)) → length parts ≡ 3 → two_parts true (number_of (get_or parts 0 d).now) (number_of (get_or parts 1 e).now) ≡ format_parts (views parts)
three_parts (a ∷ b ∷ c ∷ []) d e h = refl
three_parts _ d e h = absurd (omega (arith, h))

pub no_format : (parts : List (Bor (List ℕ))) → length parts ≢ 2 → length parts ≢ 3 → format_parts (views parts) ≡ None
no_format (a ∷ b ∷ []) two three = absurd (two refl)
no_format (a ∷ b ∷ c ∷ []) two three = absurd (three refl)
no_format _ two three = refl
