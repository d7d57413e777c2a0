-- Texts that spell no value.
use Rattle.std.proofs.Common.{◌≡◌, ℕ, ◌+◌, ◌*◌, ◌<◌, Bool, ltb, cond, List, [], ◌∷◌, length, Option, Some, None, arith}
use Rattle.std.specs.Char.{digit_value}
use Rattle.std.specs.List.{slice_split}
use Rattle.std.proofs.lemmas.List.Splits.{length-slice_split}
use Rattle.avp_dict.specs.Spellings.{in_parts, up_to}
use Rattle.avp_dict.specs.Words.{digits}

-- more parts than there have to be
pub in_parts-more : (n : ℕ) (number : List ℕ → Option ℕ) (parts : List (List ℕ)) → n < length parts → in_parts n number parts ≡ None
in_parts-more n number parts h = grind arith

pub some_part : (test : ℕ → Bool) (text : List ℕ) → 0 < length (slice_split test text)
some_part test text = omega (arith, length-slice_split test text)

-- two hexadecimal digits
two_digits_by : (x y : ℕ) → up_to 255 (cond (ltb x 16) (cond (ltb y 16) (Some ((0 * 16 + x) * 16 + y)) None) None) ≡ cond (ltb x 16) (cond (ltb y 16) (Some ((0 * 16 + x) * 16 + y)) None) None
two_digits_by x y = grind arith

pub two_digits : (part : List ℕ) → length part ≡ 2 → up_to 255 (digits 16 part) ≡ digits 16 part
two_digits (a ∷ b ∷ []) h = two_digits_by (digit_value a) (digit_value b)
two_digits _ h = absurd (omega arith)
