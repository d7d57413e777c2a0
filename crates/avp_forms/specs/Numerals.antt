-- Numbers that are written in digits.
use Rattle.std.specs.Prelude.{ℕ, nat_le, if◌then◌else◌, List, length, Option, None}
use Rattle.avp_dict.specs.Spellings.{up_to}
use Rattle.avp_dict.specs.Words.{digits, number_of}

-- the number of one digit or more, where it is not above the greatest one
unfoldable pub number_within : ℕ → ℕ → List ℕ → Option ℕ
number_within base most text = up_to most (digits base text)

-- the same of so many digits at the most
unfoldable pub short_number : ℕ → ℕ → ℕ → List ℕ → Option ℕ
short_number count base most text =
    if nat_le (length text) count then number_within base most text else None

-- decimal digits, or `0x` and hexadecimal ones, of a number that is not above the greatest one
unfoldable pub number_up_to : ℕ → List ℕ → Option ℕ
number_up_to most text = up_to most (number_of text)
