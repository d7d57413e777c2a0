-- The octets for which hexadecimal digits in a text stand.
use Rattle.std.specs.Prelude.{ℕ, ◌+◌, ◌*◌, Bool, false, not, ◌&&◌, nat_lt, if◌then◌else◌, List, [], ◌∷◌, ◌++◌}
use Rattle.std.specs.Char.{digit_value}
use Rattle.avp_dict.specs.Ascii.{line_feed}

abbrev pub is_hexadecimal_digit : ℕ → Bool
is_hexadecimal_digit c = nat_lt (digit_value c) 16

abbrev pub are_pair : ℕ → ℕ → Bool
are_pair high low = is_hexadecimal_digit high && is_hexadecimal_digit low

abbrev pub pair_octet : ℕ → ℕ → ℕ
pair_octet high low = digit_value high * 16 + digit_value low

-- the octets for which the pairs of digits stand that a text begins with, and a line feed
abbrev pub pairs_line : List ℕ → List ℕ
pairs_line (high ∷ low ∷ cs) =
    if are_pair high low then pair_octet high low ∷ pairs_line cs else line_feed ∷ []
pairs_line _ = line_feed ∷ []

-- a text is read from within a run of digits or not
abbrev pub spelled_from : Bool → List ℕ → List ℕ
spelled_from within [] = []
spelled_from within (c ∷ cs) =
    (if is_hexadecimal_digit c && not within then pairs_line (c ∷ cs) ++ pairs_line cs else [])
    ++ spelled_from (is_hexadecimal_digit c) cs

-- a line for each run of digits from its first on, and one from its second on: a digit may be missing
unfoldable pub spelled_octets : List ℕ → List ℕ
spelled_octets text = spelled_from false text
