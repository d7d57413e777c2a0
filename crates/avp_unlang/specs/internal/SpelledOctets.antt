-- The octets that pairs of hexadecimal digits stand for, a pair after the other.
use Rattle.std.specs.Prelude.{ℕ, ◌+◌, ◌*◌, List, [], ◌∷◌, Option, Some, None}
use Rattle.std.specs.Option.{option_and_then, option_map}
use Rattle.hex.specs.Hex.{hex_digit_value}

-- the octet of two digits, the high one first
abbrev pub octet_spelled : ℕ → ℕ → Option ℕ
octet_spelled high low =
    option_and_then (λ h. option_map (λ l. h * 16 + l) (hex_digit_value low)) (hex_digit_value high)

-- an octet before others, where there is one and there are others
abbrev pub before : Option ℕ → Option (List ℕ) → Option (List ℕ)
before None octets = None
before (Some o) None = None
before (Some o) (Some os) = Some (o ∷ os)

unfoldable pub octets_of_pairs : List ℕ → Option (List ℕ)
octets_of_pairs [] = Some []
octets_of_pairs (digit ∷ []) = None
octets_of_pairs (high ∷ low ∷ rest) = before (octet_spelled high low) (octets_of_pairs rest)

-- what the next pair comes to before what is left; nothing is next at the end
abbrev pub after_pair : Option (Option ℕ) → Option (List ℕ) → Option (List ℕ)
after_pair None left = Some []
after_pair (Some octet) left = before octet left
