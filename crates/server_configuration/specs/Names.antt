-- Names in a folder that is included.
use Rattle.std.specs.Prelude.{ℕ, Bool, true, false, not, ◌&&◌, ◌||◌, ◌==◌, nat_le, List, [], ◌∷◌}

-- A letter, a digit, `.`, `_` or `-`.
abbrev pub is_name_octet : ℕ → Bool
is_name_octet octet = (nat_le 65 octet && nat_le octet 90) || (nat_le 97 octet && nat_le octet 122)
    || (nat_le 48 octet && nat_le octet 57) || octet == 46 || octet == 95 || octet == 45

abbrev pub are_name_octets : List ℕ → Bool
are_name_octets [] = true
are_name_octets (octet ∷ octets) = is_name_octet octet && are_name_octets octets

-- A file of this name is read where its folder is included.
abbrev pub is_included_name : List ℕ → Bool
is_included_name [] = false
is_included_name (first ∷ octets) = not (first == 46) && are_name_octets (first ∷ octets)
