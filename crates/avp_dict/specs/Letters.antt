-- Which octets names are made of, and how long they may be.
use Rattle.std.specs.Prelude.{codes, ℕ, ◌-◌, Bool, ◌&&◌, ◌||◌, ◌==◌, nat_eq, nat_le, if◌then◌else◌, List, take, length, slice_index}
use Rattle.std.specs.List.{before_first, list_any}
use Rattle.avp_dict.specs.Ascii.{comma, full_stop, left_bracket, right_bracket}
use Rattle.avp_dict.specs.Words.{lower, same_name}

-- the most octets of a name
abbrev pub max_name : ℕ
max_name = 128

abbrev pub is_dot : ℕ → Bool
is_dot o = o == full_stop

abbrev pub is_comma : ℕ → Bool
is_comma o = o == comma

abbrev pub is_visible : ℕ → Bool
is_visible o = nat_le 33 o && nat_le o 126

abbrev pub is_decimal : ℕ → Bool
is_decimal o = nat_le 48 o && nat_le o 57

abbrev pub is_letter : ℕ → Bool
is_letter o = nat_le 97 (lower o) && nat_le (lower o) 122

-- an octet of an attribute's name
abbrev pub is_name_octet : ℕ → Bool
is_name_octet o = is_letter o || is_decimal o || list_any (nat_eq o) (codes "-_./")

-- an octet of a VALUE name
abbrev pub is_value_name_octet : ℕ → Bool
is_value_name_octet o = is_name_octet o || list_any (nat_eq o) (codes ":@")

-- attr- and a digit
abbrev pub begins_as_attr : List ℕ → Bool
begins_as_attr name = same_name (take 5 name) (codes "attr-") && is_decimal (slice_index name 5)

-- a type word without a part in square brackets at its end
abbrev pub word_before_bracket : List ℕ → List ℕ
word_before_bracket word =
    if slice_index word (length word - 1) == right_bracket
    then before_first (λ o. o == left_bracket) word else word
