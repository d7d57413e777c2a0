-- Words of a server's text that may name attributes.
use Rattle.std.specs.Prelude.{ℕ, Bool, not, ◌||◌, ◌==◌, nat_eq, List, codes}
use Rattle.std.specs.Char.{is_ascii_alphanumeric}
use Rattle.std.specs.List.{list_any, slice_split}

-- letters, digits, and `-`, `_`, `.` and `/`
unfoldable pub is_name_octet : ℕ → Bool
is_name_octet c = is_ascii_alphanumeric c || list_any (nat_eq c) (codes "-_./")

abbrev pub is_no_name_octet : ℕ → Bool
is_no_name_octet c = not (is_name_octet c)

-- the runs of such octets, some of them empty
abbrev pub words_of : List ℕ → List (List ℕ)
words_of text = slice_split is_no_name_octet text

-- or `:`
abbrev pub is_reference_octet : ℕ → Bool
is_reference_octet c = is_name_octet c || c == 58

-- `{` and `&`
abbrev pub is_opening : ℕ → Bool
is_opening c = c == 123 || c == 38
