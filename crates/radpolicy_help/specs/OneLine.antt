-- Help for a fault on one line.
use Rattle.std.specs.Prelude.{codes, ℕ, Bool, false, true, not, ◌==◌, ◌&&◌, ◌||◌, nat_le, List, [], ◌∷◌, ◌++◌, length, take, bytes_eq}
use Rattle.std.specs.List.{filter, flat_map}
use Rattle.avp_dict.specs.Lines.{texts_of}

abbrev pub is_colon : ℕ → Bool
is_colon o = o == 58

abbrev pub is_digit : ℕ → Bool
is_digit o = nat_le 48 o && nat_le o 57

-- digits alone from here on, one or more where none came before
abbrev pub are_digits : Bool → List ℕ → Bool
are_digits some [] = some
are_digits some (o ∷ os) = is_digit o && are_digits true os

-- a place, as `PATH:LINE:COLUMN`, has a colon with nothing but digits behind it, one or more
abbrev pub is_place : List ℕ → Bool
is_place [] = false
is_place (o ∷ os) = (is_colon o && are_digits false os) || is_place os

-- a line of help has something, and no four blanks before it, behind which it quotes a file
abbrev pub is_sentence : List ℕ → Bool
is_sentence line = not (length line == 0) && not (bytes_eq (take 4 line) (codes "    "))

-- such lines, each behind a colon and a blank
abbrev pub after_colons : List (List ℕ) → List ℕ
after_colons lines = flat_map (λ line. codes ": " ++ line) (filter is_sentence lines)

abbrev pub sentences : List ℕ → List ℕ
sentences help = after_colons (texts_of help)
