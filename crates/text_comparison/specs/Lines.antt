-- The lines of a text, which LF ends.
use Rattle.std.specs.Prelude.{ℕ, ◌+◌, ◌-◌, ◌^◌, ◌==◌, min, Bool, if◌then◌else◌, List, [], ◌∷◌, take}
use Rattle.std.specs.List.{count_by, list_any}
use Rattle.text_comparison.specs.declared.lines.TheConstants.{MAX_LINE_OCTETS}

abbrev pub is_line_end : ℕ → Bool
is_line_end o = o == 10

abbrev pub has_line_end : List ℕ → Bool
has_line_end text = list_any is_line_end text

-- what is before the first line end; all, where there is none
abbrev pub first_line : List ℕ → List ℕ
first_line [] = []
first_line (o ∷ text) = if is_line_end o then [] else o ∷ first_line text

-- what is after the last line end; all, where there is none
abbrev pub last_line : List ℕ → List ℕ
last_line [] = []
last_line (o ∷ text) =
    if has_line_end text then last_line text else (if is_line_end o then text else o ∷ text)

-- the number of the last line, from 1, as far as a u64 can count
abbrev pub line_number : List ℕ → ℕ
line_number text = min (2 ^ 64 - 1) (count_by is_line_end text + 1)

-- a line, as far as it is kept
abbrev pub kept : List ℕ → List ℕ
kept line = take MAX_LINE_OCTETS line
