-- The records of traffic: its lines that are not blank.
use Rattle.std.specs.Prelude.{ℕ, ◌+◌, Bool, not, List, [], ◌∷◌, filter, map, take}
use Rattle.std.specs.List.{list_all, slice_split}
use Rattle.avp_dict.specs.Lines.{is_line_end}
use Rattle.avp_dict.specs.Words.{is_blank}
use Rattle.radpolicy_record_answers.specs.declared.records.TheConstants.{MAX_LINE_OCTETS}

-- a line, or as much of it as shows that it is too long
abbrev pub cut : List ℕ → List ℕ
cut line = take (MAX_LINE_OCTETS + 1) line

-- it has more than blanks
abbrev pub is_record : List ℕ → Bool
is_record line = not (list_all is_blank line)

-- the lines of a text that are not blank, each as far as it is kept; a line ends at LF, and the last one needs none
unfoldable pub records_of : List ℕ → List (List ℕ)
records_of text = filter is_record (map cut (slice_split is_line_end text))

-- all but the last
abbrev pub all_but_last : List (List ℕ) → List (List ℕ)
all_but_last [] = []
all_but_last (line ∷ lines) = before_last line lines
  where
    before_last : List ℕ → List (List ℕ) → List (List ℕ)
    before_last line [] = []
    before_last line (next ∷ lines) = line ∷ before_last next lines

-- those of lines that have ended: what is after the last LF may go on
unfoldable pub ended_records_of : List ℕ → List (List ℕ)
ended_records_of text =
    filter is_record (all_but_last (map cut (slice_split is_line_end text)))
