-- Where the words of a file's lines begin.
use Rattle.std.specs.Prelude.{◌≡◌, ◌≤◌, ℕ, zero, suc, ◌+◌, ◌-◌, true, if◌then◌else◌, List, [], ◌∷◌, Some, drop, length, slice_get, take}
use Rattle.std.specs.List.{before_first, after_first}
use Rattle.avp_dict.specs.LineNumbers.{line_after}
use Rattle.avp_dict.specs.Lines.{is_line_end, texts_of}
use Rattle.avp_dict.specs.RefusedPlaces.{is_before_filled, line_from}
use Rattle.avp_dict.specs.Words.{is_blank, is_hash, words_of}

-- octets from the first that is no blank
abbrev pub from_filled : List ℕ → List ℕ
from_filled [] = []
from_filled (o ∷ os) = if is_blank o then from_filled os else o ∷ os

-- octets from the word of this number, and nothing where they have no such word
abbrev pub from_word : ℕ → List ℕ → List ℕ
from_word zero octets = from_filled octets
from_word (suc word) octets = from_word word (after_first is_blank (from_filled octets))

-- how many octets of a line are before the word of this number; before its comment or its end where it has no such word
abbrev pub before_word : ℕ → List ℕ → ℕ
before_word word line =
    length (before_first is_hash line) - length (from_word word (before_first is_hash line))

-- what follows so many lines
abbrev pub after_lines : ℕ → List ℕ → List ℕ
after_lines zero octets = octets
after_lines (suc lines) octets = after_lines lines (after_first is_line_end octets)

-- how many octets of a file are before this word of the line of this number, from 1 on
unfoldable pub word_offset : ℕ → ℕ → List ℕ → ℕ
word_offset line word octets =
    (length octets - length (after_lines (line - 1) octets))
    + before_word word (before_first is_line_end (after_lines (line - 1) octets))

-- A place on the line of this number of a file: from there on the line has its words from one of them on, which begins
-- there; where it has no more words, its comment or its end is there.
pub record IsWordPlace (octets : List ℕ) (line offset : ℕ) : Type 0 where
  pub text : List ℕ
  pub word : ℕ
  pub within : offset ≤ length octets
  pub line_is : line_after (take offset octets) ≡ line
  pub text_is : slice_get (texts_of octets) (line - 1) ≡ Some text
  pub words : words_of (line_from octets offset) ≡ drop word (words_of text)
  pub filled : is_before_filled offset octets ≡ true
