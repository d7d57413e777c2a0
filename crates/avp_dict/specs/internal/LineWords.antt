-- The words of a line, one after the other, as they are found in the text that begins with the line.
use Rattle.std.specs.Prelude.{ℕ, Bool, false, not, ◌||◌, if◌then◌else◌, List, [], ◌∷◌, drop}
use Rattle.std.specs.List.{before_first, filter, position_or_len, prefix_len, slice_split}
use Rattle.avp_dict.specs.Lines.{is_line_end}
use Rattle.avp_dict.specs.Words.{is_blank, is_hash, is_word}

-- an octet at which the words of a line end: the mark of its comment, or its end
abbrev pub ends_words : ℕ → Bool
ends_words o = is_hash o || is_line_end o

-- an octet at which a word goes on
abbrev pub is_in_word : ℕ → Bool
is_in_word o = not (is_blank o || ends_words o)

-- the words of the first line of a text
abbrev pub line_words : List ℕ → List (List ℕ)
line_words text = filter is_word (slice_split is_blank (before_first ends_words text))

-- how many octets the word at the front has
abbrev pub word_size : List ℕ → ℕ
word_size text = prefix_len is_in_word text

-- what follows the end of a word: nothing where the line's words end too
abbrev pub after_word : List ℕ → List ℕ
after_word [] = []
after_word (o ∷ os) = if ends_words o then [] else os

abbrev pub begins_blank : List ℕ → Bool
begins_blank [] = false
begins_blank (o ∷ os) = is_blank o

-- a text from its first line end on
abbrev pub from_line_end : List ℕ → List ℕ
from_line_end text = drop (position_or_len is_line_end text) text
