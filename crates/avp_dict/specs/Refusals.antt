-- Steps of reading, each of which may be refused.
use Rattle.std.specs.Prelude.{ℕ, ◌+◌, min, List, length, Result, Ok, Err}
use Rattle.avp_dict.specs.declared.faults.DictKind.{DictKind}
use Rattle.avp_dict.specs.declared.faults.DictKind.TheVariants.{Unreadable}
use Rattle.avp_dict.specs.declared.faults.RefusedLine.{RefusedLine}
use Rattle.avp_dict.specs.declared.faults.RefusedWord.{RefusedWord}

-- the next step, with what the last one gave
infixl 10 ◌>>=◌
abbrev pub ◌>>=◌ : {A B F : Type 0} → Result A F → (A → Result B F) → Result B F
(Ok x) >>= f = f x
(Err e) >>= f = Err e

-- a line is refused at its word of this number: 0 is its keyword
abbrev pub at_word : ℕ → DictKind → RefusedWord
at_word word kind = record { word = word; kind = kind }

-- what a word is read as is refused at that word
abbrev pub word_read : {A : Type 0} → ℕ → Result A DictKind → Result A RefusedWord
word_read word (Ok x) = Ok x
word_read word (Err kind) = Err (at_word word kind)

-- so many words at most may follow the keyword, and another number of words does: the first too many, or where one is
-- lacking
abbrev pub miscounted : ℕ → List (List ℕ) → RefusedWord
miscounted most words = at_word (min most (length words) + 1) Unreadable

-- a refusal of a line is one of the file set, at that line
abbrev pub refused_at : {A : Type 0} → ℕ → ℕ → Result A RefusedWord → Result A RefusedLine
refused_at file line (Ok x) = Ok x
refused_at file line (Err refused) = Err (record { file = file; line = line; refused = refused })
