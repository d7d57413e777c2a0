-- What each line of a file set is read as, by the lines before it, or the first refusal.
use Rattle.std.specs.Prelude.{codes, ℕ, Bool, nat_lt, if◌then◌else◌, List, [], ◌∷◌, ◌++◌, length, Option, Some, None, Result, Ok, Err}
use Rattle.avp_dict.specs.declared.file.files.NamedFile.{NamedFile}
use Rattle.avp_dict.specs.declared.faults.RefusedWord.{RefusedWord}
use Rattle.avp_dict.specs.declared.faults.DictKind.TheVariants.{Unreadable, NoFile, TooDeep, TooLong}
use Rattle.avp_dict.specs.declared.faults.RefusedLine.{RefusedLine}
use Rattle.avp_dict.specs.Meanings.{Meaning, Nothing, Skipped, SkippedAttribute, Value, Reading, Context, context_of}
use Rattle.avp_dict.specs.Lines.{Line, is_include, file_included, max_depth}
use Rattle.avp_dict.specs.Words.{words_of, same_name}
use Rattle.avp_dict.specs.Refusals.{◌>>=◌, at_word, miscounted, refused_at, word_read}
use Rattle.avp_dict.specs.AttributeNumbers.{greatest_value}
use Rattle.avp_dict.specs.Blocks.{is_skipping, block_vendor, begin_vendor, end_vendor, begin_tlv, end_tlv}
use Rattle.avp_dict.specs.Vendors.{bounded, vendor}
use Rattle.avp_dict.specs.Attributes.{attribute}

-- ---- includes

-- whether the file has to be there, its place if it is, and the depth of the line
abbrev pub include_line : Bool → Option ℕ → ℕ → Result Meaning RefusedWord
include_line required None depth = if required then Err (at_word 1 NoFile) else Ok Skipped
include_line required (Some place) depth =
    if nat_lt depth max_depth then Ok Nothing else Err (at_word 0 TooDeep)

unfoldable pub include : Option ℕ → ℕ → List ℕ → List (List ℕ) → Result Meaning RefusedWord
include included depth head (path ∷ []) = include_line (same_name head (codes "$include")) included depth
include included depth head words = Err (miscounted 1 words)

-- ---- VALUE lines, whose names are resolved after the last line

abbrev pub value_words : List ℕ → List ℕ → List ℕ → Result Meaning RefusedWord
value_words attribute name number =
    word_read 3 (bounded greatest_value number) >>= λ n. Ok (Value attribute name n)

unfoldable pub value : List (List ℕ) → Result Meaning RefusedWord
value (attribute ∷ name ∷ number ∷ []) = value_words attribute name number
value words = Err (miscounted 3 words)

-- ---- a line

-- a line in a skipped block, other than its BEGIN and END, includes and blank lines
abbrev pub skipped_line : List ℕ → List (List ℕ) → Meaning
skipped_line head [] = Skipped
skipped_line head (name ∷ words) =
    if same_name head (codes "attribute") then SkippedAttribute name else Skipped

unfoldable pub plain_line : Context → Option ℕ → List ℕ → List (List ℕ) → Result Meaning RefusedWord
plain_line before block head rest =
    if same_name head (codes "attribute") then attribute before block rest
    else if same_name head (codes "value") then value rest
    else if same_name head (codes "vendor") then vendor before.vendors rest
    else Err (at_word 0 Unreadable)

-- the words of a line after its first, by what the lines before it leave; found is the place of the file that it
-- includes
unfoldable pub read_head : Context → Option ℕ → ℕ → List ℕ → List (List ℕ)
    → Result Meaning RefusedWord
read_head before included depth head rest =
    if is_include head then include included depth head rest
    else if same_name head (codes "begin-vendor")
    then begin_vendor before.vendors before.opened rest
    else if same_name head (codes "end-vendor") then end_vendor before.opened rest
    else if same_name head (codes "begin-tlv") then begin_tlv rest
    else if same_name head (codes "end-tlv") then end_tlv before.opened rest
    else if is_skipping before.opened then Ok (skipped_line head rest)
    else plain_line before (block_vendor before.opened) head rest

unfoldable pub read_words : Context → Option ℕ → ℕ → List (List ℕ) → Result Meaning RefusedWord
read_words before included depth [] = Ok Nothing
read_words before included depth (head ∷ rest) = read_head before included depth head rest

-- a line, by what the lines before it leave
unfoldable pub read_line : List NamedFile → Context → Line → Result Meaning RefusedWord
read_line files before line =
    read_words before (file_included files line.text) line.depth (words_of line.text)

-- so many lines are read; one more is refused, before anything else about it
abbrev pub within : ℕ → List Reading → Result Meaning RefusedWord → Result Meaning RefusedWord
within limit before read = if nat_lt (length before) limit then read else Err (at_word 0 TooLong)

-- what the lines are read as, so many at most: each by the lines before it, or the first refusal
unfoldable pub read_lines : ℕ → List NamedFile → List Reading → List Line
    → Result (List Reading) RefusedLine
read_lines limit files before [] = Ok before
read_lines limit files before (line ∷ lines) =
    refused_at line.file line.number
    (within limit before (read_line files (context_of before) line))
    >>= λ meaning.
    read_lines limit files
    (before ++ record { file = line.file; line = line.number; meaning = meaning } ∷ []) lines
