-- The lines of a file set, as one list: each line that includes a file is followed by the lines of that file.
use Rattle.std.specs.Prelude.{◌≡◌, codes, IsTrue, ℕ, zero, suc, ◌+◌, ◌-◌, Bool, true, not, ◌==◌, ◌&&◌, ◌||◌, if◌then◌else◌, List, [], ◌∷◌, ◌++◌, Option, Some, None, slice_get}
use Rattle.std.specs.Option.{option_and_then, option_map_or}
use Rattle.std.specs.List.{onto_first, position, list_any}
use Rattle.std.specs.Str.{bytes_eq}
use Rattle.avp_dict.specs.Ascii.{line_feed, slash}
use Rattle.avp_dict.specs.declared.file.files.NamedFile.{NamedFile}
use Rattle.avp_dict.specs.Words.{words_of, same_name}

-- a line, its file's place in the set, its number there from 1 on, and how many includes led to it
pub record Line : Type 0 where
  pub file : ℕ
  pub number : ℕ
  pub depth : ℕ
  pub text : List ℕ

abbrev pub is_line_end : ℕ → Bool
is_line_end o = o == line_feed

-- a line ends at LF, and an empty rest is no line
abbrev pub texts_of : List ℕ → List (List ℕ)
texts_of [] = []
texts_of (o ∷ os) = if o == line_feed then [] ∷ texts_of os else onto_first o (texts_of os)

-- octets end so: what is left of them after the front
abbrev pub IsEnd : List ℕ → List ℕ → Type 0
IsEnd rest octets = (front : List ℕ) × (octets ≡ front ++ rest)

-- what follows the last slash of the octets, or else the last part so far
abbrev pub last_part : List ℕ → List ℕ → List ℕ
last_part last [] = last
last_part last (o ∷ os) = if o == slash then last_part os os else last_part last os

-- the last component of a path
abbrev pub last_component : List ℕ → List ℕ
last_component path = last_part path path

-- $INCLUDE, or $INCLUDE-
abbrev pub is_include : List ℕ → Bool
is_include word = same_name word (codes "$include") || same_name word (codes "$include-")

-- the name of the file that a line of these words includes
abbrev pub included_by : List (List ℕ) → Option (List ℕ)
included_by (head ∷ path ∷ []) = if is_include head then Some (last_component path) else None
included_by _ = None

abbrev pub has_name : List ℕ → NamedFile → Bool
has_name name file = bytes_eq file.name name

-- no file has the name of a later one
abbrev pub names_differ : List NamedFile → Bool
names_differ [] = true
names_differ (file ∷ files) = not (list_any (has_name file.name) files) && names_differ files

abbrev pub HasDistinctNames : List NamedFile → Type 0
HasDistinctNames files = IsTrue (names_differ files)

-- the place of the file with this name
abbrev pub file_named : List ℕ → List NamedFile → Option ℕ
file_named name files = position (has_name name) files

-- the octets of the file at this place
abbrev pub octets_at : List NamedFile → ℕ → List ℕ
octets_at files place = option_map_or (λ file. file.octets) (slice_get files place) []

-- the place of the file that a line includes
abbrev pub file_included : List NamedFile → List ℕ → Option ℕ
file_included files text =
    option_and_then (λ name. file_named name files) (included_by (words_of text))

-- what follows a line: the lines of the file that it includes, as lines_at gives them
abbrev pub lines_below : List NamedFile → (ℕ → List Line) → List ℕ → List Line
lines_below files lines_at text = option_map_or lines_at (file_included files text) []

-- the texts as lines from this number on, each followed by what is below it
abbrev pub expanded : (List ℕ → List Line) → ℕ → ℕ → ℕ → List (List ℕ) → List Line
expanded below file depth number [] = []
expanded below file depth number (text ∷ texts) =
    record { file = file; number = number; depth = depth; text = text }
    ∷ (below text ++ expanded below file depth (number + 1) texts)

-- the most includes that may lead to a file
abbrev pub max_depth : ℕ
max_depth = 8

-- the lines of a file, where so many levels of files may be open, itself included
unfoldable pub lines_in : List NamedFile → ℕ → ℕ → List Line
lines_in files zero place = []
lines_in files (suc levels) place =
    expanded (lines_below files (lines_in files levels)) place (max_depth - levels) 1
    (texts_of (octets_at files place))

-- all lines of the set: the main file is the first
unfoldable pub lines_of : List NamedFile → List Line
lines_of files = lines_in files (suc max_depth) 0
