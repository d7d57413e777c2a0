-- Which profile a policy's or a request's text is written in: the wider one where the comment `# profile: wider` is one
-- of the lines before its first statement or pair.
use Rattle.std.specs.Prelude.{codes, ℕ, Bool, false, ◌&&◌, if◌then◌else◌, List, [], ◌∷◌, Option, None, Some}
use Rattle.std.specs.List.{filter, slice_split}
use Rattle.std.specs.Option.{option_map_or}
use Rattle.avp_dict.specs.Lines.{texts_of}
use Rattle.avp_dict.specs.RequestLines.{is_idle_line}
use Rattle.avp_dict.specs.Words.{is_blank, is_hash, is_word, same_name}
use Rattle.avp_forms.specs.declared.profiles.Profile.{Profile}
use Rattle.avp_forms.specs.declared.profiles.Profile.TheVariants.{Plain, Wider}

-- what follows the `#` of a line that has no more than blanks before it
abbrev pub comment_of : List ℕ → Option (List ℕ)
comment_of [] = None
comment_of (o ∷ os) = if is_blank o then comment_of os else if is_hash o then Some os else None

-- what is between blanks
abbrev pub words_between : List ℕ → List (List ℕ)
words_between text = filter is_word (slice_split is_blank text)

-- `profile:` and `wider`, letters in either case, and no other word
abbrev pub are_wider_words : List (List ℕ) → Bool
are_wider_words (first ∷ second ∷ []) =
    same_name first (codes "profile:") && same_name second (codes "wider")
are_wider_words _ = false

abbrev pub is_wider_comment : List ℕ → Bool
is_wider_comment comment = are_wider_words (words_between comment)

abbrev pub is_wider_line : List ℕ → Bool
is_wider_line line = option_map_or is_wider_comment (comment_of line) false

-- by the first comment that says so, if no line before it holds more than blanks and a comment
abbrev pub profile_of_lines : List (List ℕ) → Profile
profile_of_lines [] = Plain
profile_of_lines (line ∷ lines) =
    if is_wider_line line then Wider
    else if is_idle_line line then profile_of_lines lines else Plain

unfoldable pub profile_of : List ℕ → Profile
profile_of text = profile_of_lines (texts_of text)
