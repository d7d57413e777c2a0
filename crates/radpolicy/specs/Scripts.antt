-- The words of a script, and the report of a walk by them.
use Rattle.std.specs.Prelude.{◌≡◌, ℕ, ◌+◌, Bool, true, false, ◌==◌, ◌++◌, if◌then◌else◌, List, [], ◌∷◌, filter, bytes_eq, codes, decimal, Option, Some, None, Result, Ok, Err}
use Rattle.std.specs.List.{slice_split}
use Rattle.std.specs.Option.{option_and_then, option_map}
use Rattle.avp_dict.specs.Lines.{texts_of}
use Rattle.avp_dict.specs.Words.{is_blank, is_word}
use Rattle.avp_forms.specs.declared.profiles.Profile.{Profile}
use Rattle.avp_step.specs.Walk.{Walk, entry, moved_back, moved_forward, moved_to_end, moved_to_start}
use Rattle.avp_step.specs.declared.labels.Label.{Label}
use Rattle.avp_step.specs.declared.labels.Label.TheVariants as label
use Rattle.avp_step.specs.declared.labels.Move.{Move}
use Rattle.avp_step.specs.declared.labels.Move.TheVariants as move
use Rattle.radpolicy.specs.declared.scripts.ScriptWord.{ScriptWord}
use Rattle.radpolicy.specs.declared.scripts.ScriptWord.TheVariants as word
use Rattle.radpolicy.specs.Reports.{code_text, state_text}
use Rattle.radpolicy.specs.declared.faults.Fault.{Fault}
use Rattle.radpolicy.specs.declared.faults.Fault.TheVariants as fault

-- ---- texts

-- what a word of a script stands for
unfoldable pub word_named : List ℕ → Option ScriptWord
word_named text =
    if bytes_eq text (codes "forward") then Some (word.Make move.Forward)
    else if bytes_eq text (codes "back") then Some (word.Make move.Back)
    else if bytes_eq text (codes "start") then Some (word.Make move.Start)
    else if bytes_eq text (codes "end") then Some (word.Make move.End)
    else if bytes_eq text (codes "show") then Some word.Show
    else None

-- the words of a line: what is between blanks
abbrev pub line_words : List ℕ → List (List ℕ)
line_words line = filter is_word (slice_split is_blank line)

-- what all words stand for, where each stands for something
unfoldable pub words_named : List (List ℕ) → Option (List ScriptWord)
words_named [] = Some []
words_named (text ∷ texts) =
    option_and_then (λ w. option_map (λ ws. w ∷ ws) (words_named texts)) (word_named text)

abbrev pub after_words : List ScriptWord → Result (List ScriptWord) ℕ → Result (List ScriptWord) ℕ
after_words ws (Ok others) = Ok (ws ++ others)
after_words ws (Err line) = Err line

-- the words of lines, the first of which has this number, or the number of the first line with an unknown word
unfoldable pub script_from : ℕ → List (List ℕ) → Result (List ScriptWord) ℕ
script_from n [] = Ok []
script_from n (line ∷ lines) =
    elim (words_named (line_words line))
    [ None ↦ Err n | Some ws ↦ after_words ws (script_from (n + 1) lines) ]

-- the words of a script, or the line of the first unknown one
abbrev pub script_spelled : List ℕ → Result (List ScriptWord) ℕ
script_spelled text = script_from 1 (texts_of text)

-- a fault is that of an unknown word, with its line
abbrev pub IsUnknownWord : Fault → Result (List ScriptWord) ℕ → Type 0
IsUnknownWord f (Ok script) = ⊥
IsUnknownWord f (Err line) = f ≡ fault.ScriptWord line

-- ---- walks

abbrev pub moved : Move → Walk → Walk
moved move.Forward w = moved_forward w
moved move.Back w = moved_back w
moved move.Start w = moved_to_start w
moved move.End w = moved_to_end w

-- where a walk is after a word
abbrev pub after_script_word : ScriptWord → Walk → Walk
after_script_word (word.Make m) w = moved m w
after_script_word word.Show w = w

-- where a walk is after a script
abbrev pub after_script : List ScriptWord → Walk → Walk
after_script [] w = w
after_script (x ∷ xs) w = after_script xs (after_script_word x w)

abbrev pub truth_text : Bool → List ℕ
truth_text true = codes "true"
truth_text false = codes "false"

-- what a step did, with the line of the policy's text
abbrev pub label_text : Label → List ℕ
label_text label.Start = codes "start"
label_text (label.Line n) = codes "line " ++ decimal n
label_text (label.Failed n k) = codes "line " ++ decimal n ++ codes " failed P" ++ decimal k
label_text (label.If n truth) = codes "if " ++ decimal n ++ codes " " ++ truth_text truth
label_text (label.Word n) = codes "word " ++ decimal n
label_text (label.Enter n) = codes "enter " ++ decimal n
label_text (label.Commit n) = codes "commit " ++ decimal n
label_text (label.Rollback n) = codes "rollback " ++ decimal n

-- said where the position did not change
abbrev pub stays_text : Bool → List ℕ
stays_text true = codes " stays"
stays_text false = []

-- the line of a move from a position: the position, the step's label and the code as they are afterwards
abbrev pub move_line : ℕ → Walk → List ℕ
move_line before after =
    decimal after.position ++ codes " " ++ label_text (entry after).label ++ codes " "
    ++ code_text (entry after).outcome.code
    ++ stays_text (after.position == before) ++ codes "\n"

-- what a word prints: the line of a move, or the three lists as the policy's profile prints them
abbrev pub word_text : Profile → ScriptWord → Walk → List ℕ
word_text profile (word.Make m) w = move_line w.position (moved m w)
word_text profile word.Show w = state_text profile w.dictionary (entry w).outcome.state

-- what a script prints
unfoldable pub script_text : Profile → List ScriptWord → Walk → List ℕ
script_text profile [] w = []
script_text profile (x ∷ xs) w =
    word_text profile x w ++ script_text profile xs (after_script_word x w)
