-- What is said of two answers to a record that were compared.
use Rattle.std.specs.Prelude.{ℕ, Bool, if◌then◌else◌, List, [], ◌∷◌, ◌++◌, codes, Result, Ok, Err}
use Rattle.std.specs.List.{flat_map}
use Rattle.avp_lists.specs.Instances.{instances}
use Rattle.avp_lists.specs.declared.lists.List.{List as Name}
use Rattle.avp_lists.specs.declared.lists.List.TheVariants.{Control, Reply}
use Rattle.avp_lists.specs.declared.pairs.AttrId.{AttrId}
use Rattle.avp_lists.specs.declared.pairs.Pair.{Pair}
use Rattle.avp_dict.specs.Dictionary.{Dictionary}
use Rattle.radpolicy.specs.RunOutcomes.{RunOutcome}
use Rattle.avp_forms.specs.Printing.{printed_pair_name, printed_pair_text}
use Rattle.avp_forms.specs.declared.profiles.Profile.TheVariants.{Wider}
use Rattle.radpolicy_common.specs.Secrets.{Redaction, hides}
use Rattle.radpolicy_record_answers.specs.Answers.{refusal_shown, result_shown}
use Rattle.radpolicy_record_answers.specs.Comparisons.{compared_list, ids_of, pairs_eq, same_answers}
use Rattle.radpolicy_record_answers.specs.declared.answers.RecordFault.{RecordFault}
use Rattle.radpolicy_record_answers.specs.declared.comparisons.Comparison.{Comparison}
use Rattle.radpolicy_record_answers.specs.declared.comparisons.Order.{Order}
use Rattle.radpolicy_record_answers.specs.declared.comparisons.Order.TheVariants.{ByName, Ordered}
use Rattle.radpolicy_record_answers.specs.declared.comparisons.Told.{Told}
use Rattle.radpolicy_record_answers.specs.declared.comparisons.Told.TheVariants.{All, Different}
use Rattle.radpolicy_record_answers.specs.declared.verdicts.Verdict.{Verdict}
use Rattle.radpolicy_record_answers.specs.declared.verdicts.Verdict.TheVariants as verdict

-- ---- lists

-- the text of a value by this dictionary, or (hidden)
abbrev pub value_shown : Dictionary → Redaction → Pair → List ℕ
value_shown dictionary redaction pair =
    if hides redaction pair.id pair.value then codes "(hidden)"
    else printed_pair_text Wider pair.id pair.value dictionary

-- a pair by this dictionary, with its line feed
abbrev pub pair_line : Dictionary → Redaction → Pair → List ℕ
pair_line dictionary redaction pair = printed_pair_name Wider pair.id pair.value dictionary
    ++ codes " = " ++ value_shown dictionary redaction pair ++ codes "\n"

-- a pair that the old list alone has, by the dictionary of the old policy
abbrev pub removed_line : Dictionary → Redaction → Pair → List ℕ
removed_line dictionary redaction pair = codes "  - " ++ pair_line dictionary redaction pair

-- a pair that the new list alone has, by that of the new one
abbrev pub added_line : Dictionary → Redaction → Pair → List ℕ
added_line dictionary redaction pair = codes "  + " ++ pair_line dictionary redaction pair

-- two lists, each pair by its line, where they are not equal
abbrev pub pairs_change : (Pair → List ℕ) → (Pair → List ℕ) → List Pair → List Pair → List ℕ
pairs_change removed added old new =
    if pairs_eq old new then [] else flat_map removed old ++ flat_map added new

-- the instances of an attribute in two lists, where they are not equal
abbrev pub instances_change : (Pair → List ℕ) → (Pair → List ℕ) → List Pair → List Pair → AttrId
    → List ℕ
instances_change removed added old new id =
    pairs_change removed added (instances id old) (instances id new)

-- two lists, where they are not the same: whole, or attribute by attribute
unfoldable pub list_change : (Pair → List ℕ) → (Pair → List ℕ) → Order → List Pair → List Pair
    → List ℕ
list_change removed added Ordered old new = pairs_change removed added old new
list_change removed added ByName old new =
    flat_map (instances_change removed added old new) (ids_of old new)

-- ---- answers

-- the result, and whether the run was stopped; or why the record is refused
abbrev pub result_or_fault : Result RunOutcome RecordFault → List ℕ
result_or_fault (Ok outcome) = result_shown outcome.end
result_or_fault (Err f) = refusal_shown f

-- the lines of a list's change below its name, where there are any
abbrev pub named_change : List ℕ → List ℕ → List ℕ
named_change name [] = []
named_change name (o ∷ os) = codes "  " ++ name ++ codes "\n" ++ o ∷ os

-- how a list at the end of two runs differs
abbrev pub change_of : Redaction → Comparison → Name → RunOutcome → RunOutcome → List ℕ
change_of redaction comparison list old new =
    list_change (removed_line old.dictionary redaction) (added_line new.dictionary redaction)
    comparison.order (compared_list comparison list old.end) (compared_list comparison list new.end)

-- how the reply and control lists differ, where both ran
abbrev pub changes_of : Redaction → Comparison → Result RunOutcome RecordFault
    → Result RunOutcome RecordFault → List ℕ
changes_of redaction comparison (Ok old) (Ok new) =
    named_change (codes "reply") (change_of redaction comparison Reply old new)
    ++ named_change (codes "control") (change_of redaction comparison Control old new)
changes_of redaction comparison _ _ = []

-- a record that is answered alike, which has no line unless all are told
abbrev pub same_told : Told → List ℕ → Result RunOutcome RecordFault → List ℕ
same_told Different name answer = []
same_told All name answer = name ++ result_or_fault answer ++ codes "\n"

-- a record that is not
abbrev pub difference_told : Redaction → Comparison → List ℕ → Result RunOutcome RecordFault
    → Result RunOutcome RecordFault → List ℕ
difference_told redaction comparison name old new =
    name ++ result_or_fault old ++ codes " -> " ++ result_or_fault new ++ codes "\n"
    ++ changes_of redaction comparison old new

-- what is said of the answers to the record of this name
unfoldable pub answers_told : Redaction → Comparison → List ℕ → Result RunOutcome RecordFault
    → Result RunOutcome RecordFault → List ℕ
answers_told redaction comparison name old new =
    if same_answers comparison old new then same_told comparison.told name new
    else difference_told redaction comparison name old new

abbrev pub verdict_of_same : Result RunOutcome RecordFault → Verdict
verdict_of_same (Ok _) = verdict.Same
verdict_of_same (Err _) = verdict.Refused

-- what became of a record that was answered so: one that both refuse by one fault is refused
unfoldable pub verdict_of_answers : Comparison → Result RunOutcome RecordFault
    → Result RunOutcome RecordFault → Verdict
verdict_of_answers comparison old new =
    if same_answers comparison old new then verdict_of_same new else verdict.Different
