-- How two lists of pairs are compared, and two answers.
use Rattle.std.specs.Prelude.{◌≡◌, ℕ, ◌==◌, Bool, true, false, not, ◌&&◌, if◌then◌else◌, List, [], ◌∷◌, ◌++◌, Result, Ok, Err, filter, map, ⊤}
use Rattle.std.specs.Borrow.{Bor}
use Rattle.std.specs.List.{fold, list_all, list_any}
use Rattle.avp_lists.specs.Instances.{instances}
use Rattle.avp_lists.specs.Pairs.{id_eq, pair_eq}
use Rattle.avp_lists.specs.States.{list_of}
use Rattle.avp_lists.specs.declared.lists.List.{List as Name}
use Rattle.avp_lists.specs.declared.lists.List.TheVariants.{Control, Reply}
use Rattle.avp_lists.specs.declared.lists.State.{State}
use Rattle.avp_lists.specs.declared.pairs.AttrId.{AttrId}
use Rattle.avp_lists.specs.declared.pairs.Pair.{Pair}
use Rattle.avp_dict.specs.declared.request.faults.LineFault.{LineFault}
use Rattle.avp_unlang.specs.Meaning.{Outcome as End}
use Rattle.avp_unlang.specs.declared.codes.Code.{Code}
use Rattle.avp_unlang.specs.declared.codes.Code.TheVariants as code
use Rattle.radpolicy.specs.Faults.{fault_number}
use Rattle.radpolicy.specs.RunOutcomes.{RunOutcome}
use Rattle.radpolicy.specs.declared.faults.Fault.TheVariants as fault
use Rattle.radpolicy_record_answers.specs.declared.answers.RecordFault.{RecordFault}
use Rattle.radpolicy_record_answers.specs.declared.answers.RecordFault.TheVariants.{ControlList, NoClient, ReplyList, Request, Text}
use Rattle.radpolicy_record_answers.specs.declared.comparisons.Comparison.{Comparison}
use Rattle.radpolicy_record_answers.specs.declared.comparisons.Order.{Order}
use Rattle.radpolicy_record_answers.specs.declared.comparisons.Order.TheVariants.{ByName, Ordered}
use Rattle.radpolicy_traffic_packets.specs.declared.faults.TextFault.{TextFault}
use Rattle.radpolicy_traffic_packets.specs.declared.faults.TextFault.TheVariants as text

-- ---- the lists that are compared

-- the attribute is compared
abbrev pub is_compared : List AttrId → Pair → Bool
is_compared ignored pair = not (list_any (id_eq pair.id) ignored)

-- a list without the attributes that are left out
abbrev pub compared : List AttrId → List Pair → List Pair
compared ignored pairs = filter (is_compared ignored) pairs

-- ---- the same

-- Two lists are the same where they are equal; or, where the order of attributes of different names does not count,
-- where for each attribute its instances in order are equal.
abbrev pub AreSame : Order → List Pair → List Pair → Type 0
AreSame Ordered a b = a ≡ b
AreSame ByName a b = (id : AttrId) → instances id a ≡ instances id b

-- ---- the same, as a test

abbrev pub pairs_eq : List Pair → List Pair → Bool
pairs_eq [] [] = true
pairs_eq (p ∷ ps) (q ∷ qs) = pair_eq p q && pairs_eq ps qs
pairs_eq _ _ = false

-- the ids, and this one at their end where it is not among them
abbrev pub with_id : List AttrId → Pair → List AttrId
with_id ids pair = if list_any (id_eq pair.id) ids then ids else ids ++ pair.id ∷ []

-- the ids of the pairs of two lists, each once, in the order of their first instances
abbrev pub ids_of : List Pair → List Pair → List AttrId
ids_of a b = fold with_id (fold with_id [] a) b

abbrev pub same_instances : List Pair → List Pair → AttrId → Bool
same_instances a b id = pairs_eq (instances id a) (instances id b)

unfoldable pub same_lists : Order → List Pair → List Pair → Bool
same_lists Ordered a b = pairs_eq a b
same_lists ByName a b = list_all (same_instances a b) (ids_of a b)

-- pairs without where they lie in memory
abbrev pub pairs_of : List (Bor Pair) → List Pair
pairs_of refs = map (λ pair. pair.now) refs

-- ---- answers

-- a list at the end of a run, as far as it is compared
abbrev pub compared_list : Comparison → Name → End → List Pair
compared_list comparison list end = compared comparison.ignored.now (list_of list end.state)

-- two runs came to the same result, were both stopped or not, and their reply and control lists are the same
pub record AreSameEnds (comparison : Comparison) (old new : End) : Type 0 where
  pub code : old.code ≡ new.code
  pub stopped : old.stopped ≡ new.stopped
  pub reply : AreSame comparison.order (compared_list comparison Reply old)
      (compared_list comparison Reply new)
  pub control : AreSame comparison.order (compared_list comparison Control old)
      (compared_list comparison Control new)

-- the number of the fault of a line
abbrev pub line_fault_number : LineFault → ℕ
line_fault_number f = fault_number (fault.Request f)

-- the kinds of faults of lines: those that have a number by it
abbrev pub text_fault_number : TextFault → ℕ
text_fault_number text.TooLong = 0
text_fault_number text.OtherCode = 1
text_fault_number (text.Lines f) = line_fault_number f
text_fault_number text.PacketTooLong = fault_number fault.PacketTooLong
text_fault_number text.Memory = fault_number fault.Memory

-- both records are refused by a fault of one number, also of their reply lists or of their control lists, both are of no
-- client, or the lines of both make no packet for one kind of reason
abbrev pub AreSameFaults : RecordFault → RecordFault → Type 0
AreSameFaults (Request f) (Request g) = fault_number f ≡ fault_number g
AreSameFaults NoClient NoClient = ⊤
AreSameFaults (Text f) (Text g) = text_fault_number f ≡ text_fault_number g
AreSameFaults (ReplyList f) (ReplyList g) = line_fault_number f ≡ line_fault_number g
AreSameFaults (ControlList f) (ControlList g) = line_fault_number f ≡ line_fault_number g
AreSameFaults _ _ = ⊥

-- two answers are the same: both are refused alike, or both runs came to the same
abbrev pub AreSameAnswers : Comparison → Result RunOutcome RecordFault
    → Result RunOutcome RecordFault → Type 0
AreSameAnswers comparison (Ok old) (Ok new) = AreSameEnds comparison old.end new.end
AreSameAnswers comparison (Err f) (Err g) = AreSameFaults f g
AreSameAnswers comparison _ _ = ⊥

-- ---- the same, as a test

-- each code has a number of its own
abbrev pub code_number : Code → ℕ
code_number code.Ok = 0
code_number code.Noop = 1
code_number code.Updated = 2
code_number code.Fail = 3
code_number code.Reject = 4

abbrev pub same_code : Code → Code → Bool
same_code a b = code_number a == code_number b

abbrev pub same_stop : Bool → Bool → Bool
same_stop true b = b
same_stop false b = not b

abbrev pub same_list : Comparison → Name → End → End → Bool
same_list comparison list old new = same_lists comparison.order
    (compared_list comparison list old) (compared_list comparison list new)

unfoldable pub same_ends : Comparison → End → End → Bool
same_ends comparison old new = same_code old.code new.code && same_stop old.stopped new.stopped
    && same_list comparison Reply old new && same_list comparison Control old new

abbrev pub same_faults : RecordFault → RecordFault → Bool
same_faults (Request f) (Request g) = fault_number f == fault_number g
same_faults NoClient NoClient = true
same_faults (Text f) (Text g) = text_fault_number f == text_fault_number g
same_faults (ReplyList f) (ReplyList g) = line_fault_number f == line_fault_number g
same_faults (ControlList f) (ControlList g) = line_fault_number f == line_fault_number g
same_faults _ _ = false

abbrev pub same_answers : Comparison → Result RunOutcome RecordFault
    → Result RunOutcome RecordFault → Bool
same_answers comparison (Ok old) (Ok new) = same_ends comparison old.end new.end
same_answers comparison (Err f) (Err g) = same_faults f g
same_answers comparison _ _ = false
