-- Of all instances, what a selected edit makes is what the edit makes.
use Rattle.std.proofs.Common.{◌≡◌, List, refl, ap}
use Rattle.avp_lists.specs.declared.pairs.AttrId.{AttrId}
use Rattle.avp_lists.specs.declared.pairs.Pair.{Pair}
use Rattle.avp_lists.specs.declared.edits.Edit.{Edit}
use Rattle.avp_lists.specs.declared.edits.Op.{Op}
use Rattle.avp_lists.specs.declared.edits.Op.TheVariants.{AddNew, Replace, Append, Prepend, RemoveEqual, KeepEqual, RemoveAll}
use Rattle.avp_lists.specs.declared.lists.State.{State}
use Rattle.avp_lists.specs.declared.tags.Selection.TheVariants.{All}
use Rattle.avp_lists.specs.History.{History, after_edit, continued, present}
use Rattle.avp_lists.specs.Instances.{first_instance}
use Rattle.avp_lists.specs.Operators.{apply}
use Rattle.avp_lists.specs.Selections.{after_edit_selected, apply_selected, edited_list_selected, first_selected_instance}
use Rattle.avp_lists.specs.States.{edited_list, list_of, with_list}

pub applies_to_all : (op : Op) (p : Pair) (pairs : List Pair) → apply_selected All op p pairs ≡ apply op p pairs
applies_to_all AddNew p pairs = refl
applies_to_all Replace p pairs = refl
applies_to_all Append p pairs = refl
applies_to_all Prepend p pairs = refl
applies_to_all RemoveEqual p pairs = refl
applies_to_all KeepEqual p pairs = refl
applies_to_all RemoveAll p pairs = refl

pub finds_all : (id : AttrId) (pairs : List Pair) → first_selected_instance All id pairs ≡ first_instance id pairs
finds_all id pairs = refl

pub edits_all : (e : Edit) (s : State) → edited_list_selected All e s ≡ edited_list e s
edits_all e s = applies_to_all e.op e.pair (list_of e.list s)

pub continues_all : (e : Edit) (h : History) → after_edit_selected All e h ≡ after_edit e h
continues_all e h = ap (λ (pairs : List Pair). continued (with_list e.list pairs (present h)) h) (edits_all e (present h))
