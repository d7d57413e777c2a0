-- What an edit keeps of each pair of a reply list, if the pair that it adds has it.
use Rattle.std.proofs.Common.{◌≡◌, ◌+◌, false, true, cond, [], ◌∷◌, ◌++◌, List, filter, take, drop, refl}
use Rattle.std.specs.List.{All, position_or_len}
use Rattle.std.proofs.lemmas.List.Elements.{All-append, All-cons, All-drop, All-filter, All-push, All-take}
use Rattle.avp_lists.specs.Selections.{agrees_selected, apply_selected, differs_selected, edited_selected, has_selected, is_unselected}
use Rattle.avp_lists.specs.Tags.{is_selected}
use Rattle.avp_lists.specs.declared.pairs.Pair.{Pair}
use Rattle.avp_lists.specs.declared.edits.Op.{Op}
use Rattle.avp_lists.specs.declared.edits.Op.TheVariants.{AddNew, Append, KeepEqual, Prepend, RemoveAll, RemoveEqual, Replace}
use Rattle.avp_lists.specs.declared.lists.List.{List as Name}
use Rattle.avp_lists.specs.declared.lists.List.TheVariants.{Control, Reply, Request}
use Rattle.avp_lists.specs.declared.lists.State.{State}
use Rattle.avp_lists.specs.declared.tags.Selection.{Selection}
use Rattle.avp_unlang.specs.Sources.{is_removal}

module _ (P : Pair → Type 0) (selection : Selection) where
  -- what an operator makes of pairs that have it, with one that has it unless the operator removes all
  pub applied : (op : Op) (p : Pair) (pairs : List Pair) → (is_removal op ≡ false → P p) → All P pairs → All P (apply_selected selection op p pairs)
  applied AddNew p pairs h all = elim (has_selected selection p.id pairs) as (λ b. All P (cond b pairs (pairs ++ p ∷ []))) [ true ↦ all | false ↦ All-push P pairs p all (h refl) ]
  applied Replace p pairs h all =
      let n = position_or_len (is_selected selection p.id) pairs in
      let later = All-filter (is_unselected selection p.id) P (drop (n + 1) pairs) (All-drop P (n + 1) pairs all) in
      All-append P (take n pairs) (p ∷ filter (is_unselected selection p.id) (drop (n + 1) pairs)) (All-take P n pairs all)
      (All-cons P p (filter (is_unselected selection p.id) (drop (n + 1) pairs)) (h refl) later)
  applied Append p pairs h all = All-push P pairs p all (h refl)
  applied Prepend p pairs h all = All-cons P p pairs (h refl) all
  applied RemoveEqual p pairs h all = All-filter (differs_selected selection p) P pairs all
  applied KeepEqual p pairs h all = All-filter (agrees_selected selection p) P pairs all
  applied RemoveAll p pairs h all = All-filter (is_unselected selection p.id) P pairs all

  -- an edit of the reply list, or of another one
  pub edit_keeps : (list : Name) (op : Op) (p : Pair) (s : State) → (is_removal op ≡ false → P p) → All P s.reply → All P (edited_selected selection (record { list = list; op = op; pair = p }) s).reply
  edit_keeps Request op p s h all = all
  edit_keeps Reply op p s h all = applied op p s.reply h all
  edit_keeps Control op p s h all = all
