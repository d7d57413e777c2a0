-- The line that a trace's first steps give, by the last of them.
use Rattle.std.proofs.Common.{◌≡◌, ℕ, zero, suc, ◌+◌, ◌-◌, ◌<◌, List, [], ◌∷◌, Option, Some, None, take, slice_index_or, length, refl, sym, ap, ◌∙◌, subst, arith}
use Rattle.std.specs.Option.{option_or}
use Rattle.avp_lists.specs.States.{empty_state}
use Rattle.avp_lists.specs.declared.lists.List.{List as Name}
use Rattle.avp_lists.specs.declared.pairs.AttrId.{AttrId}
use Rattle.avp_lists.specs.declared.pairs.Pair.{Pair}
use Rattle.avp_step.specs.Trace.{Entry, start}
use Rattle.avp_step.specs.Walk.{IsWithin, Walk, entry, moved_back}
use Rattle.avp_step.specs.declared.labels.Label.{Label}
use Rattle.radpolicy_changing_lines.specs.ChangingLines.{changing_line, instances_in, line_after, line_made, step_line}

or_none : (x : Option ℕ) → option_or x None ≡ x
or_none None = refl
or_none (Some n) = refl

or_or : (x y z : Option ℕ) → option_or (option_or x y) z ≡ option_or x (option_or y z)
or_or None y z = refl
or_or (Some n) y z = refl

abbrev at : List Entry → ℕ → Entry
at trace k = slice_index_or trace k (start empty_state)

module _ (list : Name) (id : AttrId) where
  one_more : (before : Entry) (steps : List Entry) (k : ℕ) → k < length steps → line_after list id before (take (suc k) steps) ≡ option_or (step_line list id (at (before ∷ steps) k) (at steps k)) (line_after list id before (take k steps))
  one_more before [] k within = absurd (omega arith)
  one_more before (step ∷ steps) zero within = sym (or_none (step_line list id before step))
  one_more before (step ∷ steps) (suc k) within =
      ap (λ x. option_or x (step_line list id before step)) (one_more step steps k (omega arith))
      ∙ or_or (step_line list id (at (step ∷ steps) k) (at steps k)) (line_after list id step (take k steps)) (step_line list id before step)

  -- the line of the first steps, by the last of them
  pub last_step : (trace : List Entry) (k : ℕ) → suc k < length trace → changing_line list id (take (suc (suc k)) trace) ≡ option_or (step_line list id (at trace k) (at trace (suc k))) (changing_line list id (take (suc k) trace))
  last_step [] k within = absurd (omega arith)
  last_step (first ∷ steps) k within = one_more first steps k (omega arith)

  pub start_alone : (trace : List Entry) → changing_line list id (take 1 trace) ≡ None
  start_alone [] = refl
  start_alone (first ∷ steps) = refl

  -- ---- where a run is

  here : (w : Walk) → 0 < w.position → IsWithin w → changing_line list id (take (w.position + 1) w.trace) ≡ option_or (line_made (instances_in list id (entry (moved_back w))) (instances_in list id (entry w)) (entry w).label) (changing_line list id (take ((moved_back w).position + 1) w.trace))
  here w some within =
      let k = w.position - 1 in
      let e : w.position + 1 ≡ suc (suc k) = omega (arith, some) in
      let f : suc k ≡ w.position = omega (arith, some) in
      let g : suc k ≡ (w.position - 1) + 1 = omega arith in
      let below : suc k < length w.trace = omega (arith, some, within.0, within.1) in
      ap (λ n. changing_line list id (take n w.trace)) e ∙ last_step w.trace k below
      ∙ ap (λ n. option_or (step_line list id (at w.trace k) (at w.trace n)) (changing_line list id (take (suc k) w.trace))) f
      ∙ ap (λ n. option_or (step_line list id (at w.trace k) (entry w)) (changing_line list id (take n w.trace))) g

  -- a step back, by what was copied before and after it
  pub step_back : (trace : List Entry) (w v : Walk) (before after : List Pair) (label : Label) → w.trace ≡ trace → 0 < w.position → IsWithin w → v ≡ moved_back w → before ≡ instances_in list id (entry v) → after ≡ instances_in list id (entry w) → label ≡ (entry w).label → changing_line list id (take (w.position + 1) trace) ≡ option_or (line_made before after label) (changing_line list id (take (v.position + 1) trace))
  step_back trace w v before after label same some within moved is_before is_after is_label =
      subst (λ (t : List Entry). changing_line list id (take (w.position + 1) t) ≡ option_or (line_made before after label) (changing_line list id (take (v.position + 1) t))) same
      (rw (is_before, is_after, is_label, moved) (here w some within))
