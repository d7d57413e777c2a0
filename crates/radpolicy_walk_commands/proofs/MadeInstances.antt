-- What a line with a value that is written out makes of an attribute's instances.
use Rattle.std.proofs.Common.{◌≡◌, ◌<◌, ℕ, zero, suc, ◌-◌, Bool, true, false, ◌&&◌, cond, List, [], ◌∷◌, ◌++◌, length, map, refl, ap, ◌∙◌, subst, arith}
use Rattle.std.specs.List.{slice_index_or}
use Rattle.std.specs.Prelude.{nat_le}
use Rattle.avp_lists.specs.Instances.{instances}
use Rattle.avp_lists.specs.Pairs.{id_eq}
use Rattle.avp_lists.specs.Selections.{apply_selected, edited_list_selected, edited_selected}
use Rattle.avp_lists.specs.States.{empty_state, list_of, max_pairs, with_list}
use Rattle.avp_lists.specs.declared.edits.Op.{Op}
use Rattle.avp_lists.specs.declared.lists.List.{List as Name}
use Rattle.avp_lists.specs.declared.lists.List.TheVariants.{Control, Reply, Request}
use Rattle.avp_lists.specs.declared.lists.State.{State}
use Rattle.avp_lists.specs.declared.pairs.AttrId.{AttrId}
use Rattle.avp_lists.specs.declared.pairs.Pair.{Pair}
use Rattle.avp_lists.specs.declared.pairs.Value.{Value}
use Rattle.avp_lists.specs.declared.tags.Selection.{Selection}
use Rattle.avp_lists.proofs.Equality.{same_id}
use Rattle.avp_dict.specs.Dictionary.{Dictionary}
use Rattle.avp_unlang.specs.Captures.{Captures, filled, filled_source}
use Rattle.avp_unlang.specs.Evaluations.{evaluated}
use Rattle.avp_unlang.specs.Meaning.{Edited, Failed, Outcome, Point, edit_of, going_on, line_result, result_from}
use Rattle.avp_unlang.specs.Resolutions.{pair_of, paired, resolution, source_value}
use Rattle.avp_unlang.specs.declared.meaning.reasons.Reason.TheVariants.{Full}
use Rattle.avp_unlang.specs.declared.tree.Line.{Line}
use Rattle.avp_unlang.specs.declared.tree.Source.{Source}
use Rattle.avp_unlang.specs.declared.tree.Source.TheVariants.{Literal}
use Rattle.avp_unlang.specs.declared.tree.Statement.{Statement}
use Rattle.avp_step.specs.Trace.{Entry, Step, block_steps, closed, end_of, entry_in, first_point, goes_on, line_step, line_steps, start, trace_of}
use Rattle.avp_step.specs.declared.labels.Label.TheVariants as label
use Rattle.radpolicy_walk_commands.specs.declared.edited_lines.Effect.{Effect}
use Rattle.radpolicy_walk_commands.specs.internal.EditedLines.{Agree, IsEffectOf, lines_of, made_by, same_list}
use Rattle.radpolicy_walk_commands.proofs.OwnInstances.{applied_own}
use Rattle.radpolicy_walk_commands.proofs.TraceSteps.{AreSteps, Shows, of_all, step_at}

same_name : (a b : Name) → same_list a b ≡ true → b ≡ a
same_name Request Request e = refl
same_name Request Reply e = absurd (cc e)
same_name Request Control e = absurd (cc e)
same_name Reply Request e = absurd (cc e)
same_name Reply Reply e = refl
same_name Reply Control e = absurd (cc e)
same_name Control Request e = absurd (cc e)
same_name Control Reply e = absurd (cc e)
same_name Control Control e = refl

put_there : (list : Name) (pairs : List Pair) (s : State) → list_of list (with_list list pairs s) ≡ pairs
put_there Request pairs s = refl
put_there Reply pairs s = refl
put_there Control pairs s = refl

both_true : (a b : Bool) → a && b ≡ true → (a ≡ true) × (b ≡ true)
both_true true b e = (refl, e)
both_true false b e = absurd (cc e)

module _ (list : Name) (id : AttrId) (w : Value) (s : State) where
  made : Name → AttrId → Op → Selection → List Pair
  made name own op selection = instances id (list_of list (edited_selected selection (record { list = name; op = op; pair = pair_of own w }) s))

  made_here : (op : Op) (selection : Selection) → made list id op selection ≡ apply_selected selection op (pair_of id w) (instances id (list_of list s))
  unfolding made
  made_here op selection =
      ap (λ (pairs : List Pair). instances id pairs) (put_there list (apply_selected selection op (pair_of id w) (list_of list s)) s) ∙ applied_own selection (pair_of id w) op (list_of list s)

module _ (d : Dictionary) (list : Name) (id : AttrId) (n : ℕ) (effect : Effect) where
  found : Outcome → List Pair
  found o = instances id (list_of list o.state)

  abbrev IsMade : Outcome → Entry → Type 0
  IsMade o e = e.label ≡ label.Line n → instances id (list_of list e.outcome.state) ≡ made_by id effect (instances id (list_of list o.state))

  by_room : (b : Bool) (e : State) (t : State) → cond b (Edited e) (Failed Full) ≡ Edited t → t ≡ e
  by_room true e t h = cc h
  by_room false e t h = absurd (cc h)

  literal_made : (l : Line) (s t : State) (source : Source) → source ≡ Literal effect.value → result_from l s (paired l.id (source_value d s l.id source)) ≡ Edited t
      → t ≡ edited_selected l.selection (edit_of l (pair_of l.id effect.value)) s
  literal_made l s t source e h =
      by_room (nat_le (length (edited_list_selected l.selection (edit_of l (pair_of l.id effect.value)) s)) max_pairs) (edited_selected l.selection (edit_of l (pair_of l.id effect.value)) s) t
      (subst (λ (x : Source). result_from l s (paired l.id (source_value d s l.id x)) ≡ Edited t) e h)

  line_made : (l : Line) (s t : State) → line_result d l s ≡ Edited t → IsEffectOf list id effect l → instances id (list_of list t) ≡ made_by id effect (instances id (list_of list s))
  unfolding line_result resolution made
  line_made l s t e h =
      let parts = both_true (same_list list l.list) (id_eq l.id id) h.edit in
      let of = made list id effect.value s in
      ap (λ (x : State). instances id (list_of list x)) (literal_made l s t l.source h.source e)
      ∙ ap (λ (name : Name). of name l.id l.op l.selection) (same_name list l.list parts.0)
      ∙ ap (λ (own : AttrId). of list own l.op l.selection) (same_id l.id id parts.1)
      ∙ ap (λ (op : Op). of list id op l.selection) h.op
      ∙ ap (λ (selection : Selection). of list id effect.op selection) h.selection
      ∙ made_here list id effect.value s effect.op effect.selection

  same_line : (a b : ℕ) → label.Line a ≡ label.Line b → a ≡ b
  same_line a b e = cc e

  -- with what was captured put into its text the line makes the same
  filled_effect : (k : Captures) (l : Line) → IsEffectOf list id effect l → IsEffectOf list id effect (filled k l)
  filled_effect k l h = record { edit = h.edit; source = ap (filled_source k) h.source; op = h.op; selection = h.selection }

  lines_made : (entry : State) (ls : List Line) → Agree list id n effect ls → (p : Point) → AreSteps IsMade p (line_steps d entry ls p)
  lines_made entry [] h p = tt
  lines_made entry (l ∷ ls) h p =
      let own = filled p.captures l in
      elim (line_result d own p.outcome.state) as (λ r. line_result d own p.outcome.state ≡ r → AreSteps IsMade p (line_step entry l r p.outcome.code p.captures (line_steps d entry ls))) [
        | Edited s ↦ (λ e. ((λ f. line_made own p.outcome.state s e (filled_effect p.captures l (h.0 (same_line l.line n f)))), lines_made entry ls h.1 (going_on s p.outcome.code p.captures)))
        | Failed why ↦ (λ e. ((λ f. absurd (cc f)), tt))
      ] refl

  agree_first : (xs ys : List Line) → Agree list id n effect (xs ++ ys) → Agree list id n effect xs
  agree_first [] ys h = tt
  agree_first (x ∷ xs) ys h = (h.0, agree_first xs ys h.1)

  agree_next : (xs ys : List Line) → Agree list id n effect (xs ++ ys) → Agree list id n effect ys
  agree_next [] ys h = h
  agree_next (x ∷ xs) ys h = agree_next xs ys h.1

  closed_made : (k : ℕ) (p r : Point) → IsMade r.outcome (entry_in (closed k p.outcome.state r))
  closed_made k p r =
      elim r.outcome.stopped as (λ b. IsMade r.outcome (entry_in (cond b (record { label = label.Rollback k; point = going_on p.outcome.state r.outcome.code r.captures }) (record { label = label.Commit k; point = goes_on r }))))
      [ true ↦ (λ f. absurd (cc f)) | false ↦ (λ f. absurd (cc f)) ]

  all_made : Shows d IsMade (Agree list id n effect)
  all_made = record {
    first = agree_first;
    next = agree_next;
    lines = λ p ls h. lines_made p.outcome.state ls h p;
    test = λ k e p f. absurd (cc f);
    enter = λ k p f. absurd (cc f);
    word = λ k word p f. absurd (cc f);
    close = λ k p ts h. closed_made k p (end_of (goes_on p) ts);
  }

  pub instances_made : (ss : List Statement) (s : State) → Agree list id n effect (lines_of ss) → (k : ℕ) → 0 < k → k < length (trace_of d ss s)
      → (slice_index_or (trace_of d ss s) k (start empty_state)).label ≡ label.Line n
      → instances id (list_of list (slice_index_or (trace_of d ss s) k (start empty_state)).outcome.state)
      ≡ made_by id effect (instances id (list_of list (slice_index_or (trace_of d ss s) (k - 1) (start empty_state)).outcome.state))
  instances_made ss s h zero above within = absurd (omega arith)
  instances_made ss s h (suc k) above within =
      let first : Step = record { label = label.Start; point = first_point s } in
      let ts = block_steps d (evaluated d) ss (first_point s) in
      let es = map entry_in ts in
      let dark = start empty_state in
      let place : k ≡ suc k - 1 = omega arith in
      let step = step_at d IsMade (Agree list id n effect) all_made first ts (of_all d IsMade (Agree list id n effect) all_made ss h (first_point s)) k dark (omega arith) in
      subst (λ (j : ℕ). (slice_index_or es k dark).label ≡ label.Line n
      → instances id (list_of list (slice_index_or es k dark).outcome.state) ≡ made_by id effect (instances id (list_of list (slice_index_or (start s ∷ es) j dark).outcome.state))) place step
