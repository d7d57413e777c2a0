-- What each step of a run may change: the lists keep the instances of an attribute that no line of the step edits.
use Rattle.std.proofs.Common.{◌≡◌, ℕ, zero, suc, ◌-◌, Bool, true, false, ◌==◌, ◌||◌, cond, List, [], ◌∷◌, ◌++◌, Result, Ok, Err, map, length, refl, sym, ap, ◌∙◌, subst, arith, append_assoc}
use Rattle.std.specs.List.{slice_index_or}
use Rattle.std.specs.Prelude.{nat_le}
use Rattle.avp_lists.specs.Instances.{instances}
use Rattle.avp_lists.specs.Selections.{edited_list_selected, edited_selected}
use Rattle.avp_lists.specs.States.{empty_state, list_of, max_pairs}
use Rattle.avp_lists.specs.declared.edits.Edit.{Edit}
use Rattle.avp_lists.specs.declared.lists.List.{List as Name}
use Rattle.avp_lists.specs.declared.lists.State.{State}
use Rattle.avp_lists.specs.declared.pairs.AttrId.{AttrId}
use Rattle.avp_lists.specs.declared.pairs.Pair.{Pair}
use Rattle.avp_lists.specs.declared.pairs.Value.{Value}
use Rattle.avp_dict.specs.Dictionary.{Dictionary}
use Rattle.avp_unlang.specs.Captures.{filled}
use Rattle.avp_unlang.specs.Evaluations.{evaluated}
use Rattle.avp_unlang.specs.Meaning.{Edited, Failed, Outcome, Point, edit_of, going_on, line_result, result_from}
use Rattle.avp_unlang.specs.Resolutions.{pair_of, paired, resolution, source_value}
use Rattle.avp_unlang.specs.declared.meaning.reasons.Reason.TheVariants.{Full}
use Rattle.avp_unlang.specs.declared.meaning.resolving.Unresolved.{Unresolved}
use Rattle.avp_unlang.specs.declared.tree.Line.{Line}
use Rattle.avp_unlang.specs.declared.tree.Statement.{Statement}
use Rattle.avp_step.specs.Trace.{Entry, Step, block_steps, closed, end_of, entry_in, first_point, goes_on, line_step, line_steps, start, trace_of}
use Rattle.avp_step.specs.declared.labels.Label.{Label}
use Rattle.avp_step.specs.declared.labels.Label.TheVariants as label
use Rattle.radpolicy_walk_commands.specs.Steps.{is_one_of}
use Rattle.radpolicy_walk_commands.specs.internal.EditedLines.{Leave, edits, has_any, line_numbers, lines_of, may_change, number_if}
use Rattle.radpolicy_walk_commands.proofs.OtherIds.{edit_apart}
use Rattle.radpolicy_walk_commands.proofs.TraceSteps.{AreSteps, Shows, of_all, step_at}

module _ (d : Dictionary) (list : Name) (id : AttrId) (policy : List ℕ) where
  abbrev found : Outcome → List Pair
  found o = instances id (list_of list o.state)

  abbrev Leaves : Outcome → Entry → Type 0
  Leaves o e = may_change policy e.label ≡ false → found o ≡ found e.outcome

  -- ---- where no line of the policy edits them

  none_on : (numbers : List ℕ) (n : ℕ) → has_any numbers ≡ false → is_one_of numbers n ≡ false
  none_on [] n e = refl
  none_on (x ∷ xs) n e = absurd (cc e)

  none_may : has_any policy ≡ false → (step : Label) → may_change policy step ≡ false
  none_may e label.Start = refl
  none_may e (label.Line n) = none_on policy n e
  none_may e (label.Failed n reason) = e
  none_may e (label.If n b) = refl
  none_may e (label.Word n) = refl
  none_may e (label.Enter n) = refl
  none_may e (label.Commit n) = refl
  none_may e (label.Rollback n) = e

  none_changes : has_any policy ≡ false → (p : Point) (ts : List Step) → AreSteps Leaves p ts → found p.outcome ≡ found (end_of p ts).outcome
  none_changes none p [] h = refl
  none_changes none p (t ∷ ts) h = h.0 (none_may none t.label) ∙ none_changes none t.point ts h.1

  -- ---- update lines

  abbrev line_edit : Line → Value → Edit
  line_edit l value = edit_of l (pair_of l.id value)

  by_room : (l : Line) (s t : State) (value : Value) → edits list id l ≡ false → (b : Bool)
      → cond b (Edited (edited_selected l.selection (line_edit l value) s)) (Failed Full) ≡ Edited t → instances id (list_of list s) ≡ instances id (list_of list t)
  by_room l s t value h true e = edit_apart id list l.selection (line_edit l value) s h ∙ ap (λ (x : State). instances id (list_of list x)) (edited_once e) where
    edited_once : Edited (edited_selected l.selection (line_edit l value) s) ≡ Edited t → edited_selected l.selection (line_edit l value) s ≡ t
    edited_once f = cc f
  by_room l s t value h false e = absurd (cc e)

  edited_apart : (l : Line) (s t : State) (v : Result Value Unresolved) → result_from l s (paired l.id v) ≡ Edited t → edits list id l ≡ false
      → instances id (list_of list s) ≡ instances id (list_of list t)
  edited_apart l s t (Err why) e h = absurd (cc e)
  edited_apart l s t (Ok value) e h = by_room l s t value h (nat_le (length (edited_list_selected l.selection (line_edit l value) s)) max_pairs) e

  line_apart : (l : Line) (s t : State) → line_result d l s ≡ Edited t → edits list id l ≡ false → instances id (list_of list s) ≡ instances id (list_of list t)
  unfolding line_result resolution
  line_apart l s t e h = edited_apart l s t (source_value d s l.id l.source) e h

  -- each of the numbers is one of the policy's
  abbrev AreCovered : List ℕ → Type 0
  AreCovered [] = Unit {0}
  AreCovered (n ∷ ns) = (is_one_of policy n ≡ true) × AreCovered ns

  line_covered : (b : Bool) (n : ℕ) (ns : List ℕ) → AreCovered (number_if b n ++ ns) → (b ≡ true → is_one_of policy n ≡ true) × AreCovered ns
  line_covered true n ns h = ((λ e. h.0), h.1)
  line_covered false n ns h = ((λ e. absurd (cc e)), h)

  not_edited : (a b : Bool) → (a ≡ true → b ≡ true) → b ≡ false → a ≡ false
  not_edited true b h e = absurd (cc (h refl, e))
  not_edited false b h e = refl

  lines_leave : (entry : State) (ls : List Line) → AreCovered (line_numbers list id ls) → (p : Point) → (has_any policy ≡ false → found p.outcome ≡ instances id (list_of list entry)) → AreSteps Leaves p (line_steps d entry ls p)
  lines_leave entry [] covered p h = tt
  lines_leave entry (l ∷ ls) covered p h =
      let own = line_covered (edits list id l) l.line (line_numbers list id ls) covered in
      let line = filled p.captures l in
      elim (line_result d line p.outcome.state) as (λ r. line_result d line p.outcome.state ≡ r → AreSteps Leaves p (line_step entry l r p.outcome.code p.captures (line_steps d entry ls))) [
        | Edited s ↦ (λ e.
            let leaves : is_one_of policy l.line ≡ false → found p.outcome ≡ instances id (list_of list s) =
            λ none. line_apart line p.outcome.state s e (not_edited (edits list id l) (is_one_of policy l.line) own.0 none) in
            (leaves, lines_leave entry ls own.1 (going_on s p.outcome.code p.captures) (λ none. sym (leaves (none_on policy l.line none)) ∙ h none)))
        | Failed why ↦ (λ e. (h, tt))
      ] refl

  -- ---- statements

  covered_first : (xs ys : List ℕ) → AreCovered (xs ++ ys) → AreCovered xs
  covered_first [] ys h = tt
  covered_first (x ∷ xs) ys h = (h.0, covered_first xs ys h.1)

  covered_next : (xs ys : List ℕ) → AreCovered (xs ++ ys) → AreCovered ys
  covered_next [] ys h = h
  covered_next (x ∷ xs) ys h = covered_next xs ys h.1

  numbers_joined : (xs ys : List Line) → line_numbers list id (xs ++ ys) ≡ line_numbers list id xs ++ line_numbers list id ys
  numbers_joined [] ys = refl
  numbers_joined (x ∷ xs) ys =
      ap (λ ns. number_if (edits list id x) x.line ++ ns) (numbers_joined xs ys) ∙ sym (append_assoc (number_if (edits list id x) x.line) (line_numbers list id xs) (line_numbers list id ys))

  abbrev LinesCovered : List Line → Type 0
  LinesCovered lines = AreCovered (line_numbers list id lines)

  closed_leaves : (n : ℕ) (p r : Point) → (has_any policy ≡ false → found r.outcome ≡ found p.outcome) → Leaves r.outcome (entry_in (closed n p.outcome.state r))
  closed_leaves n p r h =
      elim r.outcome.stopped as (λ b. Leaves r.outcome (entry_in (cond b (record { label = label.Rollback n; point = going_on p.outcome.state r.outcome.code r.captures }) (record { label = label.Commit n; point = goes_on r }))))
      [ true ↦ h | false ↦ (λ none. refl) ]

  pub all_leave : Shows d Leaves LinesCovered
  all_leave = record {
    first = λ xs ys h. covered_first (line_numbers list id xs) (line_numbers list id ys) (subst AreCovered (numbers_joined xs ys) h);
    next = λ xs ys h. covered_next (line_numbers list id xs) (line_numbers list id ys) (subst AreCovered (numbers_joined xs ys) h);
    lines = λ p ls h. lines_leave p.outcome.state ls h p (λ none. refl);
    test = λ n e p none. refl;
    enter = λ n p none. refl;
    word = λ n word p none. refl;
    close = λ n p ts h. closed_leaves n p (end_of (goes_on p) ts) (λ none. sym (none_changes none (goes_on p) ts h));
  }

-- ---- all lines of a policy

among_first : (b c : Bool) → b ≡ true → b || c ≡ true
among_first true c e = refl
among_first false c e = absurd (cc e)

among_next : (b c : Bool) → c ≡ true → b || c ≡ true
among_next true c e = refl
among_next false c e = e

module _ (d : Dictionary) (list : Name) (id : AttrId) (policy : List ℕ) where
  all_covered : (ns : List ℕ) → ((n : ℕ) → is_one_of ns n ≡ true → is_one_of policy n ≡ true) → AreCovered d list id policy ns
  all_covered [] h = tt
  all_covered (n ∷ ns) h =
      (h n (among_first (n == n) (is_one_of ns n) (same_number n)), all_covered ns (λ k e. h k (among_next (n == k) (is_one_of ns k) e))) where
        same_number : (k : ℕ) → (k == k) ≡ true
        same_number k = grind arith

pub others_left : (d : Dictionary) (list : Name) (id : AttrId) (ss : List Statement) (s : State) → Leave list id (trace_of d ss s) (may_change (line_numbers list id (lines_of ss)))
others_left d list id ss s zero above within = absurd (omega arith)
others_left d list id ss s (suc k) above within =
    let first : Step = record { label = label.Start; point = first_point s } in
    let ts = block_steps d (evaluated d) ss (first_point s) in
    let es = map entry_in ts in
    let numbers = line_numbers list id (lines_of ss) in
    let dark = start empty_state in
    let place : k ≡ suc k - 1 = omega arith in
    let shows = all_leave d list id numbers in
    let all = of_all d (Leaves d list id numbers) (LinesCovered d list id numbers) shows ss (all_covered d list id numbers numbers (λ n e. e)) (first_point s) in
    let step = step_at d (Leaves d list id numbers) (LinesCovered d list id numbers) shows first ts all k dark (omega arith) in
    subst (λ (j : ℕ). may_change numbers (slice_index_or es k dark).label ≡ false
    → instances id (list_of list (slice_index_or (start s ∷ es) j dark).outcome.state) ≡ instances id (list_of list (slice_index_or es k dark).outcome.state)) place step
