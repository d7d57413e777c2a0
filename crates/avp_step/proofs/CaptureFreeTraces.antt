-- A policy that looks at no captures has the same trace where conditions are decided by their truth alone.
use Rattle.std.proofs.Common.{◌≡◌, ℕ, Bool, true, false, cond, ◌||◌, List, [], ◌∷◌, ◌++◌, map, Option, Some, None, refl, sym, ap, ap₂, ◌∙◌, subst}
use Rattle.std.proofs.lemmas.List.{map-append}
use Rattle.std.specs.List.{list_any}
use Rattle.avp_lists.specs.declared.lists.State.{State}
use Rattle.avp_dict.specs.Dictionary.{Dictionary}
use Rattle.avp_unlang.specs.Captures.{Captures, filled, no_captures}
use Rattle.avp_unlang.specs.CaptureUse.{branch_layer_captures, branch_uses_captures, line_uses_captures, statement_layer_captures, statement_uses_captures, uses_captures}
use Rattle.avp_unlang.specs.Evaluations.{cond_uses_captures, evaluated, itself}
use Rattle.avp_unlang.specs.Meaning.{Edited, Failed, LineResult, Outcome, Point, going_on, line_result, running}
use Rattle.avp_unlang.specs.Truth.{truth_by}
use Rattle.avp_unlang.specs.declared.codes.Code.TheVariants as code
use Rattle.avp_unlang.specs.declared.tree.Branch.{Branch}
use Rattle.avp_unlang.specs.declared.tree.Line.{Line}
use Rattle.avp_unlang.specs.declared.tree.Statement.{Statement}
use Rattle.avp_unlang.specs.declared.tree.Statement.TheOpen.{Statement-F, Branch-F, Update, If, Transaction, Word}
use Rattle.avp_unlang.specs.declared.tree.Statement.TheViews.{roll-Statement, roll-Branch}
use Rattle.avp_unlang.specs.declared.tree.Statement.TheFolds.{fold-roll-Statement, fold-roll-Branch, map-Statement, map-Branch, ind-Statement}
use Rattle.avp_unlang.proofs.CaptureFree.{evaluated_truth, line_same, or_left, or_right}
use Rattle.avp_step.specs.Trace.{Entry, Evaluating, Guarded, Steps, all_steps, branch_steps, closed, end_of, entry_in, goes_on, guarded, guarded_steps, line_step, line_steps, start, statement_steps, steps, then_steps, trace_by, trace_of, unless_stopped}
use Rattle.avp_step.specs.declared.labels.Label.TheVariants as label
use Rattle.avp_step.specs.internal.Courses.{by_truth, evaluating_of}
use Rattle.avp_step.specs.internal.Held.{last_of, point_at}
use Rattle.avp_step.proofs.LastSteps.{last_of_steps}

abbrev at_point : Outcome → Captures → Point
at_point o k = point_at k o

-- the same entries, whatever was captured
abbrev Same : Steps → Steps → Type 0
Same t u = (o : Outcome) (k l : Captures) → map entry_in (t (at_point o k)) ≡ map entry_in (u (at_point o l))

-- then they end with the same outcome
ends : (t u : Steps) → Same t u → (o : Outcome) (k l : Captures) → (end_of (at_point o k) (t (at_point o k))).outcome ≡ (end_of (at_point o l) (u (at_point o l))).outcome
ends t u h o k l =
    sym (last_of_steps (at_point o k) (t (at_point o k))) ∙ ap (last_of o) (h o k l) ∙ last_of_steps (at_point o l) (u (at_point o l))

then_same : (t u v w : Steps) → Same t u → Same v w → Same (then_steps t v) (then_steps u w)
then_same t u v w h more o k l =
    let p = end_of (at_point o k) (t (at_point o k)) in
    let q = end_of (at_point o l) (u (at_point o l)) in
    map-append entry_in (t (at_point o k)) (v p)
    ∙ ap₂ (λ es fs. es ++ fs) (h o k l) (more p.outcome p.captures q.captures ∙ ap (λ r. map entry_in (w (at_point r q.captures))) (ends t u h o k l))
    ∙ sym (map-append entry_in (u (at_point o l)) (w q))

unless_same : (t u : Steps) → Same t u → Same (unless_stopped t) (unless_stopped u)
unless_same t u h o k l =
    elim o.stopped as (λ b. map entry_in (cond b [] (t (at_point o k))) ≡ map entry_in (cond b [] (u (at_point o l)))) [ true ↦ refl | false ↦ h o k l ]

module _ (d : Dictionary) where
  abbrev truly : Evaluating
  truly = by_truth d

  abbrev fully : Evaluating
  fully = evaluated d

  -- ---- update lines

  lines_same : (entry : State) (ls : List Line) → list_any line_uses_captures ls ≡ false → Same (line_steps d entry ls) (line_steps d entry ls)
  lines_same entry [] h o k l = refl
  lines_same entry (x ∷ xs) h o k l =
      let used = list_any line_uses_captures xs in
      let own = or_left (line_uses_captures x) used h in
      let others = lines_same entry xs (or_right (line_uses_captures x) used h) in
      let shown : LineResult → Captures → List Entry = λ r k. map entry_in (line_step entry x r o.code k (line_steps d entry xs)) in
      let each : (r : LineResult) → shown r k ≡ shown r l =
      λ r. elim r as (λ r. shown r k ≡ shown r l) [
        | Edited s ↦ let first : Entry = record { label = label.Line x.line; outcome = running s o.code } in ap (λ es. first ∷ es) (others (running s o.code) k l)
        | Failed why ↦ refl
      ] in
      ap (λ line. shown (line_result d line o.state) k) (line_same k x own)
      ∙ each (line_result d x o.state)
      ∙ sym (ap (λ line. shown (line_result d line o.state) l) (line_same l x own))

  -- ---- statements

  abbrev StatementSame : Statement → Type 0
  StatementSame s = statement_uses_captures s ≡ false → Same (steps d truly s) (steps d fully s)

  abbrev BranchSame : Branch → Type 0
  BranchSame b = branch_uses_captures b ≡ false
      → ((guarded d truly b).line ≡ (guarded d fully b).line) × ((guarded d truly b).cond ≡ (guarded d fully b).cond)
      × (cond_uses_captures (guarded d fully b).cond ≡ false) × Same (guarded d truly b).block (guarded d fully b).block

  abbrev SuchStatement : Type 0
  SuchStatement = (s : Statement) × StatementSame s

  abbrev SuchBranch : Type 0
  SuchBranch = (b : Branch) × BranchSame b

  abbrev the_statements : List SuchStatement → List Statement
  the_statements es = map (λ e. e.0) es

  abbrev the_branches : List SuchBranch → List Branch
  the_branches es = map (λ e. e.0) es

  one_more : (x : Statement) (xs : List Statement) → Same (steps d truly x) (steps d fully x) → Same (all_steps (map (steps d truly) xs)) (all_steps (map (steps d fully) xs))
      → Same (all_steps (map (steps d truly) (x ∷ xs))) (all_steps (map (steps d fully) (x ∷ xs)))
  one_more x xs own others =
      then_same (steps d truly x) (steps d fully x) (unless_stopped (all_steps (map (steps d truly) xs))) (unless_stopped (all_steps (map (steps d fully) xs))) own
      (unless_same (all_steps (map (steps d truly) xs)) (all_steps (map (steps d fully) xs)) others)

  block_same : (es : List SuchStatement) → list_any itself (map statement_uses_captures (the_statements es)) ≡ false
      → Same (all_steps (map (steps d truly) (the_statements es))) (all_steps (map (steps d fully) (the_statements es)))
  block_same [] h o k l = refl
  block_same (e ∷ es) h o k l =
      let used = list_any itself (map statement_uses_captures (the_statements es)) in
      one_more e.0 (the_statements es) (e.1 (or_left (statement_uses_captures e.0) used h)) (block_same es (or_right (statement_uses_captures e.0) used h)) o k l

  branches_same : (es : List SuchBranch) → list_any itself (map branch_uses_captures (the_branches es)) ≡ false → (t u : Steps) → Same t u
      → Same (branch_steps truly (map (guarded d truly) (the_branches es)) t) (branch_steps fully (map (guarded d fully) (the_branches es)) u)
  branches_same [] free t u h o k l = h o k l
  branches_same (b ∷ es) free t u h o k l =
      let used = list_any itself (map branch_uses_captures (the_branches es)) in
      let own = b.1 (or_left (branch_uses_captures b.0) used free) in
      let others = branches_same es (or_right (branch_uses_captures b.0) used free) t u h in
      let g = guarded d truly b.0 in
      let f = guarded d fully b.0 in
      let rest = branch_steps truly (map (guarded d truly) (the_branches es)) t in
      let full_rest = branch_steps fully (map (guarded d fully) (the_branches es)) u in
      let came = evaluated d f.cond o.state o.code l in
      let r : Outcome = running o.state o.code in
      let first : Entry → List Entry → List Entry = λ e es. e ∷ es in
      let shown : Bool → Entry = λ x. record { label = label.If f.line x; outcome = r } in
      let full : Bool → List Entry = λ x. first (shown x) (map entry_in (cond x (f.block (at_point r came.captures)) (full_rest (at_point r came.captures)))) in
      let each : (x : Bool) → first (shown x) (map entry_in (cond x (g.block (at_point r k)) (rest (at_point r k)))) ≡ full x =
      λ x. elim x as (λ x. first (shown x) (map entry_in (cond x (g.block (at_point r k)) (rest (at_point r k)))) ≡ full x) [
        | true ↦ ap (first (shown true)) (own.3 r k came.captures)
        | false ↦ ap (first (shown false)) (others r k came.captures)
      ] in
      let truth : truth_by d g.cond o.state o.code ≡ came.truth = ap (λ x. truth_by d x o.state o.code) own.1 ∙ sym (evaluated_truth d o.state o.code f.cond own.2 l) in
      let test = truth_by d g.cond o.state o.code in
      ap (λ n. first (record { label = label.If n test; outcome = r }) (map entry_in (cond test (g.block (at_point r k)) (rest (at_point r k))))) own.0
      ∙ each test ∙ ap full truth

  ended_same : (n : ℕ) (s : State) → Same (λ r. closed n s r ∷ []) (λ r. closed n s r ∷ [])
  ended_same n s o k l =
      elim o.stopped as (λ b. map entry_in (closed n s (at_point (record { state = o.state; code = o.code; stopped = b }) k) ∷ []) ≡ map entry_in (closed n s (at_point (record { state = o.state; code = o.code; stopped = b }) l) ∷ [])) [ true ↦ refl | false ↦ refl ]

  abbrev layer : Statement-F SuchStatement SuchBranch → Statement-F Statement Branch
  layer = map-Statement SuchStatement SuchBranch Statement Branch (λ e. e.0) (λ e. e.0)

  abbrev branch_layer : Branch-F SuchStatement SuchBranch → Branch-F Statement Branch
  branch_layer = map-Branch SuchStatement SuchBranch Statement Branch (λ e. e.0) (λ e. e.0)

  rolled : (x : Statement-F Statement Branch)
      → (statement_layer_captures (map-Statement Statement Branch Bool Bool statement_uses_captures branch_uses_captures x) ≡ false
      → Same (statement_steps d truly (map-Statement Statement Branch Steps Guarded (steps d truly) (guarded d truly) x)) (statement_steps d fully (map-Statement Statement Branch Steps Guarded (steps d fully) (guarded d fully) x)))
      → StatementSame (roll-Statement x)
  rolled x h free o k l =
      ap (λ (t : Steps). map entry_in (t (at_point o k))) (fold-roll-Statement Steps Guarded (statement_steps d truly) guarded_steps x)
      ∙ h (sym (fold-roll-Statement Bool Bool statement_layer_captures branch_layer_captures x) ∙ free) o k l
      ∙ ap (λ (t : Steps). map entry_in (t (at_point o l))) (sym (fold-roll-Statement Steps Guarded (statement_steps d fully) guarded_steps x))

  statement_step : (y : Statement-F SuchStatement SuchBranch) → statement_layer_captures (map-Statement Statement Branch Bool Bool statement_uses_captures branch_uses_captures (layer y)) ≡ false
      → Same (statement_steps d truly (map-Statement Statement Branch Steps Guarded (steps d truly) (guarded d truly) (layer y))) (statement_steps d fully (map-Statement Statement Branch Steps Guarded (steps d fully) (guarded d fully) (layer y)))
  statement_step (Update n lines) h o k l = lines_same o.state lines h o k l
  statement_step (If bs None) h o k l =
      branches_same bs (or_left (list_any itself (map branch_uses_captures (the_branches bs))) false h) (λ p. []) (λ p. []) (λ o k l. refl) o k l
  statement_step (If bs (Some block)) h o k l =
      let used = list_any itself (map branch_uses_captures (the_branches bs)) in
      let last = list_any itself (map statement_uses_captures (the_statements block)) in
      branches_same bs (or_left used last h) (all_steps (map (steps d truly) (the_statements block))) (all_steps (map (steps d fully) (the_statements block))) (block_same block (or_right used last h)) o k l
  statement_step (Transaction n block) h o k l =
      let first : Entry = record { label = label.Enter n; outcome = running o.state o.code } in
      ap (λ es. first ∷ es)
      (then_same (all_steps (map (steps d truly) (the_statements block))) (all_steps (map (steps d fully) (the_statements block))) (λ r. closed n o.state r ∷ []) (λ r. closed n o.state r ∷ []) (block_same block h) (ended_same n o.state)
      (running o.state o.code) k l)
  statement_step (Word n word) h o k l = refl

  branch_step : (y : Branch-F SuchStatement SuchBranch) → BranchSame (roll-Branch (branch_layer y))
  branch_step y free =
      let uses = fold-roll-Branch Bool Bool statement_layer_captures branch_layer_captures (branch_layer y) in
      let used = list_any itself (map statement_uses_captures (the_statements y.block)) in
      let at_truth = fold-roll-Branch Steps Guarded (statement_steps d truly) guarded_steps (branch_layer y) in
      let at_full = fold-roll-Branch Steps Guarded (statement_steps d fully) guarded_steps (branch_layer y) in
      let none : (cond_uses_captures y.cond || used) ≡ false = sym uses ∙ free in (
        ap (λ (g : Guarded). g.line) at_truth ∙ ap (λ (g : Guarded). g.line) (sym at_full),
        ap (λ (g : Guarded). g.cond) at_truth ∙ ap (λ (g : Guarded). g.cond) (sym at_full),
        ap (λ (g : Guarded). cond_uses_captures g.cond) at_full ∙ or_left (cond_uses_captures y.cond) used none,
        λ o k l. ap (λ (g : Guarded). map entry_in (g.block (at_point o k))) at_truth
            ∙ block_same y.block (or_right (cond_uses_captures y.cond) used none) o k l
            ∙ ap (λ (g : Guarded). map entry_in (g.block (at_point o l))) (sym at_full),
      )

  statement_same : (s : Statement) → StatementSame s
  statement_same =
      ind-Statement StatementSame BranchSame
      (λ x y is. subst (λ z. StatementSame (roll-Statement z)) is (rolled (layer y) (statement_step y)))
      (λ x y is. subst (λ z. BranchSame (roll-Branch z)) is (branch_step y))

  statements_same : (ss : List Statement) → uses_captures ss ≡ false → Same (all_steps (map (steps d truly) ss)) (all_steps (map (steps d fully) ss))
  statements_same [] h o k l = refl
  statements_same (x ∷ xs) h o k l =
      one_more x xs (statement_same x (or_left (statement_uses_captures x) (uses_captures xs) h)) (statements_same xs (or_right (statement_uses_captures x) (uses_captures xs) h)) o k l

  -- the trace of a policy, where what is captured is kept at least if the policy looks at it
  pub kept_trace : (ss : List Statement) (s : State) (keeps : Bool) → (keeps ≡ false → uses_captures ss ≡ false) → trace_by d (evaluating_of keeps d) ss s ≡ trace_of d ss s
  kept_trace ss s true free = refl
  kept_trace ss s false free = ap (λ (es : List Entry). start s ∷ es) (statements_same ss (free refl) (running s code.Ok) no_captures no_captures)
