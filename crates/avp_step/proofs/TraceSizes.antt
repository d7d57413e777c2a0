-- A trace has no more steps than the policy's size.
use Rattle.std.proofs.Common.{ℕ, ◌+◌, ◌≤◌, true, false, List, [], ◌∷◌, length, Some, None, ap, map, subst, cond, arith, length-append}
use Rattle.std.proofs.lemmas.List.{length-map}
use Rattle.avp_lists.specs.declared.lists.State.{State}
use Rattle.avp_unlang.specs.declared.tree.Line.{Line}
use Rattle.avp_unlang.specs.declared.tree.Statement.{Statement}
use Rattle.avp_unlang.specs.declared.tree.Statement.TheOpen.{Statement-F, Branch-F, Update, If, Transaction, Word}
use Rattle.avp_unlang.specs.declared.tree.Statement.TheViews.{roll-Statement, roll-Branch}
use Rattle.avp_unlang.specs.declared.tree.Statement.TheFolds.{fold-roll-Statement, fold-roll-Branch, map-Statement, map-Branch, ind-Statement}
use Rattle.avp_unlang.specs.declared.tree.Branch.{Branch}
use Rattle.avp_unlang.specs.Captures.{filled}
use Rattle.avp_unlang.specs.Meaning.{Point, going_on, Edited, Failed, line_result}
use Rattle.avp_step.specs.Trace.{Evaluating, Steps, Guarded, end_of, entry_in, evaluated_at, first_point, goes_on, steps, guarded, statement_steps, guarded_steps, line_steps, line_step, branch_steps, all_steps, then_steps, unless_stopped, closed, tested, entered, trace_by}
use Rattle.avp_unlang.specs.Sizes.{size, size_of, size_of_branch, statement_size, branch_size, total}
use Rattle.avp_dict.specs.Dictionary.{Dictionary}

module _ (d : Dictionary) (by : Evaluating) where
  abbrev IsAtMost : Steps → ℕ → Type 0
  IsAtMost t n = (p : Point) → length (t p) ≤ n

  unless_at_most : (t : Steps) (n : ℕ) → IsAtMost t n → IsAtMost (unless_stopped t) n
  unless_at_most t n h o =
      elim o.outcome.stopped as (λ b. length (cond b [] (t o)) ≤ n) [ true ↦ omega arith | false ↦ h o ]

  lines_at_most : (entry : State) (ls : List Line) → IsAtMost (line_steps d entry ls) (length ls)
  lines_at_most entry [] o = omega arith
  lines_at_most entry (l ∷ ls) o =
      elim (line_result d (filled o.captures l) o.outcome.state) as (λ r. length (line_step entry l r o.outcome.code o.captures (line_steps d entry ls)) ≤ length (l ∷ ls))
      [ Edited s ↦ omega (arith, lines_at_most entry ls (going_on s o.outcome.code o.captures)) | Failed why ↦ omega arith ]

  abbrev IsSized : Statement → Type 0
  IsSized s = IsAtMost (steps d by s) (size s)

  abbrev IsBranchSized : Branch → Type 0
  IsBranchSized b = (p : Point) → length ((guarded d by b).block p) + 1 ≤ size_of_branch b

  abbrev SuchStatement : Type 0
  SuchStatement = (s : Statement) × IsSized s

  abbrev SuchBranch : Type 0
  SuchBranch = (b : Branch) × IsBranchSized b

  abbrev the_statements : List SuchStatement → List Statement
  the_statements es = map (λ e. e.0) es

  abbrev the_branches : List SuchBranch → List Branch
  the_branches es = map (λ e. e.0) es

  one_more : (x : Statement) (xs : List Statement) → IsSized x → IsAtMost (all_steps (map (steps d by) xs)) (size_of xs) → IsAtMost (all_steps (map (steps d by) (x ∷ xs))) (size_of (x ∷ xs))
  one_more x xs h rest o =
      let o' = end_of o (steps d by x o) in
      omega (arith, length-append (steps d by x o) (unless_stopped (all_steps (map (steps d by) xs)) o'), h o, unless_at_most (all_steps (map (steps d by) xs)) (size_of xs) rest o')

  block_at_most : (es : List SuchStatement) → IsAtMost (all_steps (map (steps d by) (the_statements es))) (size_of (the_statements es))
  block_at_most [] o = omega arith
  block_at_most (e ∷ es) o = one_more e.0 (the_statements es) e.1 (block_at_most es) o

  branches_at_most : (es : List SuchBranch) (t : Steps) (n : ℕ) → IsAtMost t n → IsAtMost (branch_steps by (map (guarded d by) (the_branches es)) t) (total (map size_of_branch (the_branches es)) + n)
  branches_at_most [] t n h o = omega (arith, h o)
  branches_at_most (e ∷ es) t n h o =
      let rest = branch_steps by (map (guarded d by) (the_branches es)) t in
      let came = by (guarded d by e.0).cond o.outcome.state o.outcome.code o.captures in
      let next = evaluated_at came o in
      elim came.truth as (λ b. length (tested (guarded d by e.0).line came o ∷ cond b ((guarded d by e.0).block next) (rest next)) ≤ total (map size_of_branch (the_branches (e ∷ es))) + n)
      [ true ↦ omega (arith, e.1 next) | false ↦ omega (arith, branches_at_most es t n h next, e.1 next) ]

  abbrev layer : Statement-F SuchStatement SuchBranch → Statement-F Statement Branch
  layer = map-Statement SuchStatement SuchBranch Statement Branch (λ e. e.0) (λ e. e.0)

  abbrev branch_layer : Branch-F SuchStatement SuchBranch → Branch-F Statement Branch
  branch_layer = map-Branch SuchStatement SuchBranch Statement Branch (λ e. e.0) (λ e. e.0)

  rolled : (x : Statement-F Statement Branch) → IsAtMost (statement_steps d by (map-Statement Statement Branch Steps Guarded (steps d by) (guarded d by) x)) (statement_size (map-Statement Statement Branch ℕ ℕ size size_of_branch x)) → IsSized (roll-Statement x)
  unfolding size size_of_branch
  rolled x h o =
      omega (arith, h o, ap (λ (t : Steps). length (t o)) (fold-roll-Statement Steps Guarded (statement_steps d by) guarded_steps x), fold-roll-Statement ℕ ℕ statement_size branch_size x)

  transaction_at_most : (n : ℕ) (t : Steps) (k : ℕ) → IsAtMost t k → IsAtMost (λ o. entered n o ∷ then_steps t (λ r. closed n o.outcome.state r ∷ []) (goes_on o)) (2 + k)
  transaction_at_most n t k h o =
      let o' = goes_on o in
      omega (arith, h o', length-append (t o') (closed n o.outcome.state (end_of o' (t o')) ∷ []))

  statement_at_most : (y : Statement-F SuchStatement SuchBranch) → IsAtMost (statement_steps d by (map-Statement Statement Branch Steps Guarded (steps d by) (guarded d by) (layer y))) (statement_size (map-Statement Statement Branch ℕ ℕ size size_of_branch (layer y)))
  statement_at_most (Update n lines) o = lines_at_most o.outcome.state lines o
  statement_at_most (If bs None) o = branches_at_most bs (λ o. []) 0 (λ o. omega arith) o
  statement_at_most (If bs (Some block)) o = branches_at_most bs (all_steps (map (steps d by) (the_statements block))) (size_of (the_statements block)) (block_at_most block) o
  statement_at_most (Transaction n block) o = transaction_at_most n (all_steps (map (steps d by) (the_statements block))) (size_of (the_statements block)) (block_at_most block) o
  statement_at_most (Word n word) o = omega arith

  branch_at_most : (y : Branch-F SuchStatement SuchBranch) → IsBranchSized (roll-Branch (branch_layer y))
  unfolding size size_of_branch
  branch_at_most y o =
      omega (arith, block_at_most y.block o, ap (λ (g : Guarded). length (g.block o)) (fold-roll-Branch Steps Guarded (statement_steps d by) guarded_steps (branch_layer y)), fold-roll-Branch ℕ ℕ statement_size branch_size (branch_layer y))

  statement_sized : (s : Statement) → IsSized s
  statement_sized =
      ind-Statement IsSized IsBranchSized
      (λ x y is. subst (λ z. IsSized (roll-Statement z)) is (rolled (layer y) (statement_at_most y)))
      (λ x y is. subst (λ z. IsBranchSized (roll-Branch z)) is (branch_at_most y))

  statements_sized : (xs : List Statement) → IsAtMost (all_steps (map (steps d by) xs)) (size_of xs)
  statements_sized [] o = omega arith
  statements_sized (x ∷ xs) o = one_more x xs (statement_sized x) (statements_sized xs) o

  pub trace_size : (ss : List Statement) (s : State) → length (trace_by d by ss s) ≤ size_of ss + 1
  trace_size ss s = omega (arith, statements_sized ss (first_point s), length-map (all_steps (map (steps d by) ss) (first_point s)) entry_in)
