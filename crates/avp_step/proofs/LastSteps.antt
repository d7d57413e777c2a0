-- The last step of a trace stands where the meaning says.
use Rattle.std.proofs.Common.{◌≡◌, ℕ, Bool, true, false, List, [], ◌∷◌, ◌++◌, Some, None, refl, sym, ap, ◌∙◌, map, subst, cond}
use Rattle.avp_lists.specs.declared.lists.State.{State}
use Rattle.avp_unlang.specs.declared.codes.Code.{Code}
use Rattle.avp_unlang.specs.declared.codes.Code.TheVariants as code
use Rattle.avp_unlang.specs.declared.tree.Cond.{Cond}
use Rattle.avp_unlang.specs.declared.tree.Line.{Line}
use Rattle.avp_unlang.specs.declared.tree.Statement.{Statement}
use Rattle.avp_unlang.specs.declared.tree.Statement.TheOpen.{Statement-F, Branch-F, Update, If, Transaction, Word}
use Rattle.avp_unlang.specs.declared.tree.Statement.TheViews.{roll-Statement, roll-Branch}
use Rattle.avp_unlang.specs.declared.tree.Statement.TheFolds.{fold-roll-Statement, fold-roll-Branch, fold-Branch, map-Statement, map-Branch, ind-Statement}
use Rattle.avp_unlang.specs.declared.tree.Branch.{Branch}
use Rattle.avp_unlang.specs.Captures.{Captures, filled, no_captures}
use Rattle.avp_unlang.specs.Evaluations.{evaluated}
use Rattle.avp_unlang.specs.Meaning.{Outcome, Point, going_on, running, Edited, Failed, line_result}
use Rattle.avp_unlang.specs.Meaning.{Meaning, Choice, meaning, meaning_of, statement_meaning, branch_meaning, all_lines, first_true, after_body, after_line, in_order, unless_stop}
use Rattle.avp_step.specs.Trace.{Entry, Evaluating, Step, Steps, Guarded, end_of, entry_in, evaluated_at, first_point, goes_on, steps, guarded, statement_steps, guarded_steps, line_steps, line_step, branch_steps, all_steps, then_steps, unless_stopped, closed, tested, trace_of}
use Rattle.avp_step.specs.internal.Held.{last_of}
use Rattle.avp_dict.specs.Dictionary.{Dictionary}

pub end_of-append : (p : Point) (a b : List Step) → end_of p (a ++ b) ≡ end_of (end_of p a) b
end_of-append p [] b = refl
end_of-append p (t ∷ ts) b = end_of-append t.point ts b

-- where a run is after some steps, by what it shows of them
pub last_of_steps : (p : Point) (ts : List Step) → last_of p.outcome (map entry_in ts) ≡ (end_of p ts).outcome
last_of_steps p [] = refl
last_of_steps p (t ∷ ts) = last_of_steps t.point ts

module _ (d : Dictionary) where
  abbrev by : Evaluating
  by = evaluated d

  -- a branch with what it means
  abbrev choice : Branch → Choice
  choice = fold-Branch Meaning Choice (statement_meaning d) branch_meaning

  -- the steps end where the meaning says
  abbrev pub Agrees : Steps → Meaning → Type 0
  Agrees t m = (s : State) (c : Code) (k : Captures) → end_of (going_on s c k) (t (going_on s c k)) ≡ m s c k

  -- what follows, unless the run stopped
  rest_agrees : (t : Steps) (m : Meaning) (p : Point) → Agrees t m → end_of p (unless_stopped t p) ≡ unless_stop p m
  rest_agrees t m p h = by_stop p.outcome.stopped refl where
    by_stop : (b : Bool) → p.outcome.stopped ≡ b → end_of p (cond b [] (t p)) ≡ cond b p (m p.outcome.state p.outcome.code p.captures)
    by_stop true e = refl
    by_stop false e =
        ap (λ (b : Bool). let q : Point = record { outcome = record { state = p.outcome.state; code = p.outcome.code; stopped = b }; captures = p.captures } in end_of q (t q)) e
        ∙ h p.outcome.state p.outcome.code p.captures

  lines_agree : (entry : State) (ls : List Line) → Agrees (line_steps d entry ls) (all_lines d entry ls)
  lines_agree entry [] s c k = refl
  lines_agree entry (l ∷ ls) s c k =
      elim (line_result d (filled k l) s) as (λ r. end_of (going_on s c k) (line_step entry l r c k (line_steps d entry ls)) ≡ after_line entry r c k (all_lines d entry ls))
      [ Edited s' ↦ lines_agree entry ls s' c k | Failed why ↦ refl ]

  -- the same of a statement and of a branch
  abbrev pub StatementAgrees : Statement → Type 0
  StatementAgrees s = Agrees (steps d by s) (meaning d s)

  abbrev pub BranchAgrees : Branch → Type 0
  BranchAgrees b = ((guarded d by b).cond ≡ (choice b).cond) × Agrees (guarded d by b).block (choice b).block

  abbrev the_statements : List ((s : Statement) × StatementAgrees s) → List Statement
  the_statements es = map (λ e. e.0) es

  abbrev the_branches : List ((b : Branch) × BranchAgrees b) → List Branch
  the_branches es = map (λ e. e.0) es

  one_more : (x : Statement) (xs : List Statement) → StatementAgrees x → Agrees (all_steps (map (steps d by) xs)) (in_order (map (meaning d) xs)) → Agrees (all_steps (map (steps d by) (x ∷ xs))) (in_order (map (meaning d) (x ∷ xs)))
  one_more x xs own others s c k =
      let p = end_of (going_on s c k) (steps d by x (going_on s c k)) in
      let rest = all_steps (map (steps d by) xs) in
      let rest_meaning = in_order (map (meaning d) xs) in
      end_of-append (going_on s c k) (steps d by x (going_on s c k)) (unless_stopped rest p)
      ∙ rest_agrees rest rest_meaning p others
      ∙ ap (λ q. unless_stop q rest_meaning) (own s c k)

  block_agrees : (es : List ((s : Statement) × StatementAgrees s)) → Agrees (all_steps (map (steps d by) (the_statements es))) (in_order (map (meaning d) (the_statements es)))
  block_agrees [] s c k = refl
  block_agrees (e ∷ es) s c k = one_more e.0 (the_statements es) e.1 (block_agrees es) s c k

  branches_agree : (es : List ((b : Branch) × BranchAgrees b)) (t : Steps) (m : Meaning) → Agrees t m → Agrees (branch_steps by (map (guarded d by) (the_branches es)) t) (first_true d (map choice (the_branches es)) m)
  branches_agree [] t m h s c k = h s c k
  branches_agree (e ∷ es) t m h s c k =
      let rest = branch_steps by (map (guarded d by) (the_branches es)) t in
      let rest_meaning = first_true d (map choice (the_branches es)) m in
      let own : Cond → Captures = λ x. (evaluated d x s c k).captures in
      let test : Cond → Bool → Point = λ x b. cond b ((choice e.0).block s c (own x)) (rest_meaning s c (own x)) in
      let x = (guarded d by e.0).cond in
      let next = going_on s c (own x) in
      let done : end_of next (cond (evaluated d x s c k).truth ((guarded d by e.0).block next) (rest next)) ≡ test x (evaluated d x s c k).truth =
      elim (evaluated d x s c k).truth as (λ b. end_of next (cond b ((guarded d by e.0).block next) (rest next)) ≡ test x b)
      [ true ↦ e.1.1 s c (own x) | false ↦ branches_agree es t m h s c (own x) ] in
      done ∙ ap (λ x. test x (evaluated d x s c k).truth) e.1.0

  closed_agrees : (n : ℕ) (entry s : State) (c : Code) (b : Bool) (k : Captures) → (closed n entry (record { outcome = record { state = s; code = c; stopped = b }; captures = k })).point ≡ after_body entry (record { outcome = record { state = s; code = c; stopped = b }; captures = k })
  closed_agrees n entry s c true k = refl
  closed_agrees n entry s c false k = refl

  body_agrees : (n : ℕ) (s : State) (c : Code) (k : Captures) (t : Steps) (m : Meaning) → Agrees t m → end_of (going_on s c k) (then_steps t (λ r. closed n s r ∷ []) (going_on s c k)) ≡ after_body s (m s c k)
  body_agrees n s c k t m h =
      let p = end_of (going_on s c k) (t (going_on s c k)) in
      end_of-append (going_on s c k) (t (going_on s c k)) (closed n s p ∷ [])
      ∙ closed_agrees n s p.outcome.state p.outcome.code p.outcome.stopped p.captures
      ∙ ap (after_body s) (h s c k)

  abbrev SuchStatement : Type 0
  SuchStatement = (s : Statement) × StatementAgrees s

  abbrev SuchBranch : Type 0
  SuchBranch = (b : Branch) × BranchAgrees b

  abbrev layer : Statement-F SuchStatement SuchBranch → Statement-F Statement Branch
  layer = map-Statement SuchStatement SuchBranch Statement Branch (λ e. e.0) (λ e. e.0)

  abbrev branch_layer : Branch-F SuchStatement SuchBranch → Branch-F Statement Branch
  branch_layer = map-Branch SuchStatement SuchBranch Statement Branch (λ e. e.0) (λ e. e.0)

  -- both sides at a statement that is made of its layer
  rolled : (x : Statement-F Statement Branch) → Agrees (statement_steps d by (map-Statement Statement Branch Steps Guarded (steps d by) (guarded d by) x)) (statement_meaning d (map-Statement Statement Branch Meaning Choice (meaning d) choice x)) → StatementAgrees (roll-Statement x)
  rolled x h s c k =
      ap (λ (t : Steps). end_of (going_on s c k) (t (going_on s c k))) (fold-roll-Statement Steps Guarded (statement_steps d by) guarded_steps x)
      ∙ h s c k
      ∙ ap (λ (m : Meaning). m s c k) (sym (fold-roll-Statement Meaning Choice (statement_meaning d) branch_meaning x))

  statement_step : (y : Statement-F SuchStatement SuchBranch) → Agrees (statement_steps d by (map-Statement Statement Branch Steps Guarded (steps d by) (guarded d by) (layer y))) (statement_meaning d (map-Statement Statement Branch Meaning Choice (meaning d) choice (layer y)))
  statement_step (Update n lines) s c k = lines_agree s lines s c k
  statement_step (If bs None) s c k = branches_agree bs (λ p. []) going_on (λ s c k. refl) s c k
  statement_step (If bs (Some block)) s c k = branches_agree bs (all_steps (map (steps d by) (the_statements block))) (in_order (map (meaning d) (the_statements block))) (block_agrees block) s c k
  statement_step (Transaction n block) s c k = body_agrees n s c k (all_steps (map (steps d by) (the_statements block))) (in_order (map (meaning d) (the_statements block))) (block_agrees block)
  statement_step (Word n word) s c k = refl

  branch_step : (y : Branch-F SuchStatement SuchBranch) → BranchAgrees (roll-Branch (branch_layer y))
  branch_step y =
      let at_steps = fold-roll-Branch Steps Guarded (statement_steps d by) guarded_steps (branch_layer y) in
      let at_meaning = fold-roll-Branch Meaning Choice (statement_meaning d) branch_meaning (branch_layer y) in (
        ap (λ (g : Guarded). g.cond) at_steps ∙ ap (λ (k : Choice). k.cond) (sym at_meaning),
        λ s c k. ap (λ (g : Guarded). end_of (going_on s c k) (g.block (going_on s c k))) at_steps
            ∙ block_agrees y.block s c k
            ∙ ap (λ (x : Choice). x.block s c k) (sym at_meaning),
      )

  pub statement_agrees : (s : Statement) → StatementAgrees s
  statement_agrees =
      ind-Statement StatementAgrees BranchAgrees
      (λ x y is. subst (λ z. StatementAgrees (roll-Statement z)) is (rolled (layer y) (statement_step y)))
      (λ x y is. subst (λ z. BranchAgrees (roll-Branch z)) is (branch_step y))

  statements_agree : (ss : List Statement) → Agrees (all_steps (map (steps d by) ss)) (in_order (map (meaning d) ss))
  statements_agree [] s c k = refl
  statements_agree (x ∷ xs) s c k = one_more x xs (statement_agrees x) (statements_agree xs) s c k

  -- the last entry of a trace stands where the meaning d says
  pub trace_end : (ss : List Statement) (s : State) (o : Outcome) → last_of o (trace_of d ss s) ≡ meaning_of d ss s code.Ok
  trace_end ss s o =
      last_of_steps (first_point s) (all_steps (map (steps d by) ss) (first_point s))
      ∙ ap (λ (p : Point). p.outcome) (statements_agree ss s code.Ok no_captures)
