-- What holds of each step of a trace: of each update line's, and of each other step.
use Rattle.std.proofs.Common.{◌≡◌, ◌<◌, ℕ, zero, suc, true, false, cond, List, [], ◌∷◌, ◌++◌, None, Some, map, length, refl, sym, ap, ◌∙◌, subst, arith}
use Rattle.std.specs.List.{flat_map, slice_index_or}
use Rattle.avp_dict.specs.Dictionary.{Dictionary}
use Rattle.avp_unlang.specs.Evaluations.{Evaluated, evaluated}
use Rattle.avp_unlang.specs.Meaning.{Outcome, Point}
use Rattle.avp_unlang.specs.declared.codes.Code.{Code}
use Rattle.avp_unlang.specs.declared.tree.Branch.{Branch}
use Rattle.avp_unlang.specs.declared.tree.Line.{Line}
use Rattle.avp_unlang.specs.declared.tree.Statement.{Statement}
use Rattle.avp_unlang.specs.declared.tree.Statement.TheOpen.{Statement-F, Branch-F, Update, If, Transaction, Word}
use Rattle.avp_unlang.specs.declared.tree.Statement.TheViews.{roll-Statement, roll-Branch}
use Rattle.avp_unlang.specs.declared.tree.Statement.TheFolds.{fold-roll-Statement, fold-roll-Branch, map-Statement, map-Branch, ind-Statement}
use Rattle.avp_step.specs.Trace.{Entry, Evaluating, Guarded, Step, Steps, all_steps, branch_steps, closed, end_of, entered, entry_in, evaluated_at, goes_on, guarded, guarded_steps, line_steps, statement_steps, steps, tested, then_steps, unless_stopped, word_step}
use Rattle.radpolicy_walk_commands.specs.internal.EditedLines.{branch_lines, joined, lines_in, lines_in_branch, lines_of, statement_lines}

pub flat_mapped : {X : Type 0} (f : X → List Line) (xs : List X) → joined (map f xs) ≡ flat_map f xs
flat_mapped f [] = refl
flat_mapped f (x ∷ xs) = ap (λ rest. f x ++ rest) (flat_mapped f xs)

-- each of the steps from a point
abbrev pub AreSteps : (Outcome → Entry → Type 0) → Point → List Step → Type 0
AreSteps P p [] = Unit {0}
AreSteps P p (t ∷ ts) = P p.outcome (entry_in t) × AreSteps P t.point ts

-- what is to be shown: of the steps of update lines that are allowed, and of each other step
pub record Shows (d : Dictionary) (P : Outcome → Entry → Type 0) (C : List Line → Type 0) : Type 1 where
  pub first : (xs ys : List Line) → C (xs ++ ys) → C xs
  pub next : (xs ys : List Line) → C (xs ++ ys) → C ys
  pub lines : (p : Point) (ls : List Line) → C ls → AreSteps P p (line_steps d p.outcome.state ls p)
  pub test : (n : ℕ) (e : Evaluated) (p : Point) → P p.outcome (entry_in (tested n e p))
  pub enter : (n : ℕ) (p : Point) → P p.outcome (entry_in (entered n p))
  pub word : (n : ℕ) (word : Code) (p : Point) → P p.outcome (entry_in (word_step n word p))
  pub close : (n : ℕ) (p : Point) (ts : List Step) → AreSteps P (goes_on p) ts
      → P (end_of (goes_on p) ts).outcome (entry_in (closed n p.outcome.state (end_of (goes_on p) ts)))

module _ (d : Dictionary) (P : Outcome → Entry → Type 0) (C : List Line → Type 0) (shows : Shows d P C) where
  abbrev by : Evaluating
  by = evaluated d

  abbrev IsSteps : Steps → Type 0
  IsSteps t = (p : Point) → AreSteps P p (t p)

  both : (p : Point) (xs ys : List Step) → AreSteps P p xs → AreSteps P (end_of p xs) ys → AreSteps P p (xs ++ ys)
  both p [] ys h k = k
  both p (t ∷ ts) ys h k = (h.0, both t.point ts ys h.1 k)

  unless : (t : Steps) → IsSteps t → IsSteps (unless_stopped t)
  unless t h p = elim p.outcome.stopped as (λ b. AreSteps P p (cond b [] (t p))) [ true ↦ tt | false ↦ h p ]

  abbrev OfStatement : Statement → Type 0
  OfStatement s = C (lines_in s) → IsSteps (steps d by s)

  abbrev OfBranch : Branch → Type 0
  OfBranch b = C (lines_in_branch b) → IsSteps (guarded d by b).block

  abbrev SuchStatement : Type 0
  SuchStatement = (s : Statement) × OfStatement s

  abbrev SuchBranch : Type 0
  SuchBranch = (b : Branch) × OfBranch b

  abbrev the_statements : List SuchStatement → List Statement
  the_statements es = map (λ e. e.0) es

  abbrev the_branches : List SuchBranch → List Branch
  the_branches es = map (λ e. e.0) es

  abbrev block : List SuchStatement → Steps
  block es = all_steps (map (steps d by) (the_statements es))

  of_block : (es : List SuchStatement) → C (flat_map lines_in (the_statements es)) → IsSteps (block es)
  of_block [] c p = tt
  of_block (e ∷ es) c p =
      let rest = of_block es (shows.next (lines_in e.0) (flat_map lines_in (the_statements es)) c) in
      both p (steps d by e.0 p) (unless_stopped (block es) (end_of p (steps d by e.0 p)))
      (e.1 (shows.first (lines_in e.0) (flat_map lines_in (the_statements es)) c) p) (unless (block es) rest (end_of p (steps d by e.0 p)))

  of_branches : (es : List SuchBranch) (t : Steps) → C (flat_map lines_in_branch (the_branches es)) → IsSteps t → IsSteps (branch_steps by (map (guarded d by) (the_branches es)) t)
  of_branches [] t c h p = h p
  of_branches (e ∷ es) t c h p =
      let own = shows.first (lines_in_branch e.0) (flat_map lines_in_branch (the_branches es)) c in
      let others = shows.next (lines_in_branch e.0) (flat_map lines_in_branch (the_branches es)) c in
      let rest = branch_steps by (map (guarded d by) (the_branches es)) t in
      let g = guarded d by e.0 in
      let test : Evaluated = by g.cond p.outcome.state p.outcome.code p.captures in
      let after = evaluated_at test p in
      (shows.test g.line test p, elim test.truth as (λ b. AreSteps P after (cond b (g.block after) (rest after))) [ true ↦ e.1 own after | false ↦ of_branches es t others h after ])

  of_transaction : (n : ℕ) (t : Steps) → IsSteps t → IsSteps (λ p. entered n p ∷ then_steps t (λ r. closed n p.outcome.state r ∷ []) (goes_on p))
  of_transaction n t h p =
      let inside = goes_on p in
      (shows.enter n p, both inside (t inside) (closed n p.outcome.state (end_of inside (t inside)) ∷ []) (h inside) (shows.close n p (t inside) (h inside), tt))

  of_layer : (y : Statement-F SuchStatement SuchBranch)
      → C (statement_lines (map-Statement Statement Branch (List Line) (List Line) lines_in lines_in_branch (map-Statement SuchStatement SuchBranch Statement Branch (λ e. e.0) (λ e. e.0) y)))
      → IsSteps (statement_steps d by (map-Statement Statement Branch Steps Guarded (steps d by) (guarded d by) (map-Statement SuchStatement SuchBranch Statement Branch (λ e. e.0) (λ e. e.0) y)))
  of_layer (Update n lines) c p = shows.lines p lines c
  of_layer (If bs None) c p =
      of_branches bs (λ p. []) (subst C (flat_mapped lines_in_branch (the_branches bs)) (shows.first (joined (map lines_in_branch (the_branches bs))) [] c)) (λ p. tt) p
  of_layer (If bs (Some es)) c p =
      of_branches bs (block es)
      (subst C (flat_mapped lines_in_branch (the_branches bs)) (shows.first (joined (map lines_in_branch (the_branches bs))) (joined (map lines_in (the_statements es))) c))
      (of_block es (subst C (flat_mapped lines_in (the_statements es)) (shows.next (joined (map lines_in_branch (the_branches bs))) (joined (map lines_in (the_statements es))) c))) p
  of_layer (Transaction n es) c p = of_transaction n (block es) (of_block es (subst C (flat_mapped lines_in (the_statements es)) c)) p
  of_layer (Word n word) c p = (shows.word n word p, tt)

  statement_rolled : (x : Statement-F Statement Branch)
      → (C (statement_lines (map-Statement Statement Branch (List Line) (List Line) lines_in lines_in_branch x)) → IsSteps (statement_steps d by (map-Statement Statement Branch Steps Guarded (steps d by) (guarded d by) x)))
      → OfStatement (roll-Statement x)
  unfolding lines_in lines_in_branch
  statement_rolled x h c =
      subst IsSteps (sym (fold-roll-Statement Steps Guarded (statement_steps d by) guarded_steps x))
      (h (subst C (fold-roll-Statement (List Line) (List Line) statement_lines branch_lines x) c))

  branch_rolled : (y : Branch-F SuchStatement SuchBranch) → OfBranch (roll-Branch (map-Branch SuchStatement SuchBranch Statement Branch (λ e. e.0) (λ e. e.0) y))
  unfolding lines_in lines_in_branch
  branch_rolled y c =
      let x = map-Branch SuchStatement SuchBranch Statement Branch (λ e. e.0) (λ e. e.0) y in
      subst (λ (g : Guarded). IsSteps g.block) (sym (fold-roll-Branch Steps Guarded (statement_steps d by) guarded_steps x))
      (of_block y.block (subst C (fold-roll-Branch (List Line) (List Line) statement_lines branch_lines x ∙ flat_mapped lines_in (the_statements y.block)) c))

  of_each : (s : Statement) → OfStatement s
  of_each =
      ind-Statement OfStatement OfBranch
      (λ x y is. subst (λ z. OfStatement (roll-Statement z)) is (statement_rolled (map-Statement SuchStatement SuchBranch Statement Branch (λ e. e.0) (λ e. e.0) y) (of_layer y)))
      (λ x y is. subst (λ z. OfBranch (roll-Branch z)) is (branch_rolled y))

  pub of_all : (ss : List Statement) → C (lines_of ss) → IsSteps (all_steps (map (steps d by) ss))
  of_all [] c p = tt
  of_all (s ∷ ss) c p =
      both p (steps d by s p) (unless_stopped (all_steps (map (steps d by) ss)) (end_of p (steps d by s p)))
      (of_each s (shows.first (lines_in s) (lines_of ss) c) p)
      (unless (all_steps (map (steps d by) ss)) (of_all ss (shows.next (lines_in s) (lines_of ss) c)) (end_of p (steps d by s p)))

  -- the step after a place
  pub step_at : (first : Step) (ts : List Step) → AreSteps P first.point ts → (k : ℕ) (e : Entry) → k < length (map entry_in ts)
      → P (slice_index_or (entry_in first ∷ map entry_in ts) k e).outcome (slice_index_or (map entry_in ts) k e)
  step_at first [] h k e within = absurd (omega arith)
  step_at first (t ∷ ts) h zero e within = h.0
  step_at first (t ∷ ts) h (suc k) e within = step_at t ts h.1 k e (omega arith)
