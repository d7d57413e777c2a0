-- What the steps of each kind of frame leave.
use Rattle.std.proofs.Common.{◌≡◌, ℕ, ◌≤◌, ◌<◌, Bool, true, false, List, [], ◌∷◌, ◌++◌, length, Option, refl, sym, ap, ◌∙◌, map, subst, cond, arith}
use Rattle.std.specs.Borrow.{Bor}
use Rattle.avp_lists.specs.History.{History, continued, present, state_at}
use Rattle.avp_lists.specs.declared.lists.State.{State}
use Rattle.avp_unlang.specs.declared.codes.Code.{Code}
use Rattle.avp_unlang.specs.declared.tree.Line.{Line}
use Rattle.avp_unlang.specs.declared.tree.Statement.{Statement}
use Rattle.avp_unlang.specs.declared.tree.Statement.TheVariants.{Update, If, Transaction, Word}
use Rattle.avp_unlang.specs.declared.tree.Statement.TheFolds.{fold_out-Branch}
use Rattle.avp_unlang.specs.declared.tree.Branch.{Branch, out-Branch}
use Rattle.avp_unlang.specs.Captures.{Captures}
use Rattle.avp_unlang.specs.Evaluations.{Evaluated, decided}
use Rattle.avp_unlang.specs.Meaning.{Point, stops}
use Rattle.avp_step.specs.Trace.{Evaluating, Step, Steps, Guarded, evaluated_at, goes_on, steps, guarded, statement_steps, guarded_steps, line_steps, branch_steps, block_steps, end_of, then_steps, closed, tested}
use Rattle.avp_step.specs.declared.labels.Label.TheVariants as label
use Rattle.avp_step.specs.declared.frames.Frame.{Frame}
use Rattle.avp_step.specs.declared.frames.Frame.TheVariants.{Statements, Lines, Branches, End}
use Rattle.avp_step.specs.declared.marks.Mark.{Mark}
use Rattle.avp_step.specs.internal.Frames.{else_steps, frame_steps}
use Rattle.avp_step.specs.internal.Courses.{Course, IsAlike, IsAtLast, IsContinued, IsMade, IsPassed, coming, evaluating, point_of, standing, step_of, with_frame}
use Rattle.avp_step.proofs.Equations.{steps_Update, steps_If, steps_Transaction, steps_Word}
use Rattle.avp_step.proofs.Fitting.{added_present}
use Rattle.avp_step.proofs.StepLaws.{then_cong, then_cong_right, then_assoc, not_stopped}
use Rattle.avp_dict.specs.Dictionary.{Dictionary}

-- a step from its equation: the frames and what was captured were changed, and a state was added
made_from : (last mark : Mark) (s : State) (old mid new : Course) → IsAtLast old → IsAlike old mid → mid.history ≡ old.history → old.reach ≤ mid.reach → IsContinued s mid new
    → coming old (standing last old) ≡ step_of mark s mid.captures ∷ coming mid (point_of mark s mid.captures) → IsMade last old mark new
made_from last mark s old mid new at_last alike history reach added h =
    let has : mid.history.place < length mid.history.states = subst (λ (h : History). h.place < length h.states) (sym history) (omega arith) in
    let p = added_present mid.history new.history s has added.history in
    record {
      alike = record { dictionary = added.alike.dictionary ∙ alike.dictionary; patterns = added.alike.patterns ∙ alike.patterns; keeps = added.alike.keeps ∙ alike.keeps };
      history = added.history ∙ ap (λ x. continued x mid.history) (sym p) ∙ ap (continued (present new.history)) history;
      reach = omega (arith, added.reach, reach);
      first =
          h ∙ ap (λ x. step_of mark x mid.captures ∷ coming mid (point_of mark x mid.captures)) (sym p)
          ∙ ap (λ k. step_of mark (present new.history) k ∷ coming mid (point_of mark (present new.history) k)) (sym added.captures)
          ∙ ap (λ es. step_of mark (present new.history) new.captures ∷ es) (sym (added.same (standing mark new)));
    }

module _ (m : Course) (last : Mark) where
  abbrev at : ℕ → State
  at = state_at m.history

  abbrev d : Dictionary
  d = m.dictionary

  abbrev by : Evaluating
  by = evaluating m

  abbrev o : Point
  o = standing last m

  -- other frames were put
  pub passed_by : (f : Frame) (fs : List Frame) (new : Course) → new ≡ record m { frames = fs } → coming (record m { frames = fs }) o ≡ coming (with_frame f m) o → IsPassed last (with_frame f m) new
  passed_by f fs new e h =
      subst (IsPassed last (with_frame f m)) (sym e)
      (record { kept = record { alike = record { dictionary = refl; patterns = refl; keeps = refl }; captures = refl; history = refl; reach = omega arith }; same = h })

  -- other frames were put, and something may have been captured, and then a state like the present one was added
  pub made_over : (f : Frame) (fs : List Frame) (k : Captures) (mark : Mark) (mid new : Course) → mid ≡ record m { captures = k; frames = fs } → IsAtLast m → IsContinued (present mid.history) mid new
      → coming (with_frame f m) o ≡ step_of mark o.outcome.state k ∷ coming (record m { frames = fs }) (point_of mark o.outcome.state k) → IsMade last (with_frame f m) mark new
  made_over f fs k mark mid new e at_last added h =
      made_from last mark o.outcome.state (with_frame f m) (record m { captures = k; frames = fs }) new at_last (record { dictionary = refl; patterns = refl; keeps = refl }) refl (omega arith)
      (subst (λ (x : Course). IsContinued (present x.history) x new) e added) h

  -- ---- statements

  module _ (ss : Bor (List Statement)) (going : last.stopped ≡ false) where
    abbrev with_all : Course
    with_all = with_frame (Statements ss) m

    module _ (s : Statement) (others : Bor (List Statement)) (split : ss.now ≡ s ∷ others.now) where
      abbrev with_others : Course
      with_others = with_frame (Statements others) m

      first_statement : coming with_all o ≡ then_steps (steps d by s) (coming with_others) o
      first_statement =
          then_cong (frame_steps d by at (Statements ss)) (block_steps d by (s ∷ others.now)) (coming m) o (not_stopped (block_steps d by ss.now) o going ∙ ap (λ l. block_steps d by l o) split)
          ∙ then_assoc (steps d by s) (frame_steps d by at (Statements others)) (coming m) o

      pub update_put : (n place : ℕ) (lines : List Line) (ls : Bor (List Line)) → place ≡ m.history.place → s ≡ Update n lines → ls.now ≡ lines → coming (with_frame (Lines ls place) with_others) o ≡ coming with_all o
      update_put n place lines ls here is same =
          then_cong (frame_steps d by at (Lines ls place)) (steps d by s) (coming with_others) o
          (not_stopped (line_steps d (at place) ls.now) o going
          ∙ ap (λ k. line_steps d (at k) ls.now o) here ∙ ap (λ l. line_steps d o.outcome.state l o) same
          ∙ sym (steps_Update d by n lines o) ∙ ap (λ x. steps d by x o) (sym is))
          ∙ sym first_statement

      pub if_put : (branches : List Branch) (otherwise : Option (List Statement)) (bs : Bor (List Branch)) (or : Bor (Option (List Statement))) → s ≡ If branches otherwise → bs.now ≡ branches → or.now ≡ otherwise → coming (with_frame (Branches bs or) with_others) o ≡ coming with_all o
      if_put branches otherwise bs or is same same_or =
          then_cong (frame_steps d by at (Branches bs or)) (steps d by s) (coming with_others) o
          (not_stopped (branch_steps by (map (guarded d by) bs.now) (else_steps d by or.now)) o going
          ∙ ap (λ l. branch_steps by (map (guarded d by) l) (else_steps d by or.now) o) same
          ∙ ap (λ l. branch_steps by (map (guarded d by) branches) (else_steps d by l) o) same_or
          ∙ sym (steps_If d by branches otherwise o) ∙ ap (λ x. steps d by x o) (sym is))
          ∙ sym first_statement

      pub word_first : (n : ℕ) (word : Code) → s ≡ Word n word
          → coming with_all o ≡ step_of (record { label = label.Word n; code = word; stopped = stops word }) o.outcome.state o.captures ∷ coming with_others (point_of (record { label = label.Word n; code = word; stopped = stops word }) o.outcome.state o.captures)
      word_first n word is =
          first_statement ∙ ap (λ es. es ++ coming with_others (end_of o es)) (ap (λ x. steps d by x o) is ∙ steps_Word d by n word o)

      pub transaction_first : (n place : ℕ) (block : List Statement) (body : Bor (List Statement)) → place ≡ m.history.place → s ≡ Transaction n block → body.now ≡ block
          → coming with_all o ≡ step_of (record { label = label.Enter n; code = last.code; stopped = false }) o.outcome.state o.captures ∷ coming (with_frame (Statements body) (with_frame (End n place) with_others)) (goes_on o)
      transaction_first n place block body here is same =
          let o' = goes_on o in
          let inside = block_steps d by body.now in
          let end' : Steps = λ r. closed n o.outcome.state r ∷ [] in
          let enters : Step = record { label = label.Enter n; point = o' } in
          let own : steps d by s o ≡ enters ∷ then_steps inside end' o' =
          ap (λ x. steps d by x o) is ∙ steps_Transaction d by n block o ∙ ap (λ l. enters ∷ then_steps (block_steps d by l) end' o') (sym same) in
          first_statement
          ∙ ap (λ es. es ++ coming with_others (end_of o es)) own
          ∙ ap (λ es. enters ∷ es)
          (then_assoc inside end' (coming with_others) o'
          ∙ then_cong_right inside (then_steps end' (coming with_others)) (coming (with_frame (End n place) with_others)) o'
          (λ r. ap (λ k. then_steps (λ r. closed n (at k) r ∷ []) (coming with_others) r) (sym here)))

  -- ---- conditions

  module _ (bs : Bor (List Branch)) (or : Bor (Option (List Statement))) (going : last.stopped ≡ false) where
    abbrev with_branches : Course
    with_branches = with_frame (Branches bs or) m

    branches_run : (all : List Branch) (otherwise : Option (List Statement)) → bs.now ≡ all → or.now ≡ otherwise → coming with_branches o ≡ then_steps (branch_steps by (map (guarded d by) all) (else_steps d by otherwise)) (coming m) o
    branches_run all otherwise is other =
        then_cong (frame_steps d by at (Branches bs or)) (branch_steps by (map (guarded d by) all) (else_steps d by otherwise)) (coming m) o
        (not_stopped (branch_steps by (map (guarded d by) bs.now) (else_steps d by or.now)) o going
        ∙ ap (λ l. branch_steps by (map (guarded d by) l) (else_steps d by or.now) o) is
        ∙ ap (λ l. branch_steps by (map (guarded d by) all) (else_steps d by l) o) other)

    -- the parts of a branch
    guarded_out : (b : Branch) → guarded d by b ≡ record { line = (out-Branch b).line; cond = (out-Branch b).cond; block = block_steps d by (out-Branch b).block }
    guarded_out b = fold_out-Branch Steps Guarded (statement_steps d by) guarded_steps b

    module _ (b : Branch) (others : Bor (List Branch)) (split : bs.now ≡ b ∷ others.now) where
      -- what the first condition comes to
      abbrev pub came : Evaluated
      came = by (out-Branch b).cond o.outcome.state o.outcome.code o.captures

      abbrev test_first : Evaluated → Frame → Type 0
      test_first e f =
          coming with_branches o ≡ step_of (record { label = label.If (out-Branch b).line e.truth; code = last.code; stopped = false }) o.outcome.state e.captures ∷ coming (with_frame f m) (evaluated_at e o)

      test_is : (e : Evaluated) → e ≡ came → coming with_branches o ≡ then_steps (λ o. tested (out-Branch b).line e o ∷ cond e.truth (block_steps d by (out-Branch b).block (evaluated_at e o)) (branch_steps by (map (guarded d by) others.now) (else_steps d by or.now) (evaluated_at e o))) (coming m) o
      test_is e is =
          let otherwise = branch_steps by (map (guarded d by) others.now) (else_steps d by or.now) in
          let both : Guarded → Evaluated → List Step = λ g x. tested g.line x o ∷ cond x.truth (g.block (evaluated_at x o)) (otherwise (evaluated_at x o)) in
          branches_run (b ∷ others.now) or.now split refl
          ∙ ap (λ g. then_steps (λ _. both g (by g.cond o.outcome.state o.outcome.code o.captures)) (coming m) o) (guarded_out b)
          ∙ ap (λ x. then_steps (λ _. both (record { line = (out-Branch b).line; cond = (out-Branch b).cond; block = block_steps d by (out-Branch b).block }) x) (coming m) o) (sym is)

      pub met_first : (block : Bor (List Statement)) (k : Captures) → decided true k ≡ came → block.now ≡ (out-Branch b).block → test_first (decided true k) (Statements block)
      met_first block k is same =
          let e = decided true k in
          test_is e is
          ∙ ap (λ l. tested (out-Branch b).line e o ∷ then_steps (block_steps d by l) (coming m) (evaluated_at e o)) (sym same)

      pub unmet_first : (k : Captures) → decided false k ≡ came → test_first (decided false k) (Branches others or)
      unmet_first k is = test_is (decided false k) is
