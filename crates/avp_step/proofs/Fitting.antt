-- The states of a store go on fitting the dictionary.
use Rattle.std.proofs.Common.{◌≡◌, ℕ, zero, suc, ◌+◌, ◌<◌, ◌≤◌, Bool, true, cond, IsTrue, List, [], ◌∷◌, ◌++◌, Option, None, Some, Ok, Err, length, take, refl, sym, ap, ◌∙◌, subst, arith, get_or, length-take, max}
use Rattle.std.specs.List.{All}
use Rattle.std.proofs.Math.Seq.{get_or-append_seam}
use Rattle.std.proofs.lemmas.List.Elements.{All-append, All-take}
use Rattle.avp_lists.specs.History.{History, continued, present, state_at}
use Rattle.avp_lists.specs.Selections.{IsFullSelected, edited_list_selected, edited_selected}
use Rattle.avp_lists.specs.States.{empty_state, list_of, max_pairs, with_list}
use Rattle.avp_lists.specs.declared.pairs.Pair.{Pair}
use Rattle.avp_lists.specs.declared.edits.Edit.{Edit}
use Rattle.avp_lists.specs.declared.lists.List.{List as Name}
use Rattle.avp_lists.specs.declared.lists.List.TheVariants.{Control, Reply, Request}
use Rattle.avp_lists.specs.declared.lists.State.{State}
use Rattle.avp_lists.specs.declared.tags.Selection.{Selection}
use Rattle.avp_dict.specs.Dictionary.{Dictionary}
use Rattle.avp_dict.specs.Limits.{fits}
use Rattle.avp_unlang.specs.Meaning.{Edited, Failed, edit_of, line_result, reason, result_from}
use Rattle.avp_unlang.specs.Resolutions.{StateFits, resolution}
use Rattle.avp_unlang.specs.declared.meaning.reasons.Reason.TheVariants.{Full}
use Rattle.avp_unlang.specs.declared.meaning.resolving.Unresolved.{Unresolved}
use Rattle.avp_unlang.specs.declared.tree.Line.{Line}
use Rattle.std.proofs.lemmas.Bool.{le-leb, lt-leb}
use Rattle.avp_step.specs.internal.Courses.{IsLineDone, StatesFit}
use Rattle.std.specs.Borrow.{Bor}
use Rattle.std.specs.Prelude.{◌&&◌}
use Rattle.avp_unlang.proofs.Comparing.{and_left, and_right}
use Rattle.avp_unlang.proofs.KeptEdits.{applied}
use Rattle.avp_unlang.proofs.KeptPatterns.{both_true}
use Rattle.avp_patterns.specs.Patterns.{Written}
use Rattle.avp_unlang.specs.PolicyPatterns.{branch_patterns_pass, branches_pass, cond_patterns_pass, else_passes, is_among, policy_patterns_pass, statement_patterns_pass}
use Rattle.avp_unlang.proofs.PolicyPasses.{passes_Branch, passes_If, passes_Transaction}
use Rattle.avp_unlang.specs.Suiting.{branch_suits, branches_suit, cond_suits, else_suits, policy_suits, statement_suits}
use Rattle.avp_unlang.specs.internal.Depth.{depth, depth_of, depth_of_branch, depth_of_branches, else_depth, statement_depth, branch_depth}
use Rattle.avp_unlang.specs.declared.tree.Statement.TheVariants.{If, Transaction}
use Rattle.avp_unlang.specs.declared.tree.Statement.TheFolds.{fold_out-Branch}
use Rattle.avp_unlang.proofs.StatementDepths.{depth_If, depth_Transaction}
use Rattle.avp_unlang.specs.declared.tree.Branch.{Branch, out-Branch}
use Rattle.avp_unlang.specs.declared.tree.Statement.{Statement}
use Rattle.avp_unlang.proofs.SpelledSuits.{suits_Branch, suits_If, suits_Transaction}
use Rattle.avp_step.specs.internal.Frames.{Fits}
use Rattle.avp_step.specs.declared.frames.Frame.{Frame}
use Rattle.avp_step.specs.declared.frames.Frame.TheVariants.{Statements, Branches, End}

pub added_present : (old new : History) (s : State) → old.place < length old.states → new ≡ continued s old → present new ≡ s
added_present old new s has a =
    let at : length (take (old.place + 1) old.states) ≡ old.place + 1 = simp length-take (omega arith) in
    ap present a
    ∙ ap (λ k. get_or (take (old.place + 1) old.states ++ s ∷ []) k empty_state) (sym at)
    ∙ get_or-append_seam (take (old.place + 1) old.states) s [] empty_state

module _ (d : Dictionary) where
  pub one_fits : (s : State) → StateFits d s → All (StateFits d) (s ∷ [])
  one_fits s h zero e within = h
  one_fits s h (suc k) e within = absurd (omega arith)

  -- one more state that fits
  pub continued_fits : (old new : History) (s : State) → new ≡ continued s old → StateFits d s → StatesFit d old → StatesFit d new
  continued_fits old new s e h all =
      subst (StatesFit d) (sym e) (All-append (StateFits d) (take (old.place + 1) old.states) (s ∷ []) (All-take (StateFits d) (old.place + 1) old.states all) (one_fits s h))

  pub earlier_fits : (h : History) (k : ℕ) → k < length h.states → StatesFit d h → StateFits d (state_at h k)
  earlier_fits h k lt all = all k empty_state lt

module _ (d : Dictionary) where
  abbrev AllFit : List Pair → Type 0
  AllFit pairs = All (λ q. IsTrue (fits q d)) pairs

  -- one list in the place of another
  replaced : (which : Name) (pairs : List Pair) (s : State) → AllFit pairs → StateFits d s → StateFits d (with_list which pairs s)
  replaced Request pairs s h all Request = h
  replaced Request pairs s h all Reply = all Reply
  replaced Request pairs s h all Control = all Control
  replaced Reply pairs s h all Request = all Request
  replaced Reply pairs s h all Reply = h
  replaced Reply pairs s h all Control = all Control
  replaced Control pairs s h all Request = all Request
  replaced Control pairs s h all Reply = all Reply
  replaced Control pairs s h all Control = h

  pub edited_fits : (selection : Selection) (e : Edit) (s : State) → IsTrue (fits e.pair d) → StateFits d s → StateFits d (edited_selected selection e s)
  edited_fits selection e s h all =
      replaced e.list (edited_list_selected selection e s) s (applied (λ q. IsTrue (fits q d)) selection e.op e.pair (list_of e.list s) (λ _. h) (all e.list)) all

  -- an edit of the present state by a pair that fits
  pub edit_fits : (selection : Selection) (e : Edit) (old new : History) → old.place < length old.states → new ≡ continued (edited_selected selection e (present old)) old → IsTrue (fits e.pair d) → StatesFit d old → StatesFit d new
  edit_fits selection e old new has is h all =
      continued_fits d old new (edited_selected selection e (present old)) is (edited_fits selection e (present old) h (earlier_fits d old old.place has all)) all

-- ---- lines

module _ (d : Dictionary) (line : Line) (old : History) where
  -- a line whose pair is edited in
  pub line_edited : (new : History) (pair : Pair) → old.place < length old.states → resolution d line (present old) ≡ Ok pair → length (edited_list_selected line.selection (edit_of line pair) (present old)) ≤ max_pairs → new ≡ continued (edited_selected line.selection (edit_of line pair) (present old)) old → IsLineDone d line old new None
  unfolding line_result
  line_edited new pair has resolved within is =
      let p = added_present old new (edited_selected line.selection (edit_of line pair) (present old)) has is in (
        ap (result_from line (present old)) resolved
            ∙ ap (λ b. cond b (Edited (edited_selected line.selection (edit_of line pair) (present old))) (Failed Full)) (le-leb _ _ within)
            ∙ ap Edited (sym p),
        is ∙ ap (λ s. continued s old) (sym p),
      )

  -- a line whose list is full
  pub line_full : (new : History) (pair : Pair) → resolution d line (present old) ≡ Ok pair → IsFullSelected line.selection (edit_of line pair) (present old) → new ≡ old → IsLineDone d line old new (Some Full)
  unfolding line_result
  line_full new pair resolved full is =
      (ap (result_from line (present old)) resolved ∙ ap (λ b. cond b (Edited (edited_selected line.selection (edit_of line pair) (present old))) (Failed Full)) (lt-leb _ _ full), is)

  -- a line with no pair
  pub line_unresolved : (why : Unresolved) → resolution d line (present old) ≡ Err why → IsLineDone d line old old (Some (reason why))
  unfolding line_result
  line_unresolved why resolved = (ap (result_from line (present old)) resolved, refl)

-- ---- frames

module _ (d : Dictionary) (ps : List Written) (end : ℕ) (fs : List Frame) where
  abbrev among : Written → Bool
  among = is_among ps

  module _ (ss : Bor (List Statement)) (s : Statement) (others : Bor (List Statement)) (split : ss.now ≡ s ∷ others.now) (fits : Fits d ps end fs (Statements ss)) where
    deep : depth_of ss.now ≡ max (depth s) (depth_of others.now)
    deep = ap depth_of split

    both : (statement_suits d s && policy_suits d others.now) ≡ true
    both = ap (policy_suits d) (sym split) ∙ fits.suits

    own : (x : Bool) → statement_suits d s ≡ x → x ≡ true
    own x is = sym is ∙ and_left (statement_suits d s) (policy_suits d others.now) both

    all_pass : (statement_patterns_pass among s && policy_patterns_pass among others.now) ≡ true
    all_pass = ap (policy_patterns_pass among) (sym split) ∙ fits.passes

    own_passes : (x : Bool) → statement_patterns_pass among s ≡ x → x ≡ true
    own_passes x is = sym is ∙ and_left (statement_patterns_pass among s) (policy_patterns_pass among others.now) all_pass

    pub if_fits : (branches : List Branch) (otherwise : Option (List Statement)) (bs : Bor (List Branch)) (or : Bor (Option (List Statement))) → s ≡ If branches otherwise → bs.now ≡ branches → or.now ≡ otherwise → Fits d ps end (Statements others ∷ fs) (Branches bs or)
    if_fits branches otherwise bs or is same same_or = record {
      room = omega (arith, fits.room, deep, ap depth is, depth_If branches otherwise, ap depth_of_branches same, ap else_depth same_or);
      entry = fits.entry;
      suits = ap (λ l. branches_suit d l && else_suits d or.now) same ∙ ap (λ l. branches_suit d branches && else_suits d l) same_or ∙ own _ (ap (statement_suits d) is ∙ suits_If d branches otherwise);
      passes =
          ap (λ l. branches_pass among l && else_passes among or.now) same ∙ ap (λ l. branches_pass among branches && else_passes among l) same_or
          ∙ own_passes _ (ap (statement_patterns_pass among) is ∙ passes_If among branches otherwise);
    }

    pub body_fits : (n place : ℕ) (block : List Statement) → s ≡ Transaction n block → (body : Bor (List Statement)) → body.now ≡ block → Fits d ps end (End n place ∷ Statements others ∷ fs) (Statements body)
    body_fits n place block is body same = record {
      room = omega (arith, fits.room, deep, ap depth is, depth_Transaction n block, ap depth_of same);
      entry = fits.entry;
      suits = ap (policy_suits d) same ∙ own _ (ap (statement_suits d) is ∙ suits_Transaction d n block);
      passes = ap (policy_patterns_pass among) same ∙ own_passes _ (ap (statement_patterns_pass among) is ∙ passes_Transaction among n block);
    }

  -- the first condition can be tested, and its block fits
  module _ (bs : Bor (List Branch)) (or : Bor (Option (List Statement))) (b : Branch) (others : Bor (List Branch)) (split : bs.now ≡ b ∷ others.now) (fits : Fits d ps end fs (Branches bs or)) where
    pub all_branches : (branch_suits d b && branches_suit d others.now) ≡ true
    all_branches = ap (branches_suit d) (sym split) ∙ and_left (branches_suit d bs.now) (else_suits d or.now) fits.suits

    parts : (cond_suits d (out-Branch b).cond && policy_suits d (out-Branch b).block) ≡ true
    parts = sym (suits_Branch d b) ∙ and_left (branch_suits d b) (branches_suit d others.now) all_branches

    all_branches_pass : (branch_patterns_pass among b && branches_pass among others.now) ≡ true
    all_branches_pass = ap (branches_pass among) (sym split) ∙ and_left (branches_pass among bs.now) (else_passes among or.now) fits.passes

    parts_pass : (cond_patterns_pass among (out-Branch b).cond && policy_patterns_pass among (out-Branch b).block) ≡ true
    parts_pass = sym (passes_Branch among b) ∙ and_left (branch_patterns_pass among b) (branches_pass among others.now) all_branches_pass

    pub branch_passes : cond_patterns_pass among (out-Branch b).cond ≡ true
    branch_passes = and_left (cond_patterns_pass among (out-Branch b).cond) (policy_patterns_pass among (out-Branch b).block) parts_pass

    pub branch_suits_cond : cond_suits d (out-Branch b).cond ≡ true
    branch_suits_cond = and_left (cond_suits d (out-Branch b).cond) (policy_suits d (out-Branch b).block) parts

    -- so do the other conditions
    pub others_fit : Fits d ps end fs (Branches others or)
    others_fit = record {
      room = omega (arith, fits.room, ap depth_of_branches split);
      entry = fits.entry;
      suits = both_true (branches_suit d others.now) (else_suits d or.now) (and_right (branch_suits d b) (branches_suit d others.now) all_branches) (and_right (branches_suit d bs.now) (else_suits d or.now) fits.suits);
      passes =
          both_true (branches_pass among others.now) (else_passes among or.now) (and_right (branch_patterns_pass among b) (branches_pass among others.now) all_branches_pass)
          (and_right (branches_pass among bs.now) (else_passes among or.now) fits.passes);
    }

    pub block_fits : (block : Bor (List Statement)) → block.now ≡ (out-Branch b).block → Fits d ps end fs (Statements block)
    block_fits block same =
        let out : depth_of_branch b ≡ depth_of (out-Branch b).block = fold_out-Branch ℕ ℕ statement_depth branch_depth b in
        record {
          room = omega (arith, fits.room, ap depth_of_branches split, ap depth_of same, out);
          entry = fits.entry;
          suits = ap (policy_suits d) same ∙ and_right (cond_suits d (out-Branch b).cond) (policy_suits d (out-Branch b).block) parts;
          passes = ap (policy_patterns_pass among) same ∙ and_right (cond_patterns_pass among (out-Branch b).cond) (policy_patterns_pass among (out-Branch b).block) parts_pass;
        }
