use Rattle.std.proofs.Common.{◌≡◌, false, IfErr, IsTrue, OnOk, ap, sym, ◌∙◌, subst}
use Rattle.avp_unlang.specs.PolicyPatterns.{branch_patterns_pass, branches_pass, cond_patterns_pass, else_passes, is_among, none_passes, policy_patterns_pass, statement_patterns_pass}
use Rattle.avp_unlang.proofs.KeptPatterns.{all_kept, another_passes, both_true, branch_kept, cond_kept, statement_kept}
use Rattle.avp_unlang.proofs.PolicyPasses.{err_of, left_fails, on_err, on_ok, right_fails, passes_Branch, passes_If, passes_Transaction}
use Rattle.avp_unlang.proofs.text.compiling.+blocks.Goals as goal

pub compile_branches-loop-branch-preserved : goal.compile_branches-loop-branch-preserved
compile_branches-loop-branch-preserved t c =
    let before = is_among c.loop-branch.compiled in
    let after = is_among c.compile_branch.new.compiled in record {
      pass =
          another_passes (branch_patterns_pass before) (branch_patterns_pass after) (branch_kept before after c.compile_branch.ensures.kept)
          c.args.branches.now c.loop-branch.branch-index c.branch-item.result c.loop-branch-test.true c.loop-branch.invariant.pass
          (ap (branch_patterns_pass after) (sym c.branch-item.is) ∙ c.in_ok-compile_branch.ensures.pass);
      kept = λ w h. c.compile_branch.ensures.kept w (c.loop-branch.invariant.kept w h);
    }

pub compile_block-loop-statement-preserved : goal.compile_block-loop-statement-preserved
compile_block-loop-statement-preserved t c =
    let before = is_among c.loop-statement.compiled in
    let after = is_among c.compile_statement.new.compiled in record {
      pass =
          another_passes (statement_patterns_pass before) (statement_patterns_pass after) (statement_kept before after c.compile_statement.ensures.kept)
          c.args.statements.now c.loop-statement.statement-index c.statement-item.result c.loop-statement-test.true c.loop-statement.invariant.pass
          (ap (statement_patterns_pass after) (sym c.statement-item.is) ∙ c.in_ok-compile_statement.ensures.pass);
      kept = λ w h. c.compile_statement.ensures.kept w (c.loop-statement.invariant.kept w h);
    }

pub compile_branch-returns-clause-pass : goal.compile_branch-returns-clause-pass
compile_branch-returns-clause-pass t c =
    let before = is_among c.compile_cond.new.compiled in
    let after = is_among c.compile_block.new.compiled in
    let b = c.args.branch.now in
    on_ok c.compile_block.result _ (IsTrue (branch_patterns_pass after b))
    (λ h. passes_Branch after b
    ∙ both_true (cond_patterns_pass after b.cond) (policy_patterns_pass after b.block) (cond_kept before after c.compile_block.ensures.kept b.cond c.in_ok-compile_cond.ensures.pass)
    (ap (policy_patterns_pass after) (sym c.as_slice.ensures) ∙ h))
    c.compile_block.ensures.pass

pub compile_statement-returns-in-None-clause-pass : goal.compile_statement-returns-in-None-clause-pass
compile_statement-returns-in-None-clause-pass t c =
    let test = is_among c.compile_branches.new.compiled in
    let bs = c.in-If.branches in
    ap (statement_patterns_pass test) c.in-If.is ∙ passes_If test bs c.in-If.otherwise
    ∙ both_true (branches_pass test bs) (else_passes test c.in-If.otherwise)
    (ap (branches_pass test) (sym c.as_slice.ensures) ∙ c.in_ok-compile_branches-in-If.ensures.pass)
    (ap (else_passes test) c.in-None.is)

pub compile_statement-returns-in-Some-clause-pass : goal.compile_statement-returns-in-Some-clause-pass
compile_statement-returns-in-Some-clause-pass t c =
    let before = is_among c.compile_branches.new.compiled in
    let after = is_among c.compile_block.new.compiled in
    let bs = c.in-If.branches in
    on_ok c.compile_block.result _ (IsTrue (statement_patterns_pass after c.args.statement.now))
    (λ h. ap (statement_patterns_pass after) c.in-If.is ∙ passes_If after bs c.in-If.otherwise
    ∙ both_true (branches_pass after bs) (else_passes after c.in-If.otherwise)
    (all_kept (branch_patterns_pass before) (branch_patterns_pass after) (branch_kept before after c.compile_block.ensures.kept) bs
    (ap (branches_pass before) (sym c.as_slice.ensures) ∙ c.in_ok-compile_branches-in-If.ensures.pass))
    (ap (else_passes after) c.in-Some.is ∙ ap (policy_patterns_pass after) (sym c.as_slice-in-Some.ensures) ∙ h))
    c.compile_block.ensures.pass

pub compile_statement-returns-in-Transaction-clause-pass : goal.compile_statement-returns-in-Transaction-clause-pass
compile_statement-returns-in-Transaction-clause-pass t c =
    let after = is_among c.compile_block-in-Transaction.new.compiled in
    subst (λ b. OnOk c.compile_block-in-Transaction.result (IsTrue b))
    (ap (policy_patterns_pass after) c.as_slice-in-Transaction.ensures
    ∙ sym (ap (statement_patterns_pass after) c.in-Transaction.is ∙ passes_Transaction after c.in-Transaction.field-0 c.in-Transaction.block))
    c.compile_block-in-Transaction.ensures.pass

-- ---- what is refused has a pattern

pub compile_branch-returns-clause-refused : goal.compile_branch-returns-clause-refused
compile_branch-returns-clause-refused t c =
    let b = c.args.branch.now in
    err_of c.compile_block.result _ (branch_patterns_pass none_passes b ≡ false)
    (λ h. passes_Branch none_passes b
    ∙ right_fails (cond_patterns_pass none_passes b.cond) (policy_patterns_pass none_passes b.block)
    (ap (policy_patterns_pass none_passes) (sym c.as_slice.ensures) ∙ h))
    c.compile_block.ensures.refused

pub compile_statement-returns-in-Some-clause-refused : goal.compile_statement-returns-in-Some-clause-refused
compile_statement-returns-in-Some-clause-refused t c =
    let bs = c.in-If.branches in
    err_of c.compile_block.result _ (statement_patterns_pass none_passes c.args.statement.now ≡ false)
    (λ h. ap (statement_patterns_pass none_passes) c.in-If.is ∙ passes_If none_passes bs c.in-If.otherwise
    ∙ right_fails (branches_pass none_passes bs) (else_passes none_passes c.in-If.otherwise)
    (ap (else_passes none_passes) c.in-Some.is ∙ ap (policy_patterns_pass none_passes) (sym c.as_slice-in-Some.ensures) ∙ h))
    c.compile_block.ensures.refused

pub compile_statement-returns-in-Transaction-clause-refused : goal.compile_statement-returns-in-Transaction-clause-refused
compile_statement-returns-in-Transaction-clause-refused t c =
    subst (λ b. IfErr c.compile_block-in-Transaction.result (λ _. b ≡ false))
    (ap (policy_patterns_pass none_passes) c.as_slice-in-Transaction.ensures
    ∙ sym (ap (statement_patterns_pass none_passes) c.in-Transaction.is ∙ passes_Transaction none_passes c.in-Transaction.field-0 c.in-Transaction.block))
    c.compile_block-in-Transaction.ensures.refused

pub compile_statement-returns-in_err-compile_branches-in-If-clause-refused : goal.compile_statement-returns-in_err-compile_branches-in-If-clause-refused
compile_statement-returns-in_err-compile_branches-in-If-clause-refused t c =
    let bs = c.in-If.branches in
    on_err c.from_residual.result (statement_patterns_pass none_passes c.args.statement.now ≡ false)
    (ap (statement_patterns_pass none_passes) c.in-If.is ∙ passes_If none_passes bs c.in-If.otherwise
    ∙ left_fails (branches_pass none_passes bs) (else_passes none_passes c.in-If.otherwise)
    (ap (branches_pass none_passes) (sym c.as_slice.ensures) ∙ c.in_err-compile_branches-in-If.ensures.refused))
