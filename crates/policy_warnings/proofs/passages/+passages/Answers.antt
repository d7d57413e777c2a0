use Rattle.std.proofs.Common.{map}
use Rattle.std.specs.Prelude.{◌++◌}
use Rattle.policy_warnings.specs.Passages.{chain, choice}
use Rattle.policy_warnings.proofs.Blocks.{on_ok}
use Rattle.policy_warnings.proofs.Passing.{branch_after, branch_warned, chain_after, chain_warned, else_after, else_warned, if_after, if_ok, if_warned, transaction_after, transaction_warned, update_after, update_warned, word_after, word_warned}
use Rattle.policy_warnings.proofs.passages.+passages.Goals as goal

pub pass_branch-returns-clause-after : goal.pass_branch-returns-clause-after
pass_branch-returns-clause-after t c =
    if_ok c.pass_block.result _ _
    (λ after h. branch_after c.args.mention c.args.branch.now c.as_slice.result.now c.args.known c.where_true-asked.result after
    c.where_true-asked.ensures c.as_slice.ensures h) c.pass_block.ensures.after

pub pass_branch-returns-clause-warned : goal.pass_branch-returns-clause-warned
pass_branch-returns-clause-warned t c =
    on_ok c.pass_block.result _ _
    (λ h. branch_warned c.args.mention c.args.branch.now c.as_slice.result.now c.args.known c.where_true-asked.result c.args.warnings.now.items
    c.pass_block.new.warnings.items c.where_true-asked.ensures c.as_slice.ensures h) c.pass_block.ensures.warned

pub pass_branches-loop-branch-preserved : goal.pass_branches-loop-branch-preserved
pass_branches-loop-branch-preserved t c =
    let m = c.args.mention in
    let all = c.args.branches.now in (
      chain_after m all c.loop-branch.branch-index c.branch-item.result c.loop-branch.rest c.where_false-rest.result
          c.loop-branch-test.true c.branch-item.is c.loop-branch.after c.in_ok-taken.taken c.either_way-after.result
          c.in_ok-taken.ensures.after c.either_way-after.ensures c.where_false-rest.ensures
          (λ otherwise. (chain m (map (choice m) all) otherwise).after c.args.known) c.loop-branch.invariant.0,
      chain_warned m all c.loop-branch.branch-index c.branch-item.result c.loop-branch.rest c.where_false-rest.result
          c.loop-branch-test.true c.branch-item.is c.loop-branch.warnings.items c.pass_branch.new.warnings.items
          c.in_ok-taken.ensures.warned c.where_false-rest.ensures
          (λ otherwise. c.args.warnings.now.items ++ (chain m (map (choice m) all) otherwise).warned c.args.known) c.loop-branch.invariant.1,
    )

pub pass_statement-returns-in-Update-clause-after : goal.pass_statement-returns-in-Update-clause-after
pass_statement-returns-in-Update-clause-after t c =
    if_ok c.pass_update.result _ _
    (λ after h. update_after c.args.mention c.args.statement.now c.args.known c.in-Update.field-0 c.in-Update.lines c.as_slice.result.now after
    c.in-Update.is c.as_slice.ensures h) c.pass_update.ensures.after

pub pass_statement-returns-in-Update-clause-warned : goal.pass_statement-returns-in-Update-clause-warned
pass_statement-returns-in-Update-clause-warned t c =
    on_ok c.pass_update.result _ _
    (λ h. update_warned c.args.mention c.args.statement.now c.args.known c.in-Update.field-0 c.in-Update.lines c.as_slice.result.now
    c.args.warnings.now.items c.pass_update.new.warnings.items c.in-Update.is c.as_slice.ensures h) c.pass_update.ensures.warned

pub pass_statement-returns-in_ok-last-in-Some-clause-after : goal.pass_statement-returns-in_ok-last-in-Some-clause-after
pass_statement-returns-in_ok-last-in-Some-clause-after t c =
    else_after c.args.mention c.args.statement.now c.args.known c.in-If.branches c.as_slice-in-If.result.now c.in-If.otherwise
    c.in-Some.block c.as_slice-in-Some.result.now c.in_ok-ways-in-If.ways.after c.in_ok-ways-in-If.ways.rest c.in_ok-last-in-Some.last c.either_way.result
    c.in-If.is c.as_slice-in-If.ensures c.in-Some.is c.as_slice-in-Some.ensures c.in_ok-last-in-Some.ensures.after c.either_way.ensures c.in_ok-ways-in-If.ensures.after

pub pass_statement-returns-in_ok-last-in-Some-clause-warned : goal.pass_statement-returns-in_ok-last-in-Some-clause-warned
pass_statement-returns-in_ok-last-in-Some-clause-warned t c =
    else_warned c.args.mention c.args.statement.now c.args.known c.in-If.branches c.as_slice-in-If.result.now c.in-If.otherwise
    c.in-Some.block c.as_slice-in-Some.result.now c.in_ok-ways-in-If.ways.rest c.args.warnings.now.items c.pass_branches.new.warnings.items c.pass_block.new.warnings.items
    c.in-If.is c.as_slice-in-If.ensures c.in-Some.is c.as_slice-in-Some.ensures c.in_ok-last-in-Some.ensures.warned c.in_ok-ways-in-If.ensures.warned

pub pass_statement-returns-in-None-clause-after : goal.pass_statement-returns-in-None-clause-after
pass_statement-returns-in-None-clause-after t c =
    if_after c.args.mention c.args.statement.now c.args.known c.in-If.branches c.as_slice-in-If.result.now c.in-If.otherwise
    c.in_ok-ways-in-If.ways.after c.in_ok-ways-in-If.ways.rest c.either_way-in-None.result
    c.in-If.is c.as_slice-in-If.ensures c.in-None.is c.either_way-in-None.ensures c.in_ok-ways-in-If.ensures.after

pub pass_statement-returns-in-None-clause-warned : goal.pass_statement-returns-in-None-clause-warned
pass_statement-returns-in-None-clause-warned t c =
    if_warned c.args.mention c.args.statement.now c.args.known c.in-If.branches c.as_slice-in-If.result.now c.in-If.otherwise
    c.in_ok-ways-in-If.ways.rest c.args.warnings.now.items c.pass_branches.new.warnings.items
    c.in-If.is c.as_slice-in-If.ensures c.in-None.is c.in_ok-ways-in-If.ensures.warned

pub pass_statement-returns-in_ok-kept-in-Transaction-clause-after : goal.pass_statement-returns-in_ok-kept-in-Transaction-clause-after
pass_statement-returns-in_ok-kept-in-Transaction-clause-after t c =
    transaction_after c.args.mention c.args.statement.now c.args.known c.in-Transaction.field-0 c.in-Transaction.block c.as_slice-in-Transaction.result.now
    c.in_ok-kept-in-Transaction.kept c.either_way-in-Transaction.result
    c.in-Transaction.is c.as_slice-in-Transaction.ensures c.in_ok-kept-in-Transaction.ensures.after c.either_way-in-Transaction.ensures

pub pass_statement-returns-in_ok-kept-in-Transaction-clause-warned : goal.pass_statement-returns-in_ok-kept-in-Transaction-clause-warned
pass_statement-returns-in_ok-kept-in-Transaction-clause-warned t c =
    transaction_warned c.args.mention c.args.statement.now c.args.known c.in-Transaction.field-0 c.in-Transaction.block c.args.warnings.now.items c.in-Transaction.is

pub pass_statement-returns-in-Word-clause-after : goal.pass_statement-returns-in-Word-clause-after
pass_statement-returns-in-Word-clause-after t c =
    word_after c.args.mention c.args.statement.now c.args.known c.in-Word.field-0 c.in-Word.word c.pass_word.result c.in-Word.is c.pass_word.ensures

pub pass_statement-returns-in-Word-clause-warned : goal.pass_statement-returns-in-Word-clause-warned
pass_statement-returns-in-Word-clause-warned t c =
    word_warned c.args.mention c.args.statement.now c.args.known c.in-Word.field-0 c.in-Word.word c.args.warnings.now.items c.in-Word.is
