use Rattle.std.proofs.Common.{refl, ◌∙◌, take}
use Rattle.policy_warnings.proofs.Blocks.{on_ok}
use Rattle.policy_warnings.proofs.Repeating.{any_link, branch_repeats_pushed, else_repeats_pushed, if_repeats_pushed, transaction_repeats_pushed, update_repeats, word_repeats}
use Rattle.policy_warnings.proofs.repeats.+repeating.Goals as goal

pub push_repeats_in-returns-in-Some : goal.push_repeats_in-returns-in-Some
push_repeats_in-returns-in-Some t c =
    on_ok c.push_repeats_in_block.result _ _
    (λ h. else_repeats_pushed c.args.statement.now c.in-If.branches c.as_slice.result.now c.in-If.otherwise c.args.warnings.now.items c.push_repeats_in_branches.new.warnings.items
    c.in-Some.block c.as_slice-in-Some.result.now c.push_repeats_in_block.new.warnings.items c.in-If.is c.in-Some.is c.as_slice.ensures c.in_ok-push_repeats_in_branches-in-If.ensures c.as_slice-in-Some.ensures h) c.push_repeats_in_block.ensures

pub push_repeats_in-returns-in-None : goal.push_repeats_in-returns-in-None
push_repeats_in-returns-in-None t c =
    if_repeats_pushed c.args.statement.now c.in-If.branches c.as_slice.result.now c.in-If.otherwise c.args.warnings.now.items c.push_repeats_in_branches.new.warnings.items
    c.in-If.is c.in-None.is c.as_slice.ensures c.in_ok-push_repeats_in_branches-in-If.ensures

pub push_repeats_in-returns-in-Transaction : goal.push_repeats_in-returns-in-Transaction
push_repeats_in-returns-in-Transaction t c =
    on_ok c.push_repeats_in_block-in-Transaction.result _ _
    (λ h. transaction_repeats_pushed c.args.statement.now c.in-Transaction.field-0 c.in-Transaction.block c.as_slice-in-Transaction.result.now c.args.warnings.now.items
    c.push_repeats_in_block-in-Transaction.new.warnings.items c.in-Transaction.is c.as_slice-in-Transaction.ensures h) c.push_repeats_in_block-in-Transaction.ensures

pub push_repeats_in-returns-in-Word : goal.push_repeats_in-returns-in-Word
push_repeats_in-returns-in-Word t c = word_repeats c.args.statement.now c.in-Word.field-0 c.in-Word.field-1 c.args.warnings.now.items c.in-Word.is

pub push_repeats_in-returns-in-Update : goal.push_repeats_in-returns-in-Update
push_repeats_in-returns-in-Update t c = update_repeats c.args.statement.now c.in-Update.field-0 c.in-Update.field-1 c.args.warnings.now.items c.in-Update.is

pub push_repeats_in_branches-loop-at-preserved : goal.push_repeats_in_branches-loop-at-preserved
push_repeats_in_branches-loop-at-preserved t c =
    branch_repeats_pushed c.args.branches.now c.loop-at.at c.index-branches-at.result c.loop-at-test.true c.index-branches-at.is
    (take c.loop-at.at c.args.branches.now) c.as_slice.result.now c.is_repeated-repeated.result c.loop-at.warnings.items c.push_if.new.warnings.items
    c.push_repeats_in_block.new.warnings.items _ refl (c.is_repeated-repeated.ensures ∙ any_link _ _) c.in_ok-push_if.ensures c.as_slice.ensures c.in_ok-push_repeats_in_block.ensures c.loop-at.invariant
