use Rattle.policy_warnings.proofs.Passing.{asked_branch_pushed, asked_if_else_pushed, asked_if_pushed, asked_transaction_pushed, asked_update_pushed, asked_word_pushed}
use Rattle.policy_warnings.proofs.Blocks.{on_ok}
use Rattle.policy_warnings.proofs.passages.+asking.Goals as goal

pub push_asked_in-returns-in-Update : goal.push_asked_in-returns-in-Update
push_asked_in-returns-in-Update t c =
    on_ok c.push_asked_by_lines.result _ _
    (λ h. asked_update_pushed c.args.statement.now c.in-Update.field-0 c.in-Update.lines c.as_slice.result.now c.args.asked.now.items c.push_asked_by_lines.new.asked.items
    c.in-Update.is c.as_slice.ensures h) c.push_asked_by_lines.ensures

pub push_asked_in-returns-in-Some : goal.push_asked_in-returns-in-Some
push_asked_in-returns-in-Some t c =
    on_ok c.push_asked_in_block.result _ _
    (λ h. asked_if_else_pushed c.args.statement.now c.in-If.branches c.as_slice-in-If.result.now c.in-If.otherwise c.args.asked.now.items c.push_asked_in_branches.new.asked.items
    c.in-Some.block c.as_slice-in-Some.result.now c.push_asked_in_block.new.asked.items c.in-If.is c.in-Some.is c.as_slice-in-If.ensures c.in_ok-push_asked_in_branches-in-If.ensures c.as_slice-in-Some.ensures h) c.push_asked_in_block.ensures

pub push_asked_in-returns-in-None : goal.push_asked_in-returns-in-None
push_asked_in-returns-in-None t c =
    asked_if_pushed c.args.statement.now c.in-If.branches c.as_slice-in-If.result.now c.in-If.otherwise c.args.asked.now.items c.push_asked_in_branches.new.asked.items
    c.in-If.is c.in-None.is c.as_slice-in-If.ensures c.in_ok-push_asked_in_branches-in-If.ensures

pub push_asked_in-returns-in-Transaction : goal.push_asked_in-returns-in-Transaction
push_asked_in-returns-in-Transaction t c =
    on_ok c.push_asked_in_block-in-Transaction.result _ _
    (λ h. asked_transaction_pushed c.args.statement.now c.in-Transaction.field-0 c.in-Transaction.block c.as_slice-in-Transaction.result.now c.args.asked.now.items
    c.push_asked_in_block-in-Transaction.new.asked.items c.in-Transaction.is c.as_slice-in-Transaction.ensures h) c.push_asked_in_block-in-Transaction.ensures

pub push_asked_in-returns-in-Word : goal.push_asked_in-returns-in-Word
push_asked_in-returns-in-Word t c = asked_word_pushed c.args.statement.now c.in-Word.field-0 c.in-Word.field-1 c.args.asked.now.items c.in-Word.is

pub push_asked_in_branch-returns : goal.push_asked_in_branch-returns
push_asked_in_branch-returns t c =
    on_ok c.push_asked_in_block.result _ _
    (λ h. asked_branch_pushed c.args.branch.now c.as_slice.result.now c.args.asked.now.items c.push_asked_in_block.new.asked.items c.as_slice.ensures h) c.push_asked_in_block.ensures
