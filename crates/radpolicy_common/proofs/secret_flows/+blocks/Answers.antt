use Rattle.radpolicy_common.specs.internal.PolicyLines.{lines_behind}
use Rattle.radpolicy_common.proofs.PolicyLines.{branch_pushed, if_else_pushed, if_pushed, on_ok, transaction_pushed, update_pushed, word_pushed}
use Rattle.radpolicy_common.proofs.secret_flows.+blocks.Goals as goal

pub push_branch-returns : goal.push_branch-returns
push_branch-returns t c =
    on_ok c.push_block.result _ _
    (λ h. branch_pushed c.args.branch.now (lines_behind c.args.lines.now.items) (lines_behind c.push_block.new.lines.items) c.as_slice.result.now c.as_slice.ensures h) c.push_block.ensures

pub push_statement-returns-in-Update : goal.push_statement-returns-in-Update
push_statement-returns-in-Update t c =
    on_ok c.push_lines.result _ _
    (λ h. update_pushed c.args.statement.now c.in-Update.field-0 c.in-Update.own c.as_slice.result.now (lines_behind c.args.lines.now.items) (lines_behind c.push_lines.new.lines.items)
    c.in-Update.is c.as_slice.ensures h) c.push_lines.ensures

pub push_statement-returns-in-Some : goal.push_statement-returns-in-Some
push_statement-returns-in-Some t c =
    on_ok c.push_block.result _ _
    (λ h. if_else_pushed c.args.statement.now c.in-If.branches c.as_slice-in-If.result.now c.in-If.otherwise (lines_behind c.args.lines.now.items) (lines_behind c.push_branches.new.lines.items)
    c.in-Some.block c.as_slice-in-Some.result.now (lines_behind c.push_block.new.lines.items) c.in-If.is c.in-Some.is c.as_slice-in-If.ensures c.in_ok-push_branches-in-If.ensures c.as_slice-in-Some.ensures h) c.push_block.ensures

pub push_statement-returns-in-None : goal.push_statement-returns-in-None
push_statement-returns-in-None t c =
    if_pushed c.args.statement.now c.in-If.branches c.as_slice-in-If.result.now c.in-If.otherwise (lines_behind c.args.lines.now.items) (lines_behind c.push_branches.new.lines.items)
    c.in-If.is c.in-None.is c.as_slice-in-If.ensures c.in_ok-push_branches-in-If.ensures

pub push_statement-returns-in-Transaction : goal.push_statement-returns-in-Transaction
push_statement-returns-in-Transaction t c =
    on_ok c.push_block-in-Transaction.result _ _
    (λ h. transaction_pushed c.args.statement.now c.in-Transaction.field-0 c.in-Transaction.block c.as_slice-in-Transaction.result.now (lines_behind c.args.lines.now.items)
    (lines_behind c.push_block-in-Transaction.new.lines.items) c.in-Transaction.is c.as_slice-in-Transaction.ensures h) c.push_block-in-Transaction.ensures

pub push_statement-returns-in-Word : goal.push_statement-returns-in-Word
push_statement-returns-in-Word t c = word_pushed c.args.statement.now c.in-Word.field-0 c.in-Word.field-1 (lines_behind c.args.lines.now.items) c.in-Word.is
