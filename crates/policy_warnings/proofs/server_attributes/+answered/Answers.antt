use Rattle.policy_warnings.proofs.AnsweredBlocks.{branch_pushed, if_else_pushed, if_pushed, word_pushed}
use Rattle.policy_warnings.proofs.Blocks.{on_ok}
use Rattle.policy_warnings.proofs.server_attributes.+answered.Goals as goal

pub push_branch-returns : goal.push_branch-returns
push_branch-returns t c =
    on_ok c.push_block.result _ _
    (λ h. branch_pushed c.args.dictionary.now c.args.branch.now c.args.warnings.now.items c.push_cond.new.warnings.items c.push_block.new.warnings.items
    c.as_slice.result.now c.in_ok-push_cond.ensures c.as_slice.ensures h) c.push_block.ensures

pub push_statement-returns-in-Some : goal.push_statement-returns-in-Some
push_statement-returns-in-Some t c =
    on_ok c.push_block.result _ _
    (λ h. if_else_pushed c.args.dictionary.now c.args.statement.now c.in-If.branches c.as_slice-in-If.result.now c.in-If.otherwise c.args.warnings.now.items c.push_branches.new.warnings.items
    c.in-Some.block c.as_slice-in-Some.result.now c.push_block.new.warnings.items c.in-If.is c.in-Some.is c.as_slice-in-If.ensures c.in_ok-push_branches-in-If.ensures c.as_slice-in-Some.ensures h) c.push_block.ensures

pub push_statement-returns-in-None : goal.push_statement-returns-in-None
push_statement-returns-in-None t c =
    if_pushed c.args.dictionary.now c.args.statement.now c.in-If.branches c.as_slice-in-If.result.now c.in-If.otherwise c.args.warnings.now.items c.push_branches.new.warnings.items
    c.in-If.is c.in-None.is c.as_slice-in-If.ensures c.in_ok-push_branches-in-If.ensures

pub push_statement-returns-in-Word : goal.push_statement-returns-in-Word
push_statement-returns-in-Word t c = word_pushed c.args.dictionary.now c.args.statement.now c.in-Word.field-0 c.in-Word.field-1 c.args.warnings.now.items c.in-Word.is
