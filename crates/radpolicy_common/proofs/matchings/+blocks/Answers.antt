use Rattle.std.proofs.Common.{refl}
use Rattle.radpolicy_common.proofs.MatchedAttributes.{branch_pushed, if_else_pushed, if_pushed}
use Rattle.radpolicy_common.proofs.PolicyLines.{on_ok}
use Rattle.radpolicy_common.proofs.matchings.+blocks.Goals as goal

pub push_branch-returns : goal.push_branch-returns
push_branch-returns t c =
    on_ok c.push_block.result _ _
    (λ h. branch_pushed c.args.branch.now c.args.branch.now.cond c.as_slice.result.now c.args.ids.now.items c.push_cond.new.ids.items c.push_block.new.ids.items refl c.as_slice.ensures c.in_ok-push_cond.ensures h) c.push_block.ensures

pub push_statement-returns-in-Some : goal.push_statement-returns-in-Some
push_statement-returns-in-Some t c =
    on_ok c.push_block.result _ _
    (λ h. if_else_pushed c.args.statement.now c.in-If.branches c.as_slice.result.now c.in-If.otherwise c.args.ids.now.items c.push_branches.new.ids.items
    c.in-Some.block c.as_slice-in-Some.result.now c.push_block.new.ids.items c.in-If.is c.in-Some.is c.as_slice.ensures c.in_ok-push_branches-in-If.ensures c.as_slice-in-Some.ensures h) c.push_block.ensures

pub push_statement-returns-in-None : goal.push_statement-returns-in-None
push_statement-returns-in-None t c =
    if_pushed c.args.statement.now c.in-If.branches c.as_slice.result.now c.in-If.otherwise c.args.ids.now.items c.push_branches.new.ids.items
    c.in-If.is c.in-None.is c.as_slice.ensures c.in_ok-push_branches-in-If.ensures
