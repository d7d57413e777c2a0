use Rattle.std.proofs.Common.{◌≡◌, ◌++◌, drop}
use Rattle.std.specs.List.{flat_map}
use Rattle.policy_warnings.specs.Passages.{asked_in, asked_in_branch}
use Rattle.policy_warnings.proofs.passages.+asking.Given as goal

abbrev pub invariant-push_asked_in_block-loop-statement : goal.invariant-push_asked_in_block-loop-statement
invariant-push_asked_in_block-loop-statement l =
    l.asked.items ++ flat_map asked_in (drop l.statement-index l.block) ≡ l.fn.asked.items ++ flat_map asked_in l.block

abbrev pub invariant-push_asked_in_branches-loop-branch : goal.invariant-push_asked_in_branches-loop-branch
invariant-push_asked_in_branches-loop-branch l =
    l.asked.items ++ flat_map asked_in_branch (drop l.branch-index l.branches) ≡ l.fn.asked.items ++ flat_map asked_in_branch l.branches
