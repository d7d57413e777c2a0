use Rattle.std.proofs.Common.{◌≡◌, ◌++◌, drop}
use Rattle.std.specs.List.{flat_map}
use Rattle.policy_warnings.specs.ServerAttributes.{answered_in_branch, answered_warnings}
use Rattle.policy_warnings.proofs.server_attributes.+answered.Given as goal

abbrev pub invariant-push_block-loop-statement : goal.invariant-push_block-loop-statement
invariant-push_block-loop-statement l =
    l.warnings.items ++ answered_warnings l.dictionary (drop l.statement-index l.block) ≡ l.fn.warnings.items ++ answered_warnings l.dictionary l.block

abbrev pub invariant-push_branches-loop-branch : goal.invariant-push_branches-loop-branch
invariant-push_branches-loop-branch l =
    l.warnings.items ++ flat_map (answered_in_branch l.dictionary) (drop l.branch-index l.branches) ≡ l.fn.warnings.items ++ flat_map (answered_in_branch l.dictionary) l.branches
