use Rattle.std.proofs.Common.{◌≡◌, ◌++◌, drop}
use Rattle.std.specs.List.{flat_map}
use Rattle.policy_warnings.specs.Warnings.{warnings_in_branch, warnings_of}
use Rattle.policy_warnings.proofs.warnings.+blocks.Given as goal

abbrev pub invariant-push_block-loop-statement : goal.invariant-push_block-loop-statement
invariant-push_block-loop-statement l = l.warnings.items ++ warnings_of (drop l.statement-index l.block) ≡ l.fn.warnings.items ++ warnings_of l.block

abbrev pub invariant-push_branches-loop-branch : goal.invariant-push_branches-loop-branch
invariant-push_branches-loop-branch l =
    l.warnings.items ++ flat_map warnings_in_branch (drop l.branch-index l.branches) ≡ l.fn.warnings.items ++ flat_map warnings_in_branch l.branches
