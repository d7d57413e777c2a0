use Rattle.std.proofs.Common.{◌≡◌, ◌++◌, drop}
use Rattle.std.specs.List.{flat_map}
use Rattle.radpolicy_common.specs.Secrets.{matched_in_branch, matched_of}
use Rattle.radpolicy_common.proofs.matchings.+blocks.Given as goal

abbrev pub invariant-push_block-loop-statement : goal.invariant-push_block-loop-statement
invariant-push_block-loop-statement l = l.ids.items ++ matched_of (drop l.statement-index l.block) ≡ l.fn.ids.items ++ matched_of l.block

abbrev pub invariant-push_branches-loop-branch : goal.invariant-push_branches-loop-branch
invariant-push_branches-loop-branch l =
    l.ids.items ++ flat_map matched_in_branch (drop l.branch-index l.branches) ≡ l.fn.ids.items ++ flat_map matched_in_branch l.branches
