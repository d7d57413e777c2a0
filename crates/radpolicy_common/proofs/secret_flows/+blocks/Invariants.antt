use Rattle.std.proofs.Common.{◌≡◌, ◌++◌, drop}
use Rattle.std.specs.List.{flat_map}
use Rattle.radpolicy_common.specs.internal.PolicyLines.{lines_behind}
use Rattle.radpolicy_common.specs.Secrets.{lines_in_branch, lines_of}
use Rattle.radpolicy_common.proofs.secret_flows.+blocks.Given as goal

abbrev pub invariant-push_block-loop-statement : goal.invariant-push_block-loop-statement
invariant-push_block-loop-statement l = lines_behind l.lines.items ++ lines_of (drop l.statement-index l.block) ≡ lines_behind l.fn.lines.items ++ lines_of l.block

abbrev pub invariant-push_branches-loop-branch : goal.invariant-push_branches-loop-branch
invariant-push_branches-loop-branch l =
    lines_behind l.lines.items ++ flat_map lines_in_branch (drop l.branch-index l.branches) ≡ lines_behind l.fn.lines.items ++ flat_map lines_in_branch l.branches
