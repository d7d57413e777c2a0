use Rattle.std.proofs.Common.{◌≡◌, ◌++◌, drop}
use Rattle.radpolicy_common.specs.Secrets.{lines_of, statements_of}
use Rattle.radpolicy_common.specs.internal.PolicyLines.{lines_behind}
use Rattle.radpolicy_common.proofs.secret_flows.lines_of.Given as goal

abbrev pub invariant-loop-policy : goal.invariant-loop-policy
invariant-loop-policy l =
    lines_behind l.lines.items ++ lines_of (statements_of (drop l.policy-index l.policies)) ≡ lines_of (statements_of l.policies)
