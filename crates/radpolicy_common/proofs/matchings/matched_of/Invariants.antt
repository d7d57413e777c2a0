use Rattle.std.proofs.Common.{◌≡◌, ◌++◌, drop}
use Rattle.radpolicy_common.specs.Secrets.{matched_of, statements_of}
use Rattle.radpolicy_common.proofs.matchings.matched_of.Given as goal

abbrev pub invariant-loop-policy : goal.invariant-loop-policy
invariant-loop-policy l =
    l.ids.items ++ matched_of (statements_of (drop l.policy-index l.policies)) ≡ matched_of (statements_of l.policies)
