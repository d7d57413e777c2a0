use Rattle.std.proofs.Common.{◌≡◌, ◌++◌, drop}
use Rattle.std.specs.List.{flat_map}
use Rattle.policy_warnings.specs.Passages.{counted_of}
use Rattle.policy_warnings.proofs.passages.push_counted_of_each.Given as goal

abbrev pub invariant-loop-mention : goal.invariant-loop-mention
invariant-loop-mention l =
    l.warnings.items ++ flat_map (counted_of l.statements) (drop l.mention-index l.mentions)
    ≡ l.fn.warnings.items ++ flat_map (counted_of l.statements) l.mentions
