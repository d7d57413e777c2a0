use Rattle.std.proofs.Common.{◌≡◌, [], drop}
use Rattle.policy_warnings.specs.Passages.{with_mentions}
use Rattle.policy_warnings.proofs.passages.with_mentions.Given as goal

abbrev pub invariant-loop-mention : goal.invariant-loop-mention
invariant-loop-mention l = with_mentions l.mentions.items (drop l.mention-index l.asked) ≡ with_mentions [] l.asked
