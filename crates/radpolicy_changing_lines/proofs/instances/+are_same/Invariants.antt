use Rattle.std.proofs.Common.{length}
use Rattle.radpolicy_changing_lines.proofs.instances.+are_same.Given as goal

abbrev pub decreases-are_same : goal.decreases-are_same
decreases-are_same l = length l.before.now
