use Rattle.std.proofs.Common.{length}
use Rattle.radpolicy_import_texts.proofs.comments.carried_policy.Given as goal

abbrev pub decreases-loop-found : goal.decreases-loop-found
decreases-loop-found l = length l.found.start.now
