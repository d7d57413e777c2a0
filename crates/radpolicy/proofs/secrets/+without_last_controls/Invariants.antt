use Rattle.std.proofs.Common.{length}
use Rattle.radpolicy.proofs.secrets.+without_last_controls.Given as goal

abbrev pub decreases-without_last_controls : goal.decreases-without_last_controls
decreases-without_last_controls l = length l.octets.now
