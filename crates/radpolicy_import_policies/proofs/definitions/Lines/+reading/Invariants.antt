use Rattle.std.proofs.Common.{◌+◌, ◌*◌}
use Rattle.radpolicy_import_policies.proofs.definitions.Lines.+reading.Given as goal

abbrev pub decreases-included : goal.decreases-included
decreases-included l = 3 * l.depth

abbrev pub decreases-line : goal.decreases-line
decreases-line l = 3 * l.depth + 1

abbrev pub decreases-text : goal.decreases-text
decreases-text l = 3 * l.depth + 2
