use Rattle.std.proofs.Common.{◌+◌, ◌*◌}
use Rattle.radpolicy_import_policies.proofs.statements.Builder.+building.Given as goal

abbrev pub decreases-call : goal.decreases-call
decreases-call l = 5 * l.depth

abbrev pub decreases-section : goal.decreases-section
decreases-section l = 5 * l.depth

abbrev pub decreases-word : goal.decreases-word
decreases-word l = 5 * l.depth + 1

abbrev pub decreases-statement : goal.decreases-statement
decreases-statement l = 5 * l.depth + 2

abbrev pub decreases-block : goal.decreases-block
decreases-block l = 5 * l.depth + 3
