use Rattle.std.proofs.Common.{◌≡◌, ◌++◌, length}
use Rattle.radpolicy_help.specs.OneLine.{sentences}
use Rattle.radpolicy_help.proofs.one_line.sentences.Given as goal

abbrev pub invariant-loop-line : goal.invariant-loop-line
invariant-loop-line l = l.text.items ++ sentences l.rest ≡ sentences l.help

abbrev pub decreases-loop-line : goal.decreases-loop-line
decreases-loop-line l = length l.rest
