use Rattle.std.proofs.Common.{◌≡◌, ◌++◌, true, length}
use Rattle.radpolicy_replay_layouts.specs.TestLines.{comments}
use Rattle.radpolicy_replay_layouts.proofs.test_lines.push_comments.Given as goal

abbrev pub invariant-loop-rest : goal.invariant-loop-rest
invariant-loop-rest l =
    l.text.items ++ comments l.begins l.rest ≡ l.fn.text.items ++ comments true l.lines

abbrev pub decreases-loop-rest : goal.decreases-loop-rest
decreases-loop-rest l = length l.rest
