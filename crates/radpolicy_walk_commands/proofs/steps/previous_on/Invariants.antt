use Rattle.std.proofs.Common.{◌≡◌, ◌≤◌}
use Rattle.radpolicy_walk_commands.specs.Steps.{is_on_one_of, previous_where}
use Rattle.radpolicy_walk_commands.proofs.steps.previous_on.Given as goal

abbrev pub invariant-loop-at : goal.invariant-loop-at
invariant-loop-at l = record {
  back : l.at ≤ l.from;
  same : previous_where (is_on_one_of l.lines) l.steps l.at ≡ previous_where (is_on_one_of l.lines) l.steps l.from;
}

abbrev pub decreases-loop-at : goal.decreases-loop-at
decreases-loop-at l = l.at
