use Rattle.std.proofs.Common.{◌≡◌, length}
use Rattle.radpolicy_changing_lines.specs.Differences.{old_trace, with_changes}
use Rattle.radpolicy_changing_lines.proofs.differences.Runs.add_changes.Given as goal

abbrev pub invariant-loop-rest : goal.invariant-loop-rest
invariant-loop-rest g l = record {
  new : l.self.new_run.trace ≡ l.fn.self.new_run.trace;
  old : old_trace l.self.old_run ≡ old_trace l.fn.self.old_run;
  lines : with_changes l.fn.self.new_run.trace (old_trace l.fn.self.old_run) l.list l.rest l.lines.items
      ≡ with_changes l.fn.self.new_run.trace (old_trace l.fn.self.old_run) l.list l.ids l.fn.lines.items;
}

abbrev pub decreases-loop-rest : goal.decreases-loop-rest
decreases-loop-rest g l = length l.rest
