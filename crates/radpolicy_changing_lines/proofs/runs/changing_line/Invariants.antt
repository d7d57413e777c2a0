use Rattle.std.proofs.Common.{◌≡◌, ◌+◌, take}
use Rattle.avp_step.specs.Walk.{IsWithin, entry}
use Rattle.radpolicy_changing_lines.specs.ChangingLines.{changing_line, instances_in}
use Rattle.radpolicy_changing_lines.proofs.runs.changing_line.Given as goal

abbrev pub invariant-steps : goal.invariant-steps
invariant-steps g l = record {
  trace : l.run.trace ≡ l.initial.run.trace;
  within : IsWithin l.run;
  after : l.after ≡ instances_in l.list l.id (entry l.run);
  told : changing_line l.list l.id (take (l.run.position + 1) l.initial.run.trace) ≡ changing_line l.list l.id l.initial.run.trace;
}

abbrev pub decreases-steps : goal.decreases-steps
decreases-steps g l = l.run.position
