use Rattle.std.proofs.Common.{subst}
use Rattle.radpolicy.specs.Faults.{MemoryOr}
use Rattle.radpolicy.specs.StartRefusals.{AreUnreadControlLines}
use Rattle.radpolicy.specs.Starts.{Start}
use Rattle.radpolicy.proofs.RefusedLines.{control_lines}
use Rattle.radpolicy.proofs.starts.Start.with_control_lines.Goals as goal

pub returns-clause-refused : goal.returns-clause-refused
returns-clause-refused c =
    subst (λ (start : Start). MemoryOr (AreUnreadControlLines c.args.profile c.args.zone start.prepared.dictionary c.args.text.now) c.fault_of_control_line.result) c.self.view_is
    (rw c.fault_of_control_line.ensures (control_lines c.args.profile c.args.zone c.self.inside.dictionary.now c.args.text.now c.in-Err.fault c.in-Err.ensures.refused))
