use Rattle.std.proofs.Common.{subst}
use Rattle.radpolicy.specs.Faults.{MemoryOr}
use Rattle.radpolicy.specs.StartRefusals.{AreUnreadReplyLines}
use Rattle.radpolicy.specs.Starts.{Start}
use Rattle.radpolicy.proofs.RefusedLines.{reply_lines}
use Rattle.radpolicy.proofs.starts.Start.with_reply_lines.Goals as goal

pub returns-clause-refused : goal.returns-clause-refused
returns-clause-refused c =
    subst (λ (start : Start). MemoryOr (AreUnreadReplyLines c.args.profile c.args.zone start.prepared.dictionary c.args.text.now) c.fault_of_reply_line.result) c.self.view_is
    (rw c.fault_of_reply_line.ensures (reply_lines c.args.profile c.args.zone c.self.inside.dictionary.now c.args.text.now c.in-Err.fault c.in-Err.ensures.refused))
