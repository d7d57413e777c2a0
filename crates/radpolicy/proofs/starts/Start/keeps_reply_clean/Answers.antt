use Rattle.std.proofs.Common.{subst}
use Rattle.avp_unlang.specs.Cleanness.{KeepsReplyClean}
use Rattle.radpolicy.specs.Starts.{Start}
use Rattle.radpolicy.proofs.starts.Start.keeps_reply_clean.Goals as goal

pub returns : goal.returns
returns c = subst (λ (start : Start). KeepsReplyClean start.prepared.dictionary start.prepared.statements) c.self.view_is c.keeps_reply_clean.ensures
