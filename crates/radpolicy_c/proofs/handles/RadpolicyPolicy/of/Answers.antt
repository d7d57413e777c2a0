use denote.Param.Send.{sendable}
use Rattle.std.proofs.Crossing.{crosses}
use Rattle.radpolicy_c.proofs.Crosses.{shared_send}
use Rattle.radpolicy_c.proofs.handles.RadpolicyPolicy.of.Goals as goal

pub may_cross-requires-send-T : goal.may_cross-requires-send-T
may_cross-requires-send-T c κs = search (shared_send, crosses, sendable) depth 60 fits 20000
