use Rattle.std.proofs.lemmas.Result.{IfOk-weaker}
use Rattle.radpolicy.proofs.command_line.titled.Goals as goal

pub returns : goal.returns
returns c = IfOk-weaker c.bin_name.result _ _ (λ r h. rw h.0 c.new.ensures.app) c.bin_name.ensures
