use Rattle.radpolicy_c.proofs.Told.{refused}
use Rattle.radpolicy_c.proofs.runs.run_with.Goals as goal

pub returns-in-Err : goal.returns-in-Err
returns-in-Err c = refused c.args.wanted _ _ c.args.asked.now c.in-Err.fault c.refusal.result.status c.refusal.result c.in-Err.ensures.refused c.refusal.ensures
