use Rattle.radpolicy.proofs.Refusals.{policy_refused}
use Rattle.radpolicy.proofs.prepared.PreparedPolicy.read.Goals as goal

pub returns-in-Err-clause-refused : goal.returns-in-Err-clause-refused
returns-in-Err-clause-refused c =
    rw c.from.ensures (policy_refused c.args.dictionary.now c.args.text.now c.in-Err.fault (record {
      refused = c.in-Err.ensures.read;
      first = c.in-Err.ensures.refused;
      within = c.in-Err.ensures.within;
      token = c.in-Err.ensures.token;
      line = c.in-Err.ensures.line;
    }))
