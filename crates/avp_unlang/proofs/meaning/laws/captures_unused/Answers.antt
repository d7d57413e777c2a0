use Rattle.avp_unlang.proofs.CaptureFree.{capture_free_meaning, evaluated_truth}
use Rattle.avp_unlang.proofs.meaning.laws.captures_unused.Goals as goal

pub returns-clause-truth : goal.returns-clause-truth
returns-clause-truth c = λ dictionary cond free s code captures. evaluated_truth dictionary s code cond free captures

pub returns-clause-meaning : goal.returns-clause-meaning
returns-clause-meaning c = capture_free_meaning
