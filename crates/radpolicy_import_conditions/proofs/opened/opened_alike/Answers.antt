use Rattle.radpolicy_import_conditions.proofs.Opening.{opened_alike}
use Rattle.radpolicy_import_conditions.proofs.opened.opened_alike.Goals as goal

pub returns : goal.returns
returns c = λ dictionary cond s code captures. opened_alike dictionary s code cond captures
