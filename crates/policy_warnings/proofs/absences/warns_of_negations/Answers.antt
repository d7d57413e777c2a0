use Rattle.policy_warnings.proofs.Negations.{differ, matching_differ, texts_differ}
use Rattle.policy_warnings.proofs.absences.warns_of_negations.Goals as goal

pub returns-clause-differ : goal.returns-clause-differ
returns-clause-differ c = differ

pub returns-clause-matchings_differ : goal.returns-clause-matchings_differ
returns-clause-matchings_differ c = matching_differ

pub returns-clause-texts_differ : goal.returns-clause-texts_differ
returns-clause-texts_differ c = texts_differ
