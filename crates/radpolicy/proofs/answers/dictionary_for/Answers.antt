use Rattle.radpolicy.proofs.DistinctFiles.{distinct_files}
use Rattle.radpolicy.proofs.answers.dictionary_for.Goals as goal

pub read-requires-clause-names : goal.read-requires-clause-names
read-requires-clause-names c = distinct_files c.args.job.now.files c.requires.sound.distinct
