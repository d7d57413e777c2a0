use Rattle.std.proofs.Common.{◌≡◌, length}
use Rattle.radpolicy_record_answers.specs.Records.{has_double_colon}
use Rattle.radpolicy_record_answers.proofs.records.has_double_colon.Given as goal

abbrev pub invariant-loop-rest : goal.invariant-loop-rest
invariant-loop-rest l = has_double_colon l.rest ≡ has_double_colon l.word

abbrev pub decreases-loop-rest : goal.decreases-loop-rest
decreases-loop-rest l = length l.rest
