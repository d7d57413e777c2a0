use Rattle.std.proofs.Common.{◌≡◌, length}
use Rattle.avp_dict.specs.internal.Views.{views}
use Rattle.radpolicy_record_answers.specs.Records.{name_word}
use Rattle.radpolicy_record_answers.proofs.records.name_word.Given as goal

abbrev pub invariant-loop-rest : goal.invariant-loop-rest
invariant-loop-rest l = name_word (views l.rest) ≡ name_word (views l.words)

abbrev pub decreases-loop-rest : goal.decreases-loop-rest
decreases-loop-rest l = length l.rest
