use Rattle.std.proofs.Common.{◌≡◌, length}
use Rattle.std.specs.List.{find}
use Rattle.avp_dict.specs.internal.Views.{views}
use Rattle.radpolicy_record_answers.specs.Records.{is_source, words_before}
use Rattle.radpolicy_record_answers.proofs.records.source_word.Given as goal

abbrev pub invariant-loop-rest : goal.invariant-loop-rest
invariant-loop-rest l = find is_source (words_before (views l.rest)) ≡ find is_source (words_before (views l.words))

abbrev pub decreases-loop-rest : goal.decreases-loop-rest
decreases-loop-rest l = length l.rest
