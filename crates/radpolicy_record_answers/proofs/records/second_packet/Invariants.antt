use Rattle.std.proofs.Common.{◌≡◌, length}
use Rattle.avp_dict.specs.internal.Views.{views}
use Rattle.radpolicy_record_answers.specs.Captured.{words_after}
use Rattle.radpolicy_record_answers.proofs.records.second_packet.Given as goal

abbrev pub invariant-loop-rest : goal.invariant-loop-rest
invariant-loop-rest l = words_after (views l.rest) ≡ words_after (views l.words)

abbrev pub decreases-loop-rest : goal.decreases-loop-rest
decreases-loop-rest l = length l.rest
