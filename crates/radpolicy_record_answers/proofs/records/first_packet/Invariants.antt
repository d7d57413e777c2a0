use Rattle.std.proofs.Common.{◌≡◌, length}
use Rattle.std.specs.List.{find}
use Rattle.avp_dict.specs.internal.Views.{views}
use Rattle.radpolicy_record_answers.specs.Records.{is_packet_word}
use Rattle.radpolicy_record_answers.proofs.records.first_packet.Given as goal

abbrev pub invariant-loop-rest : goal.invariant-loop-rest
invariant-loop-rest l = find is_packet_word (views l.rest) ≡ find is_packet_word (views l.words)

abbrev pub decreases-loop-rest : goal.decreases-loop-rest
decreases-loop-rest l = length l.rest
