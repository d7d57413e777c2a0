use Rattle.std.proofs.Common.{◌≡◌, filter, take}
use Rattle.avp_lists.specs.Instances.{is_other}
use Rattle.avp_packet.specs.Sending.{message_authenticator_id}
use Rattle.radpolicy_record_answers.proofs.unmade_replies.without_signatures.Given as goal

abbrev pub invariant-loop-pair : goal.invariant-loop-pair
invariant-loop-pair l = l.kept.items ≡ filter (is_other message_authenticator_id) (take l.pair-index l.pairs)
