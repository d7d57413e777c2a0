use Rattle.std.proofs.Common.{◌≡◌, ◌+◌, drop}
use Rattle.std.specs.List.{position_or_len}
use Rattle.avp_lists.specs.Instances.{has_id}
use Rattle.avp_packet.specs.Sending.{message_authenticator_id}
use Rattle.avp_packet.proofs.encoding.dividing.signature_place.Given as goal

abbrev pub invariant-loop-place : goal.invariant-loop-place
invariant-loop-place l = position_or_len (has_id message_authenticator_id) l.list ≡ l.place + position_or_len (has_id message_authenticator_id) (drop l.place l.list)
