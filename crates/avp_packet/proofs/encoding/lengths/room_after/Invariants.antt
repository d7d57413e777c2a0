use Rattle.std.proofs.Common.{◌≡◌, ◌+◌, drop, length}
use Rattle.avp_packet.specs.internal.Filling.{kept_pairs}
use Rattle.avp_packet.specs.AttributeOctets.{attribute_octets}
use Rattle.avp_packet.proofs.encoding.lengths.room_after.Given as goal

abbrev pub invariant-loop-pair : goal.invariant-loop-pair
invariant-loop-pair l = l.rest + length (attribute_octets l.keys.dictionary.now l.keys.secret.now l.keys.authenticator.now (kept_pairs l.all l.list)) ≡ l.room + length (attribute_octets l.keys.dictionary.now l.keys.secret.now l.keys.authenticator.now (kept_pairs l.all (drop l.pair-index l.list)))
