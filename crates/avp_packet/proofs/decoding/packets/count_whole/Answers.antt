use Rattle.std.proofs.Common.{◌≡◌, ◌∙◌, ◌<◌, ◌-◌, ◌+◌, true, false, nat_lt, length, take, drop, ap, arith}
use Rattle.std.proofs.lemmas.Grind.{common_steps}
use Rattle.avp_packet.specs.Packets.{attributes_of, is_packet_length, length_of}
use Rattle.avp_packet.specs.Splitting.{left}
use Rattle.avp_packet.proofs.RefusedPackets.{broken_bad}
use Rattle.avp_packet.proofs.decoding.packets.count_whole.Goals as goal

pub returns-in-Err-clause-broken : goal.returns-in-Err-clause-broken
returns-in-Err-clause-broken c = λ read.
    let os = c.args.octets.now in
    let long : nat_lt (length os) 20 ≡ false = grind (arith, common_steps) in
    let ranged : is_packet_length (length_of os) ≡ true = cc (c.is_packet_length.ensures, c.if-not-is_packet_length.false, c.length_of-length.ensures) in
    let same : c.length_of-length.result ≡ length_of os = c.length_of-length.ensures in
    let here : length_of os < length os + 1 = omega arith in
    let whole : nat_lt (length os) (length_of os) ≡ false = grind (arith, common_steps) in
    let attributes : c.attributes_in.result.now ≡ attributes_of os = c.attributes_in.ensures ∙ ap (λ n. drop 20 (take n os)) same in
    let some : 0 < length (left (attributes_of os)) = rw attributes at c.in-Err.ensures.some in
    let bad : c.in-Err.bad.offset ≡ length (attributes_of os) - length (left (attributes_of os)) = rw attributes at c.in-Err.ensures.bad in
    broken_bad os c.in-Err.bad.offset read long ranged whole some bad
