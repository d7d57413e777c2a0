use Rattle.std.proofs.Common.{rules, ◌≡◌, ◌∙◌, ◌+◌, ◌<◌, ℕ, List, [], Err, length, refl, sym, ap, subst, arith}
use Rattle.std.proofs.lemmas.List.{length-append}
use Rattle.avp_packet.specs.declared.faults.EncodeFault.TheVariants.{TooLong}
use Rattle.avp_packet.specs.Hmac.{hmac}
use Rattle.avp_packet.specs.Packets.{max_packet_octets, packet, zeros}
use Rattle.avp_packet.specs.internal.Filling.{divided_octets, filled}
use Rattle.avp_packet.proofs.Assembled.{length-packet}
use Rattle.avp_packet.proofs.Filled.{filled_packet, length-filled, length-hmac, place_within, written_whole}
use Rattle.avp_packet.proofs.encoding.packets.write_packet.Goals as goal

pub write_attributes-requires-clause-short : goal.write_attributes-requires-clause-short
write_attributes-requires-clause-short c = omega (arith, c.in_ok-octets.ensures.length)

pub returns-in_err-place-clause-too_long : goal.returns-in_err-place-clause-too_long
returns-in_err-place-clause-too_long c = λ err.
    let refused : c.write_attributes.result ≡ Err TooLong = search rules in
    let more = c.in_err-place.ensures.too_long (sym c.in_err-place.was ∙ refused) in
    let laid = λ (hide_by : List ℕ). divided_octets c.args.keys.now.dictionary.now c.args.keys.now.secret.now hide_by c.args.division.now c.args.proxy_states.now zeros in
    subst (λ (hide_by : List ℕ). max_packet_octets < 20 + length (laid hide_by)) c.hiding_authenticator.ensures (omega (arith, more, c.in_ok-octets.ensures.length))

pub fill_length-requires-clause-head : goal.fill_length-requires-clause-head
fill_length-requires-clause-head c =
    let laid : List ℕ = divided_octets c.args.keys.now.dictionary.now c.args.keys.now.secret.now c.hiding_authenticator.result c.args.division.now c.args.proxy_states.now zeros in
    omega (arith, ap length c.in_ok-place.ensures.blank, length-append c.in_ok-octets.octets.items laid, c.in_ok-octets.ensures.length)

pub sign-requires-clause-place : goal.sign-requires-clause-place
sign-requires-clause-place c =
    let a = c.args.keys.now.authenticator.now in
    let laid = divided_octets c.args.keys.now.dictionary.now c.args.keys.now.secret.now c.hiding_authenticator.result c.args.division.now c.args.proxy_states.now in
    let long : length a ≡ 16 = omega (arith, ap length c.in_ok-octets.ensures.head, c.in_ok-octets.ensures.length, length-append a []) in
    let written = written_whole c.args.code c.args.id a c.in_ok-octets.octets.items c.write_attributes.new.octets.items laid c.in_ok-place.place long c.in_ok-octets.ensures.head c.in_ok-place.ensures.blank c.in_ok-place.ensures.filled c.in_ok-place.ensures.place in
    place_within c.args.code c.args.id a c.in_ok-octets.octets.items c.write_attributes.new.octets.items laid c.in_ok-place.place long c.in_ok-octets.ensures.head c.in_ok-place.ensures.blank c.in_ok-place.ensures.filled c.in_ok-place.ensures.place
    c.fill_length.new.octets.items (c.fill_length.ensures c.args.code c.args.id a (laid zeros) long written)

pub sign-requires-clause-blank : goal.sign-requires-clause-blank
sign-requires-clause-blank c =
    let a = c.args.keys.now.authenticator.now in
    let laid = divided_octets c.args.keys.now.dictionary.now c.args.keys.now.secret.now c.hiding_authenticator.result c.args.division.now c.args.proxy_states.now in
    let long : length a ≡ 16 = omega (arith, ap length c.in_ok-octets.ensures.head, c.in_ok-octets.ensures.length, length-append a []) in
    let written = written_whole c.args.code c.args.id a c.in_ok-octets.octets.items c.write_attributes.new.octets.items laid c.in_ok-place.place long c.in_ok-octets.ensures.head c.in_ok-place.ensures.blank c.in_ok-place.ensures.filled c.in_ok-place.ensures.place in
    let whole = c.fill_length.ensures c.args.code c.args.id a (laid zeros) long written in
    ap (λ (os : List ℕ). filled os c.in_ok-place.place zeros) whole
    ∙ filled_packet c.args.code c.args.id a c.in_ok-octets.octets.items c.write_attributes.new.octets.items laid c.in_ok-place.place long c.in_ok-octets.ensures.head c.in_ok-place.ensures.blank c.in_ok-place.ensures.filled c.in_ok-place.ensures.place zeros refl
    ∙ sym whole

pub returns-clause-octets : goal.returns-clause-octets
returns-clause-octets c =
    let a = c.args.keys.now.authenticator.now in
    let secret = c.args.keys.now.secret.now in
    let by = λ (hide_by : List ℕ). divided_octets c.args.keys.now.dictionary.now secret hide_by c.args.division.now c.args.proxy_states.now in
    let laid = by c.hiding_authenticator.result in
    let signed = λ (octets : List ℕ → List ℕ). packet c.args.code c.args.id a (octets (hmac secret (packet c.args.code c.args.id a (octets zeros)))) in
    let signature = hmac secret (packet c.args.code c.args.id a (laid zeros)) in
    let long : length a ≡ 16 = omega (arith, ap length c.in_ok-octets.ensures.head, c.in_ok-octets.ensures.length, length-append a []) in
    let written = written_whole c.args.code c.args.id a c.in_ok-octets.octets.items c.write_attributes.new.octets.items laid c.in_ok-place.place long c.in_ok-octets.ensures.head c.in_ok-place.ensures.blank c.in_ok-place.ensures.filled c.in_ok-place.ensures.place in
    let whole = c.fill_length.ensures c.args.code c.args.id a (laid zeros) long written in
    c.sign.ensures ∙ ap (λ (os : List ℕ). filled os c.in_ok-place.place (hmac secret os)) whole
    ∙ filled_packet c.args.code c.args.id a c.in_ok-octets.octets.items c.write_attributes.new.octets.items laid c.in_ok-place.place long c.in_ok-octets.ensures.head c.in_ok-place.ensures.blank c.in_ok-place.ensures.filled c.in_ok-place.ensures.place signature (length-hmac secret _)
    ∙ ap (λ (hide_by : List ℕ). signed (by hide_by)) c.hiding_authenticator.ensures

pub returns-clause-short : goal.returns-clause-short
returns-clause-short c =
    let a = c.args.keys.now.authenticator.now in
    let secret = c.args.keys.now.secret.now in
    let laid = divided_octets c.args.keys.now.dictionary.now secret c.hiding_authenticator.result c.args.division.now c.args.proxy_states.now in
    let long : length a ≡ 16 = omega (arith, ap length c.in_ok-octets.ensures.head, c.in_ok-octets.ensures.length, length-append a []) in
    let written = written_whole c.args.code c.args.id a c.in_ok-octets.octets.items c.write_attributes.new.octets.items laid c.in_ok-place.place long c.in_ok-octets.ensures.head c.in_ok-place.ensures.blank c.in_ok-place.ensures.filled c.in_ok-place.ensures.place in
    let whole = c.fill_length.ensures c.args.code c.args.id a (laid zeros) long written in
    let there = place_within c.args.code c.args.id a c.in_ok-octets.octets.items c.write_attributes.new.octets.items laid c.in_ok-place.place long c.in_ok-octets.ensures.head c.in_ok-place.ensures.blank c.in_ok-place.ensures.filled c.in_ok-place.ensures.place c.fill_length.new.octets.items whole in
    let kept = ap length c.sign.ensures ∙ length-filled c.fill_length.new.octets.items c.in_ok-place.place (hmac secret c.fill_length.new.octets.items) there (length-hmac secret _) in
    let same = ap length whole ∙ length-packet c.args.code c.args.id a (laid zeros) long in
    let size = ap length written in
    let both = length-append a (laid zeros) in
    omega (arith, kept, same, size, both, long, c.in_ok-place.ensures.short)
