use Rattle.std.proofs.Common.{◌≡◌, ◌∙◌, ◌+◌, List, length, sym, ap}
use Rattle.std.proofs.lemmas.List.{length-append}
use Rattle.avp_lists.specs.declared.pairs.Pair.{Pair}
use Rattle.avp_packet.specs.AttributeOctets.{attribute_octets}
use Rattle.avp_packet.specs.Sending.{without_signatures}
use Rattle.avp_packet.proofs.Filled.{filled_after}
use Rattle.avp_packet.proofs.encoding.pairs.write_attributes.Goals as goal

pub returns-clause-filled : goal.returns-clause-filled
returns-clause-filled c = λ before signature e.
    let octets = λ (pairs : List Pair). attribute_octets c.args.keys.now.dictionary.now c.args.keys.now.secret.now c.args.keys.now.authenticator.now pairs in
    let first = octets c.args.division.now.before.now in
    let long : length c.push_list.new.octets.items ≡ length before + length first =
    ap length c.in_ok-push_list.ensures.ok ∙ length-append c.args.octets.now.items first ∙ ap (λ n. n + length first) (sym e) in
    rw c.in_ok-place.ensures.place
    (filled_after before first (octets (without_signatures c.args.division.now.after.now)) (octets c.args.proxy_states.now) signature c.args.division.now.signed (length c.push_list.new.octets.items) long)
