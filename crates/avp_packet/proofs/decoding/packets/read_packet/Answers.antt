use Rattle.std.proofs.Common.{◌∙◌, ℕ, List, ap, length, take, arith}
use Rattle.std.proofs.lemmas.List.{length-drop, length-take}
use Rattle.avp_packet.proofs.PairCounts.{few_pairs}
use Rattle.avp_packet.proofs.decoding.packets.read_packet.Goals as goal

-- the attributes mean no more pairs than they have octets
pub returns-clause-few : goal.returns-clause-few
returns-clause-few c =
    let n : ℕ = c.length_of.result in
    let os : List ℕ = c.args.octets.now in
    let pairs = few_pairs c.args.keys.now.dictionary.now c.args.keys.now.secret.now c.args.keys.now.authenticator.now c.attributes_in-attributes.result.now in
    let listed = ap length (c.from_vec.ensures ∙ c.in_ok-pairs.ensures.pairs) in
    let attributes = ap length c.attributes_in-attributes.ensures in
    let dropped = length-drop 20 (take n os) in
    let taken = length-take n os in
    omega (arith, pairs, listed, attributes, dropped, taken, c.length_of.ensures)
