use Rattle.std.proofs.Common.{◌≡◌, ◌++◌, ◌<◌, false, length, drop, refl, sym, ap, ◌∙◌, arith}
use Rattle.std.proofs.lemmas.Grind.{common_steps}
use Rattle.avp_packet.specs.AttributeOctets.{part}
use Rattle.avp_packet.specs.Splitting.{begins_whole, part_octets}
use Rattle.avp_packet.proofs.Splits.{items-more, items-end, items-empty}
use Rattle.avp_packet.proofs.attribute.splitting.Attributes.advance.Goals as goal

pub returns-in-Some-clause-some : goal.returns-in-Some-clause-some
returns-in-Some-clause-some c =
    let s = c.args.self.now in
    let f = c.in-Some.front in
    let e : drop s.offset s.octets.now ≡ part_octets (part f.number f.value.now) ++ f.rest.now = sym c.rest-rest.ensures ∙ c.in-Some.ensures.octets in
    items-more s.offset _ s.octets.now f.rest.now (part f.number f.value.now) s.within e refl

pub returns-in-None-clause-some : goal.returns-in-None-clause-some
returns-in-None-clause-some c =
    let s = c.args.self.now in
    let same = ap length c.rest-rest.ensures in
    let there : 0 < length c.rest-rest.result.now = grind (arith, common_steps) in
    let some : 0 < length (drop s.offset s.octets.now) = omega arith in
    let none : begins_whole (drop s.offset s.octets.now) ≡ false = ap begins_whole (sym c.rest-rest.ensures) ∙ c.in-None.ensures.none in
    items-end s.offset _ s.octets.now some none refl

pub returns-then-is_empty-clause-end : goal.returns-then-is_empty-clause-end
returns-then-is_empty-clause-end c =
    let s = c.args.self.now in
    let same = ap length c.rest-rest.ensures in
    let empty : length c.rest-rest.result.now ≡ 0 = grind (arith, common_steps) in
    items-empty s.offset (drop s.offset s.octets.now) (sym same ∙ empty)

pub returns-then-is_empty-clause-ended : goal.returns-then-is_empty-clause-ended
returns-then-is_empty-clause-ended c = returns-then-is_empty-clause-end c
