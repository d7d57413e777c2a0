use Rattle.std.proofs.Common.{◌≡◌, ◌∙◌, ◌<◌, ◌-◌, ℕ, List, length, sym, ap, arith}
use Rattle.std.proofs.lemmas.Grind.{common_steps}
use Rattle.avp_packet.specs.AttributeOctets.{part}
use Rattle.avp_packet.proofs.RefusedPackets.{left_empty, left_more}
use Rattle.avp_packet.specs.Splitting.{parts}
use Rattle.avp_packet.proofs.Splits.{left-none, parts-none, parts-octets}
use Rattle.avp_packet.proofs.attribute.walking.count_attributes.Goals as goal

pub loop-front-preserved : goal.loop-front-preserved
loop-front-preserved c =
    let f = c.in-Some.front in
    let more = ap length (ap parts c.in-Some.ensures.octets ∙ parts-octets (part f.number f.value.now) f.rest.now) in
    record {
      left_so_far = sym (left_more c.loop-front.rest.now f.rest.now (part f.number f.value.now) c.in-Some.ensures.octets) ∙ c.loop-front.invariant.left_so_far;
      counted = omega (arith, c.loop-front.invariant.counted, more);
      within = omega (arith, c.in-Some.ensures.length, c.loop-front.invariant.within);
    }

pub returns-then-is_empty-clause-whole : goal.returns-then-is_empty-clause-whole
returns-then-is_empty-clause-whole c =
    let empty : length c.loop-front.rest.now ≡ 0 = grind (arith, common_steps) in
    sym c.loop-front.invariant.left_so_far ∙ left_empty c.loop-front.rest.now c.in_default.ensures.none empty

pub returns-else-is_empty-clause-bad : goal.returns-else-is_empty-clause-bad
returns-else-is_empty-clause-bad c =
    let same = sym (left-none c.loop-front.rest.now c.in_default.ensures.none) ∙ c.loop-front.invariant.left_so_far in
    ap (λ (os : List ℕ). length c.args.octets.now - length os) same

pub returns-else-is_empty-clause-some : goal.returns-else-is_empty-clause-some
returns-else-is_empty-clause-some c =
    let same = sym (left-none c.loop-front.rest.now c.in_default.ensures.none) ∙ c.loop-front.invariant.left_so_far in
    let long = ap length same in
    let some : 0 < length c.loop-front.rest.now = grind (arith, common_steps) in
    omega arith

pub returns-then-is_empty-clause-count : goal.returns-then-is_empty-clause-count
returns-then-is_empty-clause-count c =
    let none = ap length (parts-none c.loop-front.rest.now c.in_default.ensures.none) in
    omega (arith, c.loop-front.invariant.counted, none)
