use Rattle.std.proofs.Common.{◌≡◌, false, arith}
use Rattle.std.proofs.lemmas.Grind.{common_steps}
use Rattle.avp_packet.specs.AttributeOctets.{part}
use Rattle.avp_packet.specs.Signed.{is_signature}
use Rattle.avp_packet.specs.Splitting.{Part}
use Rattle.avp_packet.proofs.Signatures.{none_found, passed_more, passed_none}
use Rattle.avp_packet.proofs.Splits.{parts-none}
use Rattle.avp_packet.proofs.signing.find_signature.Goals as goal

pub loop-front-init : goal.loop-front-init
loop-front-init c = passed_none c.args.octets.now

pub loop-front-preserved : goal.loop-front-preserved
loop-front-preserved c =
    let f = c.in-Some.front in
    let p : Part = part f.number f.value.now in
    let other : is_signature p ≡ false = grind (arith, common_steps) in
    passed_more c.args.octets.now c.loop-front.rest.now f.rest.now p c.loop-front.invariant c.in-Some.ensures.octets other

pub returns-clause-none : goal.returns-clause-none
returns-clause-none c = none_found c.args.octets.now c.loop-front.rest.now c.loop-front.invariant (parts-none c.loop-front.rest.now c.in_default.ensures.none)
