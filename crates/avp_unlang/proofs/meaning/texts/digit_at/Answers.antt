use Rattle.std.proofs.Common.{Some, ap, arith, option_map, sym, ◌-◌, ◌/◌, ◌∙◌}
use Rattle.std.proofs.lemmas.Option.{slice_get_within}
use Rattle.avp_unlang.specs.internal.UnreadTexts.{digit_of}
use Rattle.avp_unlang.proofs.UnreadOctets.{hexadecimal_placed}
use Rattle.avp_unlang.proofs.meaning.texts.digit_at.Goals as goal

pub returns-in-Some-clause-octet : goal.returns-in-Some-clause-octet
returns-in-Some-clause-octet c =
    ap Some c.digit_of.ensures ∙ ap (option_map (λ o. digit_of o c.args.at)) c.in-Some.ensures.octet ∙ sym (hexadecimal_placed c.args.octets.now c.args.at (omega arith))

pub returns-in-Some-clause-place : goal.returns-in-Some-clause-place
returns-in-Some-clause-place c =
    let within = slice_get_within c.args.octets.now ((c.args.at - 2) / 2) c.in-Some.octet (sym c.in-Some.ensures.octet) in
    omega (arith, within, c.requires)

pub returns-in-None-clause-octet : goal.returns-in-None-clause-octet
returns-in-None-clause-octet c =
    ap (option_map (λ o. digit_of o c.args.at)) c.in-None.ensures.octet ∙ sym (hexadecimal_placed c.args.octets.now c.args.at (omega arith))
