use Rattle.std.proofs.Common.{◌+◌, ◌*◌, ◌<◌, ◌++◌, ◌∙◌, ap, ap₂, arith}
use Rattle.avp_forms.specs.InterfaceIds.{group_text}
use Rattle.avp_forms.proofs.GroupTexts.{hex_is_group}
use Rattle.avp_forms.proofs.interface_ids.push_group_of.Goals as goal

pub returns-clause-items : goal.returns-clause-items
returns-clause-items c =
    let fits : c.from.result * 256 + c.from-2.result < 65536 = omega (arith, c.from.ensures, c.from-2.ensures, c.ranges.high.fits, c.ranges.low.fits) in
    c.push_group.ensures.items
    ∙ ap (λ t. c.args.text.now.items ++ t) (hex_is_group (c.from.result * 256 + c.from-2.result) fits ∙ ap₂ (λ h l. group_text (h * 256 + l)) c.from.ensures c.from-2.ensures)
