use Rattle.std.proofs.Common.{sym, arith, ◌∙◌}
use Rattle.avp_dict.proofs.OtherCounts.{no_format, three_parts}
use Rattle.avp_dict.proofs.file.vendors.format_parts.Goals as goal

pub returns-in-len3 : goal.returns-in-len3
returns-in-len3 c =
    c.two_parts-in-len3.ensures _ _ c.number_of-in-len3.ensures c.number_of-in-len3-2.ensures
    ∙ three_parts c.args.parts.now _ _ (omega arith)

pub returns-in_default : goal.returns-in_default
returns-in_default c = sym (no_format c.args.parts.now (λ e. omega (arith, e)) (λ e. omega (arith, e)))

pub returns-in_default-2 : goal.returns-in_default-2
returns-in_default-2 c = sym (no_format c.args.parts.now (λ e. omega (arith, e)) (λ e. omega (arith, e)))
