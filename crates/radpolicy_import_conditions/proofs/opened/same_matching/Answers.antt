use Rattle.std.proofs.Common.{sym}
use Rattle.radpolicy_import_conditions.proofs.Opening.{same_matchings}
use Rattle.radpolicy_import_conditions.proofs.opened.same_matching.Goals as goal

pub returns : goal.returns
returns c = λ h.
    let same = c.same_attribute.ensures (search) in
    let alike = c.same_sign.ensures (search) in
    let pattern = c.same_pattern.ensures h in
    same_matchings c.args.matching.now c.args.other.now (sym same.0) (sym same.1) (sym alike.0) (sym alike.1) (sym pattern.0) (sym pattern.1)
