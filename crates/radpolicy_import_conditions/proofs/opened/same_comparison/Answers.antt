use Rattle.std.proofs.Common.{sym}
use Rattle.radpolicy_import_conditions.proofs.Opening.{same_comparisons}
use Rattle.radpolicy_import_conditions.proofs.opened.same_comparison.Goals as goal

pub returns : goal.returns
returns c = λ h.
    let same = c.same_attribute.ensures (search) in
    let alike = c.same_relation.ensures (search) in
    same_comparisons c.args.comparison.now c.args.other.now (sym same.0) (sym same.1) (sym alike.0) (sym alike.1) (c.same_comparand.ensures h)
