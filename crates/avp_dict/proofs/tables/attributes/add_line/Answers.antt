use Rattle.std.proofs.Common.{sym}
use Rattle.avp_dict.specs.Dictionary.{is_attribute_named}
use Rattle.avp_dict.proofs.Folding.{same_folded}
use Rattle.avp_dict.proofs.tables.attributes.add_line.Goals as goal

pub returns-clause-before : goal.returns-clause-before
returns-clause-before c =
    let name = c.args.line.name in
    c.in_ok-before.ensures.before (is_attribute_named name) (λ line. sym (same_folded line.name name))
