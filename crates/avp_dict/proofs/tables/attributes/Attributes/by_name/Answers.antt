use Rattle.std.proofs.Common.{ap, ◌∙◌}
use Rattle.avp_dict.specs.Dictionary.{is_attribute_named, last_where}
use Rattle.avp_dict.proofs.NameLengths.{by_folded}
use Rattle.avp_dict.proofs.tables.attributes.Attributes.by_name.Goals as goal

pub returns : goal.returns
returns c =
    let name = c.args.name.now in
    let test = is_attribute_named name in
    c.named.ensures test (by_folded (λ line. line.name) name c.of.result c.of.ensures.folded c.of.ensures.long)
    ∙ ap (last_where test) c.self.view_is
