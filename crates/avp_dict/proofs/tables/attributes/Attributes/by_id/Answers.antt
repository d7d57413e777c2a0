use Rattle.std.proofs.Common.{ap, ◌∙◌}
use Rattle.avp_dict.specs.Dictionary.{is_attribute_of, last_where}
use Rattle.avp_dict.specs.internal.Tables.{id_key, same_id_key}
use Rattle.avp_dict.proofs.LineTables.{same_key}
use Rattle.avp_dict.proofs.tables.attributes.Attributes.by_id.Goals as goal

pub returns : goal.returns
returns c =
    let id = c.args.id in
    c.numbered.ensures (is_attribute_of id) (λ line. ap (same_id_key (id_key line.id)) c.id_key.ensures ∙ same_key line.id id)
    ∙ ap (last_where (is_attribute_of id)) c.self.view_is
