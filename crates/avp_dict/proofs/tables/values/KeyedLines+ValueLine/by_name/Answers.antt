use Rattle.std.proofs.Common.{◌&&◌, sym, ◌∙◌}
use Rattle.std.proofs.lemmas.Bool.{and_right}
use Rattle.avp_lists.specs.Pairs.{id_eq}
use Rattle.avp_dict.specs.Dictionary.{is_value_named}
use Rattle.avp_dict.specs.Words.{same_name}
use Rattle.avp_dict.specs.internal.Tables.{same_value_name, value_name_key}
use Rattle.avp_dict.proofs.Folding.{same_folded, too_long}
use Rattle.avp_dict.proofs.LineTables.{same_key}
use Rattle.avp_dict.proofs.tables.values.KeyedLines+ValueLine.by_name.Goals as goal

pub returns-in-Some : goal.returns-in-Some
returns-in-Some c =
    let id = c.args.id in
    let name = c.args.name.now in
    c.named.ensures (is_value_named id name)
    (λ v. (λ i. same_value_name (value_name_key v) (c.id_key.ensures i, c.in-Some.ensures.folded i)) ∙ (λ i. same_key v.id id i && sym (same_folded v.name name) i))

pub returns-in-None : goal.returns-in-None
returns-in-None c =
    let id = c.args.id in
    let name = c.args.name.now in
    c.named-in-None.ensures (is_value_named id name)
    (λ v short. and_right (id_eq v.id id) (same_name v.name name) (too_long v.name name short c.in-None.ensures.long))
