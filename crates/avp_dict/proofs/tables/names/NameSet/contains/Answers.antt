use Rattle.std.proofs.Common.{ap, map, sym, ◌∙◌, bytes_eq}
use Rattle.std.specs.List.{list_any}
use Rattle.avp_dict.specs.Values.{is_same_name}
use Rattle.avp_dict.specs.Words.{lower}
use Rattle.avp_dict.specs.internal.Views.{views}
use Rattle.avp_dict.proofs.Folding.{same_folded}
use Rattle.avp_dict.proofs.LineTables.{any_key}
use Rattle.avp_dict.proofs.tables.names.NameSet.contains.Goals as goal

pub returns : goal.returns
returns c =
    let names = views c.self.inside.names.items in
    let name = c.args.name.now in
    c.contains.ensures (map (map lower) names) c.self.invariant ∙ any_key (map lower) _ names
    ∙ (λ i. list_any (λ n. (ap (bytes_eq (map lower n)) c.in_ok-folded.ensures ∙ sym (same_folded n name)) i) names) ∙ ap (list_any (is_same_name name)) c.self.view_is
