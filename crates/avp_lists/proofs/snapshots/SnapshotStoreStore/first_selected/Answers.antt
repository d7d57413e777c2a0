use Rattle.std.proofs.Common.{◌∙◌, ap, List, filter}
use Rattle.avp_lists.specs.declared.pairs.Pair.{Pair}
use Rattle.avp_lists.specs.Instances.{front}
use Rattle.avp_lists.specs.States.{list_of}
use Rattle.avp_lists.specs.Tags.{is_selected}
use Rattle.avp_lists.proofs.Fronts.{find-front}
use Rattle.avp_lists.proofs.snapshots.SnapshotStoreStore.first_selected.Goals as goal

-- the first that has the id is the front of the instances
pub returns : goal.returns
returns c =
    let front_of = λ (pairs : List Pair). front (filter (is_selected c.args.selection c.args.id) pairs) in
    c.find_selected.ensures
    ∙ find-front (is_selected c.args.selection c.args.id) c.list.result.now
    ∙ ap front_of (c.list.ensures ∙ ap (list_of c.args.list) c.present.ensures)
