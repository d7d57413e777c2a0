use Rattle.avp_lists.specs.History.{present}
use Rattle.avp_unlang.proofs.FirstInstances.{first_fits, selected_fits}
use Rattle.avp_unlang.proofs.meaning.resolving.push_part.Goals as goal

pub push_instance-requires : goal.push_instance-requires
push_instance-requires g c =
    first_fits c.args.dictionary.now (present (g.S.Store.history c.args.store.now)) c.in-Instance.list c.in-Instance.id c.in-Some.pair.now c.requires c.in-Some.ensures

pub push_meaning-requires : goal.push_meaning-requires
push_meaning-requires g c =
    selected_fits c.args.dictionary.now (present (g.S.Store.history c.args.store.now)) c.in-Meant.list c.in-Meant.id c.in-Meant.selection c.in-Some-first_selected.pair.now c.requires c.in-Some-first_selected.ensures
