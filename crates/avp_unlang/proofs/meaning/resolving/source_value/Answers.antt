use Rattle.std.proofs.Common.{rules}
use Rattle.avp_lists.specs.History.{present}
use Rattle.avp_unlang.proofs.FirstInstances.{first_fits, selected_fits}
use Rattle.avp_unlang.proofs.TypedValues.{nothing_fits}
use Rattle.avp_unlang.proofs.meaning.resolving.source_value.Goals as goal

pub instance_value-requires-clause-fits : goal.instance_value-requires-clause-fits
instance_value-requires-clause-fits g c =
    first_fits c.args.dictionary.now (present (g.S.Store.history c.args.store.now)) c.in-Instance.list c.in-Instance.other c.in-Some.pair.now c.requires.fits c.in-Some.ensures

pub returns-in-Any-clause-fits : goal.returns-in-Any-clause-fits
returns-in-Any-clause-fits g c = nothing_fits c.args.dictionary.now c.args.id c.from_vec.result (search rules) c.requires.known

pub tagged_value-requires-clause-fits : goal.tagged_value-requires-clause-fits
tagged_value-requires-clause-fits g c =
    selected_fits c.args.dictionary.now (present (g.S.Store.history c.args.store.now)) c.in-Tagged.list c.in-Tagged.other c.in-Tagged.selection c.in-Some-first_selected.pair.now c.requires.fits c.in-Some-first_selected.ensures
