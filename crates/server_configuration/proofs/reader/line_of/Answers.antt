use Rattle.std.proofs.Common.{length, refl}
use Rattle.std.proofs.lemmas.Option.{slice_get_read}
use Rattle.server_configuration.proofs.Lines.{line_of_item}
use Rattle.server_configuration.proofs.reader.line_of.Goals as goal

pub returns-in-Some : goal.returns-in-Some
returns-in-Some c = λ lines within.
    let items = c.args.items.now in
    let item = c.in-Some.item.now in
    let found = c.in-Some.ensures.lookup in
    line_of_item lines items c.args.place item within
    (slice_get_read items (length items) c.args.place item refl found.3.0 found.1)
