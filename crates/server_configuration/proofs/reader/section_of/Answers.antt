use Rattle.std.proofs.Common.{length, refl}
use Rattle.std.proofs.lemmas.Option.{slice_get_read}
use Rattle.server_configuration.proofs.Nesting.{section_of_item}
use Rattle.server_configuration.proofs.reader.section_of.Goals as goal

pub returns : goal.returns
returns c = λ nested.
    let items = c.args.items.now in
    let place = c.in_ok-section.field-0 in
    let item = c.in_ok-get.field-0.now in
    let found = c.in_ok-get.ensures.lookup in
    section_of_item items place item nested
    (slice_get_read items (length items) place item refl found.3.0 found.1)
