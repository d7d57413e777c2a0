use Rattle.std.proofs.Common.{List, subst, sym}
use Rattle.server_configuration.specs.Places.{BeginWithin}
use Rattle.server_configuration.specs.declared.items.Item.{Item}
use Rattle.server_configuration.proofs.reader.closed.Goals as goal

pub returns-in-Some-clause-refused : goal.returns-in-Some-clause-refused
returns-in-Some-clause-refused c = λ lines within.
    let Within : List Item → Type 0 = λ items. BeginWithin lines items in
    c.line_of.ensures lines (subst Within (sym c.deref.ensures.value) within)
