use Rattle.std.proofs.Common.{◌∙◌, Some, if◌then◌else◌, ap}
use Rattle.std.specs.Map.{lookup}
use Rattle.indexmap.specs.IndexMap.{insert_entry}
use Rattle.avp_dict.proofs.LineTables.{one_line_more}
use Rattle.avp_dict.proofs.tables.places.Places.put.Goals as goal

pub returns-clause-before : goal.returns-clause-before
returns-clause-before g c = λ keys table. c.in_ok-before.ensures.old ∙ ap (lookup (g.K.PartialEq.eq c.args.key)) c.self.view_is ∙ table.placed c.args.key

pub returns-clause-table : goal.returns-clause-table
returns-clause-table g c = λ keys table at.
    let eq = g.K.PartialEq.eq in
    one_line_more eq c.args.self.now c.insert.new.self.entries keys c.args.key c.args.place table at
    (λ q. c.in_ok-before.ensures.updates.0 q ∙ ap (λ es. if eq c.args.key q then Some c.args.place else lookup (eq q) es) c.self.view_is)
    (c.in_ok-before.ensures.entries ∙ ap (λ es. insert_entry eq es c.args.key c.args.place) c.self.view_is)
