use Rattle.std.proofs.Common.{ap, slice_get, option_and_then, ◌∙◌}
use Rattle.std.specs.Map.{lookup}
use Rattle.avp_dict.proofs.LineTables.{line_found}
use Rattle.avp_dict.proofs.tables.places.Places.line.Goals as goal

pub returns : goal.returns
returns g c = λ keys test table alike.
    let eq = g.K.PartialEq.eq in
    let lines = c.args.lines.now in
    c.line_at.ensures ∙ ap (option_and_then (slice_get lines)) (c.copied.ensures ∙ c.get.ensures.value ∙ ap (lookup (eq c.args.key.now)) c.self.view_is)
    ∙ line_found eq keys c.args.self.now lines c.args.key.now test table alike
