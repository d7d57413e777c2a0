use Rattle.std.proofs.Common.{ap, is_some, ◌∙◌}
use Rattle.std.specs.Map.{lookup}
use Rattle.avp_dict.proofs.LineTables.{has_line}
use Rattle.avp_dict.proofs.tables.places.Places.contains.Goals as goal

pub returns : goal.returns
returns g c = λ keys table. c.contains_key.ensures ∙ ap (λ es. is_some (lookup (g.K.PartialEq.eq c.args.key.now) es)) c.self.view_is ∙ has_line g.K.PartialEq.eq c.args.self.now keys c.args.key.now table
