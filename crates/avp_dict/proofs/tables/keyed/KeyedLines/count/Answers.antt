use Rattle.std.proofs.Common.{ap, map, ◌∙◌}
use Rattle.std.specs.Set.{distinct_count}
use Rattle.avp_dict.proofs.tables.keyed.KeyedLines.count.Goals as goal

pub returns : goal.returns
returns g c = c.count.ensures (map g.L.Keyed.name_of c.self.inside.lines.items) c.self.invariant.by_name ∙ ap (λ lines. distinct_count g.L.NameKey.PartialEq.eq (map g.L.Keyed.name_of lines)) c.self.view_is
