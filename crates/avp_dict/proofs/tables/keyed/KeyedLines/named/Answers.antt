use Rattle.std.proofs.Common.{ap, ◌∙◌}
use Rattle.avp_dict.specs.Dictionary.{last_where}
use Rattle.avp_dict.proofs.NameLengths.{short_where}
use Rattle.avp_dict.proofs.tables.keyed.KeyedLines.named.Goals as goal

pub returns-in-Some : goal.returns-in-Some
returns-in-Some g c = λ test tells.
    c.line.ensures g.L.Keyed.name_of test (rw c.as_slice-lines.ensures.value c.self.invariant.by_name) (rw c.in-Some.is at tells)
    ∙ ap (last_where test) (c.as_slice-lines.ensures.value ∙ c.self.view_is)

pub returns-in-None : goal.returns-in-None
returns-in-None g c = λ test tells. short_where g.L.Keyed.spelled test (rw c.in-None.is at tells) c.self.inside.lines.items c.self.invariant.short ∙ ap (last_where test) c.self.view_is
