use Rattle.std.proofs.Common.{ap, ◌∙◌}
use Rattle.avp_dict.specs.Dictionary.{last_where}
use Rattle.avp_dict.proofs.tables.keyed.KeyedLines.numbered.Goals as goal

pub returns : goal.returns
returns g c = λ test alike.
    c.line.ensures g.L.Keyed.number_of test (rw c.as_slice.ensures.value c.self.invariant.by_number) alike
    ∙ ap (last_where test) (c.as_slice.ensures.value ∙ c.self.view_is)
