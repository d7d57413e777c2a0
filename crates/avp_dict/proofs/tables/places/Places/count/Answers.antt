use Rattle.std.proofs.Common.{ap, length, subst, ◌∙◌}
use Rattle.std.specs.List.{IsDistinct}
use Rattle.std.specs.Map.{keys_of}
use Rattle.avp_dict.proofs.LineTables.{many_keys}
use Rattle.avp_dict.proofs.tables.places.Places.count.Goals as goal

pub returns : goal.returns
returns g c = λ keys table. c.len.ensures.len ∙ ap length c.self.view_is ∙ many_keys g.K.PartialEq.eq g.met.K.Eq.laws c.args.self.now (subst (λ es. IsDistinct g.K.PartialEq.eq (keys_of es)) c.self.view_is c.len.ensures.unique) keys table
