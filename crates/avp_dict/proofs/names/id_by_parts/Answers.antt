use Rattle.std.proofs.Common.{sym}
use Rattle.avp_dict.proofs.Numbered.{four_parts}
use Rattle.avp_dict.proofs.names.id_by_parts.Goals as goal

pub returns-in-Some : goal.returns-in-Some
returns-in-Some c = rw c.in-Some.ensures.cut (sym (four_parts c.args.vendors.now c.args.t.now c.args.v.now c.in-Some.field-0.0.now c.in-Some.field-0.1.now))
