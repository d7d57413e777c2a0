use Rattle.std.proofs.Common.{◌∙◌, sym}
use Rattle.avp_unlang.proofs.PlainOctets.{not_so, plain_octets}
use Rattle.avp_unlang.proofs.text.values.has_no_escape.Goals as goal

pub returns : goal.returns
returns c = λ plain mark. plain_octets mark c.args.text.now (sym c.contains.ensures.value ∙ not_so c.contains.result plain)
