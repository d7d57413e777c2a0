use Rattle.std.proofs.Common.{arith}
use Rattle.avp_lists.specs.declared.pairs.Value.TheVariants.{Ether}
use Rattle.avp_dict.proofs.NumberOctets.{of_length-items}
use Rattle.avp_dict.proofs.value.octets.read_ether.Goals as goal

pub returns-in-len6 : goal.returns-in-len6
returns-in-len6 c = of_length-items 6 (λ os. Ether os) c.args.octets.now (omega arith)
