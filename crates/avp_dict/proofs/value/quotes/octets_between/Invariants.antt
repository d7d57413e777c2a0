use Rattle.std.proofs.Common.{◌≡◌, ◌++◌, length}
use Rattle.avp_dict.specs.Quotes.{unescaped}
use Rattle.avp_dict.proofs.value.quotes.octets_between.Given as goal

abbrev pub invariant-loop-octet : goal.invariant-loop-octet
invariant-loop-octet l = l.octets.items ++ unescaped l.mark 0 l.rest ≡ unescaped l.mark 0 l.text

abbrev pub decreases-loop-octet : goal.decreases-loop-octet
decreases-loop-octet l = length l.rest
