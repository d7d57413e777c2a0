use Rattle.std.proofs.Common.{◌≡◌, ◌++◌, ◌∷◌, drop, flat_map}
use Rattle.avp_dict.specs.Quotes.{quoted_octet}
use Rattle.avp_dict.proofs.value.quotes.quote.Given as goal

abbrev pub invariant-loop-octet : goal.invariant-loop-octet
invariant-loop-octet l = l.text.items ++ flat_map quoted_octet (drop l.octet-index l.octets) ≡ 34 ∷ flat_map quoted_octet l.octets
