use Rattle.std.proofs.Common.{◌≡◌, ◌∷◌, ◌++◌, drop, flat_map}
use Rattle.avp_dict.specs.Printing.{ether_text, digit_pair_text}
use Rattle.avp_dict.proofs.value.printing.ether_text.Given as goal

abbrev pub invariant-loop-octet : goal.invariant-loop-octet
invariant-loop-octet l = l.text.items ++ flat_map (λ o. 58 ∷ digit_pair_text o) (drop l.octet-index l.rest) ≡ ether_text l.address
