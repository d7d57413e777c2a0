use Rattle.std.proofs.Common.{◌≡◌, ◌∷◌, ◌++◌, drop, decimal, flat_map}
use Rattle.avp_dict.specs.Printing.{address_text}
use Rattle.avp_dict.proofs.value.printing.address_text.Given as goal

abbrev pub invariant-loop-octet : goal.invariant-loop-octet
invariant-loop-octet l = l.text.items ++ flat_map (λ o. 46 ∷ decimal o) (drop l.octet-index l.rest) ≡ address_text l.address
