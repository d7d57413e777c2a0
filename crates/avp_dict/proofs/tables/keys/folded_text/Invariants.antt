use Rattle.std.proofs.Common.{◌≡◌, map, take}
use Rattle.avp_dict.specs.Words.{lower}
use Rattle.avp_dict.proofs.tables.keys.folded_text.Given as goal

abbrev pub invariant-loop-octet : goal.invariant-loop-octet
invariant-loop-octet l = l.octets.items ≡ map lower (take l.octet-index l.name)
