use Rattle.std.proofs.Common.{◌≡◌, take}
use Rattle.radpolicy_help.specs.Pointing.{untabbed}
use Rattle.radpolicy_help.proofs.pointing.untabbed.Given as goal

abbrev pub invariant-loop-octet : goal.invariant-loop-octet
invariant-loop-octet l = l.text.items ≡ untabbed (take l.octet-index l.octets)
