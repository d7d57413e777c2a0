use Rattle.std.proofs.Common.{◌≡◌, ◌++◌, take}
use Rattle.radpolicy_common.specs.VisibleText.{octal_text}
use Rattle.radpolicy_common.proofs.terminals.push_octals.Given as goal

abbrev pub invariant-loop-octet : goal.invariant-loop-octet
invariant-loop-octet l = l.text.items ≡ l.fn.text.items ++ octal_text (take l.octet-index l.octets)
