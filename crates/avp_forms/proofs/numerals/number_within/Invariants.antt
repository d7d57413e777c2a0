use Rattle.std.proofs.Common.{◌≡◌, ◌≤◌, drop}
use Rattle.avp_dict.specs.Words.{digits, number_after}
use Rattle.avp_forms.proofs.numerals.number_within.Given as goal

abbrev pub invariant-loop-octet : goal.invariant-loop-octet
invariant-loop-octet l = (l.number ≤ l.most) × (number_after l.base l.number (drop l.octet-index l.text) ≡ digits l.base l.text)
