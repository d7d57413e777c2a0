use Rattle.std.proofs.Common.{◌≡◌, drop}
use Rattle.avp_dict.proofs.file.numbers.digits.Given as goal
use Rattle.avp_dict.specs.Words.{digits, number_after}

abbrev pub invariant-loop-octet : goal.invariant-loop-octet
invariant-loop-octet l = number_after l.base l.number (drop l.octet-index l.word) ≡ digits l.base l.word
