use Rattle.std.proofs.Common.{◌≡◌, ℕ, drop}
use Rattle.avp_dict.proofs.file.numbers.many_digits.Given as goal
use Rattle.avp_dict.specs.Words.{digits, number_after}
use Rattle.avp_dict.specs.internal.Numbers.{Holds}

abbrev pub invariant-loop-octet : goal.invariant-loop-octet
invariant-loop-octet l = (n : ℕ) × Holds l.number n × (number_after l.base n (drop l.octet-index l.word) ≡ digits l.base l.word)
