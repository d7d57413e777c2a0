use Rattle.std.proofs.Common.{◌≡◌, drop}
use Rattle.policy_warnings.specs.WrittenPatterns.{repeats_octet, repeats_octet_behind}
use Rattle.policy_warnings.proofs.patterns.repeats_octet.Given as goal

abbrev pub invariant-loop-octet : goal.invariant-loop-octet
invariant-loop-octet l = repeats_octet_behind l.beyond (drop l.octet-index l.pattern) ≡ repeats_octet l.pattern
