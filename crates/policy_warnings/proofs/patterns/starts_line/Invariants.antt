use Rattle.std.proofs.Common.{◌≡◌, ◌≤◌, drop}
use Rattle.policy_warnings.specs.WrittenPatterns.{at_front, read_from}
use Rattle.policy_warnings.proofs.patterns.starts_line.Given as goal

abbrev pub invariant-loop-octet : goal.invariant-loop-octet
invariant-loop-octet l = record {
  read : read_from l.reading (drop l.octet-index l.matcher.pattern) ≡ read_from (at_front l.matcher.flags.multi_line) l.matcher.pattern;
  few : l.reading.classes ≤ l.octet-index;
}
