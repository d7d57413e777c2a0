use Rattle.std.proofs.Common.{◌≡◌, ◌≤◌, ◌++◌, ◌+◌, ◌-◌, length}
use Rattle.policy_warnings.specs.WrittenValues.{written_values, written_values_from}
use Rattle.policy_warnings.proofs.TokenLines.{place}
use Rattle.policy_warnings.proofs.values.written_values.Given as goal

abbrev pub invariant-loop-passed : goal.invariant-loop-passed
invariant-loop-passed l = record {
  warnings : l.warnings.items ++ written_values_from (length l.text - l.passed) l.dictionary l.name l.before (place l.profile l.rest l.line) ≡ written_values l.dictionary l.text;
  within : l.line + length l.rest ≤ 1 + length l.text;
}
