use Rattle.std.proofs.Common.{◌≡◌, ◌≤◌, ◌++◌, ◌+◌, ◌-◌, length}
use Rattle.policy_warnings.specs.BareNames.{bare_names, bare_names_from}
use Rattle.policy_warnings.proofs.TokenLines.{place}
use Rattle.policy_warnings.proofs.bare_words.bare_names.Given as goal

abbrev pub invariant-loop-passed : goal.invariant-loop-passed
invariant-loop-passed l = record {
  warnings : l.warnings.items ++ bare_names_from (length l.text - l.passed) l.dictionary l.before (place l.profile l.rest l.line) ≡ bare_names l.dictionary l.text;
  within : l.line + length l.rest ≤ 1 + length l.text;
}
