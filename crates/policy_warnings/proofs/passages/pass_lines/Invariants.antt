use Rattle.std.proofs.Common.{◌≡◌, ◌++◌, drop}
use Rattle.policy_warnings.specs.Passages.{after_lines, counted_in_lines}
use Rattle.policy_warnings.proofs.passages.pass_lines.Given as goal

abbrev pub invariant-loop-line : goal.invariant-loop-line
invariant-loop-line l =
    (after_lines l.mention (drop l.line-index l.lines) l.counts ≡ after_lines l.mention l.lines l.fn.before)
    × (l.warnings.items ++ counted_in_lines l.mention (drop l.line-index l.lines) l.counts
    ≡ l.fn.warnings.items ++ counted_in_lines l.mention l.lines l.fn.before)
