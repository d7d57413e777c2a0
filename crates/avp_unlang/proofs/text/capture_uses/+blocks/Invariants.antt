use Rattle.std.proofs.Common.{◌≡◌, drop}
use Rattle.std.specs.List.{list_any}
use Rattle.avp_unlang.specs.CaptureUse.{branch_uses_captures, statement_uses_captures}
use Rattle.avp_unlang.proofs.text.capture_uses.+blocks.Given as goal

abbrev pub invariant-branches_use_captures-loop-branch : goal.invariant-branches_use_captures-loop-branch
invariant-branches_use_captures-loop-branch l = list_any branch_uses_captures (drop l.branch-index l.branches) ≡ list_any branch_uses_captures l.branches

abbrev pub invariant-uses_captures-loop-statement : goal.invariant-uses_captures-loop-statement
invariant-uses_captures-loop-statement l = list_any statement_uses_captures (drop l.statement-index l.statements) ≡ list_any statement_uses_captures l.statements
