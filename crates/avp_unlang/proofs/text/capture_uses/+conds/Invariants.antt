use Rattle.std.proofs.Common.{◌≡◌, drop}
use Rattle.std.specs.List.{list_any}
use Rattle.avp_unlang.specs.Evaluations.{cond_uses_captures}
use Rattle.avp_unlang.proofs.text.capture_uses.+conds.Given as goal

abbrev pub invariant-any_cond_uses_captures-loop-cond : goal.invariant-any_cond_uses_captures-loop-cond
invariant-any_cond_uses_captures-loop-cond l = list_any cond_uses_captures (drop l.cond-index l.conds) ≡ list_any cond_uses_captures l.conds
