use Rattle.std.proofs.Common.{◌≡◌, drop, map}
use Rattle.policy_warnings.specs.Repeats.{all_same, same_cond}
use Rattle.policy_warnings.proofs.repeats.+sameness.Given as goal

abbrev pub invariant-all_same-loop-at : goal.invariant-all_same-loop-at
invariant-all_same-loop-at l = all_same (map same_cond (drop l.at l.conds)) (drop l.at l.others) ≡ all_same (map same_cond l.conds) l.others
