use Rattle.std.proofs.Common.{◌≡◌, drop, map}
use Rattle.policy_warnings.specs.Absences.{all_of, always, any_of, negated, said_of}
use Rattle.policy_warnings.proofs.absences.+absences.Given as goal

abbrev pub invariant-all_of-loop-cond : goal.invariant-all_of-loop-cond
invariant-all_of-loop-cond l =
    all_of l.before (map (said_of l.mention) (drop l.cond-index l.conds)) ≡ all_of always (map (said_of l.mention) l.conds)

abbrev pub invariant-any_of-loop-cond : goal.invariant-any_of-loop-cond
invariant-any_of-loop-cond l =
    any_of l.before (map (said_of l.mention) (drop l.cond-index l.conds)) ≡ any_of (negated always) (map (said_of l.mention) l.conds)
