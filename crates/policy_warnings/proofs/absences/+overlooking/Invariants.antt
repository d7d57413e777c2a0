use Rattle.std.proofs.Common.{◌≡◌, drop}
use Rattle.std.specs.List.{flat_map, list_any}
use Rattle.policy_warnings.specs.Absences.{said_of}
use Rattle.policy_warnings.specs.Mentions.{mentions}
use Rattle.policy_warnings.specs.declared.mentions.Mention.{Mention}
use Rattle.policy_warnings.proofs.absences.+overlooking.Given as goal

abbrev pub invariant-any_overlooked-loop-cond : goal.invariant-any_overlooked-loop-cond
invariant-any_overlooked-loop-cond l =
    list_any (λ (m : Mention). (said_of m l.whole).overlooked_when_true) (flat_map mentions (drop l.cond-index l.conds))
    ≡ list_any (λ (m : Mention). (said_of m l.whole).overlooked_when_true) (flat_map mentions l.conds)
