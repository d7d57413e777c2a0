use Rattle.std.proofs.Common.{◌≡◌, filter, not, take}
use Rattle.radpolicy_record_answers.specs.Comparisons.{pairs_of, same_instances}
use Rattle.radpolicy_record_answers.proofs.record_lines.differing_among.Given as goal

abbrev pub invariant-loop-id : goal.invariant-loop-id
invariant-loop-id l = l.differing.items ≡ filter
    (λ id. not (same_instances (pairs_of l.old) (pairs_of l.new) id)) (take l.id-index l.ids)
