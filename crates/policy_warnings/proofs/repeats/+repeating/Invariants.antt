use Rattle.std.proofs.Common.{◌≡◌, [], ◌++◌, drop, map, take}
use Rattle.policy_warnings.specs.Repeats.{cond_of, link, repeated_conditions, repeats_after}
use Rattle.policy_warnings.proofs.repeats.+repeating.Given as goal

abbrev pub invariant-push_repeats_in_block-loop-statement : goal.invariant-push_repeats_in_block-loop-statement
invariant-push_repeats_in_block-loop-statement l =
    l.warnings.items ++ repeated_conditions (drop l.statement-index l.block) ≡ l.fn.warnings.items ++ repeated_conditions l.block

abbrev pub invariant-push_repeats_in_branches-loop-at : goal.invariant-push_repeats_in_branches-loop-at
invariant-push_repeats_in_branches-loop-at l =
    l.warnings.items ++ repeats_after (map cond_of (map link (take l.at l.branches))) (map link (drop l.at l.branches))
    ≡ l.fn.warnings.items ++ repeats_after [] (map link l.branches)
