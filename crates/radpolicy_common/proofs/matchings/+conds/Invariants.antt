use Rattle.std.proofs.Common.{◌≡◌, ◌++◌, drop}
use Rattle.std.specs.List.{flat_map}
use Rattle.radpolicy_common.specs.Secrets.{matched_in_cond}
use Rattle.radpolicy_common.proofs.matchings.+conds.Given as goal

abbrev pub invariant-push_conds-loop-cond : goal.invariant-push_conds-loop-cond
invariant-push_conds-loop-cond l =
    l.ids.items ++ flat_map matched_in_cond (drop l.cond-index l.conds) ≡ l.fn.ids.items ++ flat_map matched_in_cond l.conds
