use Rattle.std.proofs.Common.{◌≡◌, IsTrue, drop}
use Rattle.std.specs.List.{list_all, list_any}
use Rattle.avp_lists.specs.History.{present}
use Rattle.avp_unlang.specs.Truth.{comparable, truth}
use Rattle.avp_unlang.proofs.meaning.truth.+conditions.Given as goal

abbrev pub invariant-all_hold-loop-cond : goal.invariant-all_hold-loop-cond
invariant-all_hold-loop-cond g l =
    let state = present (g.S.Store.history l.store) in record {
      comparable : IsTrue (list_all (λ cond. comparable cond state) (drop l.cond-index l.conds));
      so_far : list_all (λ cond. truth cond state l.code) (drop l.cond-index l.conds) ≡ list_all (λ cond. truth cond state l.code) l.conds;
    }

abbrev pub invariant-any_holds-loop-cond : goal.invariant-any_holds-loop-cond
invariant-any_holds-loop-cond g l =
    let state = present (g.S.Store.history l.store) in record {
      comparable : IsTrue (list_all (λ cond. comparable cond state) (drop l.cond-index l.conds));
      so_far : list_any (λ cond. truth cond state l.code) (drop l.cond-index l.conds) ≡ list_any (λ cond. truth cond state l.code) l.conds;
    }
