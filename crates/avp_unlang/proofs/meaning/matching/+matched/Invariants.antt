use Rattle.std.proofs.Common.{◌≡◌, Bool, IsTrue, drop}
use Rattle.std.specs.List.{list_all, list_any}
use Rattle.avp_lists.specs.History.{present}
use Rattle.avp_unlang.specs.declared.tree.Cond.{Cond}
use Rattle.avp_unlang.specs.PolicyPatterns.{cond_patterns_pass, is_among}
use Rattle.avp_unlang.specs.Truth.{comparable_by, truth_by}
use Rattle.avp_unlang.proofs.meaning.matching.+matched.Given as goal

abbrev pub invariant-all_hold_by-loop-cond : goal.invariant-all_hold_by-loop-cond
invariant-all_hold_by-loop-cond g l =
    let state = present (g.S.Store.history l.store) in
    let holds : Cond → Bool = λ cond. truth_by l.dictionary cond state l.code in record {
      comparable : IsTrue (list_all (λ cond. comparable_by l.dictionary cond state) (drop l.cond-index l.conds));
      patterns : IsTrue (list_all (cond_patterns_pass (is_among l.matchers)) (drop l.cond-index l.conds));
      so_far : list_all holds (drop l.cond-index l.conds) ≡ list_all holds l.conds;
      same : l.matchers ≡ l.fn.matchers;
    }

abbrev pub invariant-any_holds_by-loop-cond : goal.invariant-any_holds_by-loop-cond
invariant-any_holds_by-loop-cond g l =
    let state = present (g.S.Store.history l.store) in
    let holds : Cond → Bool = λ cond. truth_by l.dictionary cond state l.code in record {
      comparable : IsTrue (list_all (λ cond. comparable_by l.dictionary cond state) (drop l.cond-index l.conds));
      patterns : IsTrue (list_all (cond_patterns_pass (is_among l.matchers)) (drop l.cond-index l.conds));
      so_far : list_any holds (drop l.cond-index l.conds) ≡ list_any holds l.conds;
      same : l.matchers ≡ l.fn.matchers;
    }
