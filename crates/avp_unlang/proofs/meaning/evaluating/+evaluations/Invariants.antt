use Rattle.std.proofs.Common.{◌≡◌, IsTrue, drop, map}
use Rattle.std.specs.List.{list_all}
use Rattle.avp_lists.specs.History.{present}
use Rattle.avp_unlang.specs.Evaluations.{all_evaluated, any_evaluated, evaluated}
use Rattle.avp_unlang.specs.PolicyPatterns.{cond_patterns_pass, is_among}
use Rattle.avp_unlang.specs.Truth.{comparable_by}
use Rattle.avp_unlang.proofs.meaning.evaluating.+evaluations.Given as goal

abbrev pub invariant-all_evaluated-loop-cond : goal.invariant-all_evaluated-loop-cond
invariant-all_evaluated-loop-cond g l =
    let state = present (g.S.Store.history l.store) in record {
      comparable : IsTrue (list_all (λ cond. comparable_by l.dictionary cond state) (drop l.cond-index l.conds));
      patterns : IsTrue (list_all (cond_patterns_pass (is_among l.matchers)) (drop l.cond-index l.conds));
      so_far :
          all_evaluated (map (evaluated l.dictionary) (drop l.cond-index l.conds)) state l.code l.captured.captures
          ≡ all_evaluated (map (evaluated l.dictionary) l.conds) state l.code l.fn.captured.captures;
      kept : l.captured.keeps ≡ l.fn.captured.keeps;
      same : l.matchers ≡ l.fn.matchers;
    }

abbrev pub invariant-any_evaluated-loop-cond : goal.invariant-any_evaluated-loop-cond
invariant-any_evaluated-loop-cond g l =
    let state = present (g.S.Store.history l.store) in record {
      comparable : IsTrue (list_all (λ cond. comparable_by l.dictionary cond state) (drop l.cond-index l.conds));
      patterns : IsTrue (list_all (cond_patterns_pass (is_among l.matchers)) (drop l.cond-index l.conds));
      so_far :
          any_evaluated (map (evaluated l.dictionary) (drop l.cond-index l.conds)) state l.code l.captured.captures
          ≡ any_evaluated (map (evaluated l.dictionary) l.conds) state l.code l.fn.captured.captures;
      kept : l.captured.keeps ≡ l.fn.captured.keeps;
      same : l.matchers ≡ l.fn.matchers;
    }
