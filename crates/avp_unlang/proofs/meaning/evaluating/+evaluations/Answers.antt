use Rattle.std.proofs.Common.{rules, arith, ap, ap₂, sym, ◌∙◌, map}
use Rattle.avp_lists.specs.History.{present}
use Rattle.avp_unlang.specs.Evaluations.{all_evaluated, any_evaluated, decided, evaluated, negated}
use Rattle.avp_unlang.specs.Truth.{comparable_by}
use Rattle.avp_unlang.specs.declared.tree.Cond.TheViews.{the_lemmas}
use Rattle.avp_unlang.proofs.EvaluatedConds.{evaluated_all, evaluated_any, evaluated_compare_texts, evaluated_match, evaluated_match_group, evaluated_match_text, evaluated_not}
use Rattle.avp_unlang.proofs.KeptTexts.{first_keepable}
use Rattle.avp_unlang.proofs.Truths.{comparable_by_all, comparable_by_any, comparable_by_compare_texts, comparable_by_match, comparable_by_match_text, comparable_by_not, passes_all, passes_any, passes_not}
use Rattle.avp_unlang.proofs.meaning.evaluating.+evaluations.Goals as goal

pub evaluate-any_evaluated-requires : goal.evaluate-any_evaluated-requires
evaluate-any_evaluated-requires g t c κs within =
    (search (rules, the_lemmas), (search rules, (grind (arith, comparable_by_any), (grind (arith, passes_any), (search rules, search rules)))))

pub evaluate-all_evaluated-requires : goal.evaluate-all_evaluated-requires
evaluate-all_evaluated-requires g t c κs within =
    (search (rules, the_lemmas), (search rules, (grind (arith, comparable_by_all), (grind (arith, passes_all), (search rules, search rules)))))

pub evaluate-evaluate-requires : goal.evaluate-evaluate-requires
evaluate-evaluate-requires g t c κs within =
    (search (rules, the_lemmas), (search rules, (grind (arith, comparable_by_not), (grind (arith, passes_not), (search rules, search rules)))))

pub evaluate-returns-in-Any-clause-evaluated : goal.evaluate-returns-in-Any-clause-evaluated
evaluate-returns-in-Any-clause-evaluated g t c =
    let state = present (g.S.Store.history c.args.store.now) in
    let d = c.args.dictionary.now in
    let captures = c.args.captured.now.captures in
    c.any_evaluated.ensures.evaluated
    ∙ ap (λ cs. any_evaluated (map (evaluated d) cs) state c.args.code captures) c.as_slice.ensures
    ∙ sym (ap (λ x. evaluated d x state c.args.code captures) c.in-Any.is ∙ evaluated_any d c.in-Any.conds state c.args.code captures)

pub evaluate-returns-in-All-clause-evaluated : goal.evaluate-returns-in-All-clause-evaluated
evaluate-returns-in-All-clause-evaluated g t c =
    let state = present (g.S.Store.history c.args.store.now) in
    let d = c.args.dictionary.now in
    let captures = c.args.captured.now.captures in
    c.all_evaluated.ensures.evaluated
    ∙ ap (λ cs. all_evaluated (map (evaluated d) cs) state c.args.code captures) c.as_slice-in-All.ensures
    ∙ sym (ap (λ x. evaluated d x state c.args.code captures) c.in-All.is ∙ evaluated_all d c.in-All.conds state c.args.code captures)

pub evaluate-returns-in-Not-clause-evaluated : goal.evaluate-returns-in-Not-clause-evaluated
evaluate-returns-in-Not-clause-evaluated g t c =
    let state = present (g.S.Store.history c.args.store.now) in
    let d = c.args.dictionary.now in
    let captures = c.args.captured.now.captures in
    ap negated (c.evaluate.ensures.evaluated ∙ ap (λ x. evaluated d x state c.args.code captures) c.get.ensures)
    ∙ sym (ap (λ x. evaluated d x state c.args.code captures) c.in-Not.is ∙ evaluated_not d c.in-Not.cond state c.args.code captures)

pub evaluate-evaluate_match-requires-clause-keepable : goal.evaluate-evaluate_match-requires-clause-keepable
evaluate-evaluate_match-requires-clause-keepable g t c =
    let state = present (g.S.Store.history c.args.store.now) in
    first_keepable c.args.dictionary.now state c.in-Match.matching c.requires.store
    (sym (comparable_by_match c.args.dictionary.now c.in-Match.matching state) ∙ sym (ap (λ x. comparable_by c.args.dictionary.now x state) c.in-Match.is) ∙ c.requires.comparable)

pub evaluate-returns-in-Match-clause-evaluated : goal.evaluate-returns-in-Match-clause-evaluated
evaluate-returns-in-Match-clause-evaluated g t c =
    let state = present (g.S.Store.history c.args.store.now) in
    let d = c.args.dictionary.now in
    let captures = c.args.captured.now.captures in
    ap₂ decided c.evaluate_match.ensures.found c.evaluate_match.ensures.captures
    ∙ sym (ap (λ x. evaluated d x state c.args.code captures) c.in-Match.is ∙ evaluated_match d c.in-Match.matching state c.args.code captures)

pub evaluate-are_texts_met-requires : goal.evaluate-are_texts_met-requires
evaluate-are_texts_met-requires g t c =
    let state = present (g.S.Store.history c.args.store.now) in
    sym (comparable_by_compare_texts c.args.dictionary.now c.in-CompareTexts.comparison state) ∙ sym (ap (λ x. comparable_by c.args.dictionary.now x state) c.in-CompareTexts.is) ∙ c.requires.comparable

pub evaluate-returns-in-CompareTexts-clause-evaluated : goal.evaluate-returns-in-CompareTexts-clause-evaluated
evaluate-returns-in-CompareTexts-clause-evaluated g t c =
    let state = present (g.S.Store.history c.args.store.now) in
    let d = c.args.dictionary.now in
    let captures = c.args.captured.now.captures in
    ap (λ b. decided b captures) c.are_texts_met.ensures
    ∙ sym (ap (λ x. evaluated d x state c.args.code captures) c.in-CompareTexts.is ∙ evaluated_compare_texts d c.in-CompareTexts.comparison state c.args.code captures)

pub evaluate-evaluate_text_match-requires-clause-keepable : goal.evaluate-evaluate_text_match-requires-clause-keepable
evaluate-evaluate_text_match-requires-clause-keepable g t c =
    let state = present (g.S.Store.history c.args.store.now) in
    first_keepable c.args.dictionary.now state c.in-MatchText.matching c.requires.store
    (sym (comparable_by_match_text c.args.dictionary.now c.in-MatchText.matching state) ∙ sym (ap (λ x. comparable_by c.args.dictionary.now x state) c.in-MatchText.is) ∙ c.requires.comparable)

pub evaluate-returns-in-MatchText-clause-evaluated : goal.evaluate-returns-in-MatchText-clause-evaluated
evaluate-returns-in-MatchText-clause-evaluated g t c =
    let state = present (g.S.Store.history c.args.store.now) in
    let d = c.args.dictionary.now in
    let captures = c.args.captured.now.captures in
    ap₂ decided c.evaluate_text_match.ensures.found c.evaluate_text_match.ensures.captures
    ∙ sym (ap (λ x. evaluated d x state c.args.code captures) c.in-MatchText.is ∙ evaluated_match_text d c.in-MatchText.matching state c.args.code captures)

pub evaluate-returns-in-MatchGroup-clause-evaluated : goal.evaluate-returns-in-MatchGroup-clause-evaluated
evaluate-returns-in-MatchGroup-clause-evaluated g t c =
    let state = present (g.S.Store.history c.args.store.now) in
    let d = c.args.dictionary.now in
    let captures = c.args.captured.now.captures in
    ap₂ decided c.evaluate_group_match.ensures.found c.evaluate_group_match.ensures.captures
    ∙ sym (ap (λ x. evaluated d x state c.args.code captures) c.in-MatchGroup.is ∙ evaluated_match_group d c.in-MatchGroup.matching state c.args.code captures)
