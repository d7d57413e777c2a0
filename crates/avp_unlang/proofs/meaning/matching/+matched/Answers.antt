use Rattle.std.proofs.Common.{rules, arith, ap, sym, ◌∙◌}
use Rattle.avp_lists.specs.History.{present}
use Rattle.avp_unlang.specs.Truth.{truth_by}
use Rattle.avp_unlang.specs.declared.tree.Cond.TheViews.{the_lemmas}
use Rattle.avp_unlang.proofs.Truths.{comparable_by_any, comparable_by_all, comparable_by_not, passes_any, passes_all, passes_not, truth_by_compare_texts, truth_by_match, truth_by_match_group, truth_by_match_text}
use Rattle.avp_unlang.proofs.meaning.matching.+matched.Goals as goal

pub holds_by-any_holds_by-requires : goal.holds_by-any_holds_by-requires
holds_by-any_holds_by-requires g t c κs within =
    (search (rules, the_lemmas), (search rules, (grind (arith, comparable_by_any), grind (arith, passes_any))))

pub holds_by-all_hold_by-requires : goal.holds_by-all_hold_by-requires
holds_by-all_hold_by-requires g t c κs within =
    (search (rules, the_lemmas), (search rules, (grind (arith, comparable_by_all), grind (arith, passes_all))))

pub holds_by-holds_by-requires : goal.holds_by-holds_by-requires
holds_by-holds_by-requires g t c κs within =
    (search (rules, the_lemmas), (search rules, (grind (arith, comparable_by_not), grind (arith, passes_not))))

pub holds_by-returns-in-Match-clause-truth : goal.holds_by-returns-in-Match-clause-truth
holds_by-returns-in-Match-clause-truth g t c =
    let state = present (g.S.Store.history c.args.store.now) in
    c.is_matched.ensures.found
    ∙ sym (ap (λ k. truth_by c.args.dictionary.now k state c.args.code) c.in-Match.is
    ∙ truth_by_match c.args.dictionary.now c.in-Match.matching state c.args.code)

pub holds_by-returns-in-CompareTexts-clause-truth : goal.holds_by-returns-in-CompareTexts-clause-truth
holds_by-returns-in-CompareTexts-clause-truth g t c =
    let state = present (g.S.Store.history c.args.store.now) in
    c.are_texts_met.ensures
    ∙ sym (ap (λ k. truth_by c.args.dictionary.now k state c.args.code) c.in-CompareTexts.is
    ∙ truth_by_compare_texts c.args.dictionary.now c.in-CompareTexts.comparison state c.args.code)

pub holds_by-returns-in-MatchText-clause-truth : goal.holds_by-returns-in-MatchText-clause-truth
holds_by-returns-in-MatchText-clause-truth g t c =
    let state = present (g.S.Store.history c.args.store.now) in
    c.is_text_matched.ensures.found
    ∙ sym (ap (λ k. truth_by c.args.dictionary.now k state c.args.code) c.in-MatchText.is
    ∙ truth_by_match_text c.args.dictionary.now c.in-MatchText.matching state c.args.code)

pub holds_by-returns-in-MatchGroup-clause-truth : goal.holds_by-returns-in-MatchGroup-clause-truth
holds_by-returns-in-MatchGroup-clause-truth g t c =
    let state = present (g.S.Store.history c.args.store.now) in
    c.is_empty_group_matched.ensures.found
    ∙ sym (ap (λ k. truth_by c.args.dictionary.now k state c.args.code) c.in-MatchGroup.is
    ∙ truth_by_match_group c.args.dictionary.now c.in-MatchGroup.matching state c.args.code)
