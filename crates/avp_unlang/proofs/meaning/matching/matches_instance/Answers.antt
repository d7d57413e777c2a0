use Rattle.std.proofs.Common.{ap, ap₂, subst, sym, ◌∙◌}
use Rattle.avp_forms.specs.Expansions.{AreFew, expanded, has_few_digits, is_printed_by_type}
use Rattle.avp_patterns.specs.Matching.{matches}
use Rattle.avp_unlang.proofs.Comparing.{and_left, and_right}
use Rattle.avp_unlang.proofs.meaning.matching.matches_instance.Goals as goal

pub expansion_of-requires : goal.expansion_of-requires
expansion_of-requires c =
    let p = c.args.pair.now in
    and_right (has_few_digits p.value) (is_printed_by_type p.id p.value c.args.dictionary.now) c.requires.matchable

pub returns-in-Octets-clause-found : goal.returns-in-Octets-clause-found
returns-in-Octets-clause-found c =
    c.is_match.ensures.found
    ∙ ap₂ (λ text os. matches (record { text = text; flags = c.args.matching.now.flags }) os) c.as_slice-text.ensures
    (sym (ap expanded c.in-Octets.is) ∙ c.expansion_of.ensures.text)

pub matches_digits-requires-clause-length : goal.matches_digits-requires-clause-length
matches_digits-requires-clause-length c =
    let p = c.args.pair.now in
    subst AreFew c.in-Digits.is (c.expansion_of.ensures.digits (and_left (has_few_digits p.value) (is_printed_by_type p.id p.value c.args.dictionary.now) c.requires.matchable))

pub returns-in-Digits-clause-found : goal.returns-in-Digits-clause-found
returns-in-Digits-clause-found c =
    c.matches_digits.ensures.found
    ∙ ap₂ (λ text os. matches (record { text = text; flags = c.args.matching.now.flags }) os) c.as_slice-text.ensures
    (sym (ap expanded c.in-Digits.is) ∙ c.expansion_of.ensures.text)

pub returns-in-Short-clause-found : goal.returns-in-Short-clause-found
returns-in-Short-clause-found c =
    c.is_match-in-Short.ensures.found
    ∙ ap₂ (λ text os. matches (record { text = text; flags = c.args.matching.now.flags }) os) c.as_slice-text.ensures
    (c.as_slice.ensures.value ∙ sym (ap expanded c.in-Short.is) ∙ c.expansion_of.ensures.text)
