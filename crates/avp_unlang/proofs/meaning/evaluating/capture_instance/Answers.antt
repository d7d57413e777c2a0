use Rattle.std.proofs.Common.{◌≤◌, ap, length, subst, sym, ◌∙◌}
use Rattle.avp_forms.specs.Expansions.{expanded, is_printed_by_type, is_short_enough, max_expansion}
use Rattle.avp_patterns.specs.Matching.{matches}
use Rattle.avp_unlang.specs.Captures.{captures_in}
use Rattle.avp_unlang.specs.PatternTruth.{pattern_in}
use Rattle.avp_unlang.proofs.Comparing.{and_left, and_right}
use Rattle.avp_unlang.proofs.KeptTexts.{few_of_digits}
use Rattle.avp_unlang.proofs.meaning.evaluating.capture_instance.Goals as goal

pub expansion_of-requires : goal.expansion_of-requires
expansion_of-requires c =
    let p = c.args.pair.now in
    and_right (is_short_enough p.value) (is_printed_by_type p.id p.value c.args.dictionary.now) c.requires.keepable

pub capture-requires-clause-length : goal.capture-requires-clause-length
capture-requires-clause-length c =
    let p = c.args.pair.now in
    subst (λ x. length (expanded x) ≤ max_expansion) c.in-Octets.is
    (c.expansion_of.ensures.length (and_left (is_short_enough p.value) (is_printed_by_type p.id p.value c.args.dictionary.now) c.requires.keepable))

pub returns-in-Octets-clause-found : goal.returns-in-Octets-clause-found
returns-in-Octets-clause-found c =
    c.capture.ensures.found ∙ ap (matches (pattern_in c.args.matching.now)) (sym (ap expanded c.in-Octets.is) ∙ c.expansion_of.ensures.text)

pub returns-in-Octets-clause-captures : goal.returns-in-Octets-clause-captures
returns-in-Octets-clause-captures c =
    c.capture.ensures.captures ∙ ap (captures_in (pattern_in c.args.matching.now)) (sym (ap expanded c.in-Octets.is) ∙ c.expansion_of.ensures.text)

pub capture_digits-requires-clause-length : goal.capture_digits-requires-clause-length
capture_digits-requires-clause-length c =
    let p = c.args.pair.now in
    few_of_digits c.in-Digits.octets.now (subst (λ x. length (expanded x) ≤ max_expansion) c.in-Digits.is
    (c.expansion_of.ensures.length (and_left (is_short_enough p.value) (is_printed_by_type p.id p.value c.args.dictionary.now) c.requires.keepable)))

pub returns-in-Digits-clause-found : goal.returns-in-Digits-clause-found
returns-in-Digits-clause-found c =
    c.capture_digits.ensures.found ∙ ap (matches (pattern_in c.args.matching.now)) (sym (ap expanded c.in-Digits.is) ∙ c.expansion_of.ensures.text)

pub returns-in-Digits-clause-captures : goal.returns-in-Digits-clause-captures
returns-in-Digits-clause-captures c =
    c.capture_digits.ensures.captures ∙ ap (captures_in (pattern_in c.args.matching.now)) (sym (ap expanded c.in-Digits.is) ∙ c.expansion_of.ensures.text)

pub capture-requires-in-Short-clause-length : goal.capture-requires-in-Short-clause-length
capture-requires-in-Short-clause-length c =
    let p = c.args.pair.now in
    subst (λ os. length os ≤ max_expansion) (sym c.as_slice.ensures.value)
    (subst (λ x. length (expanded x) ≤ max_expansion) c.in-Short.is
    (c.expansion_of.ensures.length (and_left (is_short_enough p.value) (is_printed_by_type p.id p.value c.args.dictionary.now) c.requires.keepable)))

pub returns-in-Short-clause-found : goal.returns-in-Short-clause-found
returns-in-Short-clause-found c =
    c.capture-in-Short.ensures.found
    ∙ ap (matches (pattern_in c.args.matching.now)) (c.as_slice.ensures.value ∙ sym (ap expanded c.in-Short.is) ∙ c.expansion_of.ensures.text)

pub returns-in-Short-clause-captures : goal.returns-in-Short-clause-captures
returns-in-Short-clause-captures c =
    c.capture-in-Short.ensures.captures
    ∙ ap (captures_in (pattern_in c.args.matching.now)) (c.as_slice.ensures.value ∙ sym (ap expanded c.in-Short.is) ∙ c.expansion_of.ensures.text)
