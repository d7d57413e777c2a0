use Rattle.std.proofs.Common.{sym, ap, ◌∙◌, subst, ℕ, Option, Some}
use Rattle.regex.specs.Bytes.{captures_haystack, matcher_pattern}
use Rattle.avp_patterns.specs.Matching.{IsWithin, groups_in}
use Rattle.avp_patterns.proofs.Searches.{captured, each_of_ten, not_captured, told}
use Rattle.avp_patterns.proofs.matchers.PatternMatcher.captures.Goals as goal

pub returns-in_err-captures-clause-found : goal.returns-in_err-captures-clause-found
returns-in_err-captures-clause-found c =
    c.from_residual.ensures
    ∙ sym (not_captured _ c.type_inv.octets _ _ c.self.invariant c.in_err-captures.ensures.found)
    ∙ ap (λ w. groups_in w c.args.octets.now) c.self.view_is

pub returns-clause-found : goal.returns-clause-found
returns-clause-found c =
    let found = c.in_ok-captures.ensures.found in
    rw (
      c.span_in.ensures.span,
      c.span_in-2.ensures.span,
      c.span_in-3.ensures.span,
      c.span_in-4.ensures.span,
      c.span_in-5.ensures.span,
      c.span_in-6.ensures.span,
      c.span_in-7.ensures.span,
      c.span_in-8.ensures.span,
      c.span_in-9.ensures.span,
      c.span_in-10.ensures.span,
    )
    (ap Some (told _ c.type_inv.octets (matcher_pattern c.self.inside.matcher) c.in_ok-captures.captures found.0 found.2)
    ∙ sym (captured _ c.type_inv.octets _ _ c.self.invariant found.0 found.1)
    ∙ ap (λ w. groups_in w c.args.octets.now) c.self.view_is)

pub returns-clause-within : goal.returns-clause-within
returns-clause-within c =
    let within : (s : Option (ℕ × ℕ)) → IsWithin (captures_haystack c.in_ok-captures.captures) s → IsWithin c.args.octets.now s =
    λ s h. subst (λ os. IsWithin os s) c.in_ok-captures.ensures.found.2.0 h in
    each_of_ten (IsWithin c.args.octets.now)
    c.span_in.result (within c.span_in.result c.span_in.ensures.within)
    c.span_in-2.result (within c.span_in-2.result c.span_in-2.ensures.within)
    c.span_in-3.result (within c.span_in-3.result c.span_in-3.ensures.within)
    c.span_in-4.result (within c.span_in-4.result c.span_in-4.ensures.within)
    c.span_in-5.result (within c.span_in-5.result c.span_in-5.ensures.within)
    c.span_in-6.result (within c.span_in-6.result c.span_in-6.ensures.within)
    c.span_in-7.result (within c.span_in-7.result c.span_in-7.ensures.within)
    c.span_in-8.result (within c.span_in-8.result c.span_in-8.ensures.within)
    c.span_in-9.result (within c.span_in-9.result c.span_in-9.ensures.within)
    c.span_in-10.result (within c.span_in-10.result c.span_in-10.ensures.within)
