use Rattle.std.proofs.Common.{◌∙◌, ap, subst}
use Rattle.avp_patterns.proofs.Refusals.{refused_is_no_pattern}
use Rattle.avp_patterns.specs.Patterns.{IsRefused}
use Rattle.avp_unlang.specs.Conditions.{pattern_of, unslashed}
use Rattle.avp_unlang.proofs.text.patterns.pattern_text.Goals as goal

pub returns-in-Err-clause-err : goal.returns-in-Err-clause-err
returns-in-Err-clause-err c = λ some p.
    let w = pattern_of c.args.matcher.now in
    let text = c.deref.ensures.value ∙ c.in_ok-text.ensures ∙ ap unslashed c.as_slice.ensures in
    let refused = subst (λ t. IsRefused (record { text = t; flags = c.args.matcher.now.flags }) c.in-Err.fault) text c.in-Err.ensures.refused in
    refused_is_no_pattern w c.in-Err.fault refused (λ e. some (c.pattern_refusal.ensures.memory e)) c.in-Err.ensures.sure p
