use Rattle.std.proofs.Common.{◌≡◌, Bool, true, false, cond, not, refl, ap, ap₂, sym, ◌∙◌}
use Rattle.std.proofs.Math.Bool.{beq}
use Rattle.avp_patterns.specs.Matching.{matches}
use Rattle.avp_unlang.proofs.CapturedTexts.{captured_none}
use Rattle.avp_unlang.proofs.meaning.matching.is_empty_group_matched.Goals as goal

differs : (found negated : Bool) → not (beq found negated) ≡ cond negated (not found) found
differs true true = refl
differs true false = refl
differs false true = refl
differs false false = refl

pub returns-clause-found : goal.returns-clause-found
returns-clause-found c =
    let m = c.args.matching.now in
    differs c.is_match.result m.negated
    ∙ ap (λ b. cond m.negated (not b) b)
    (c.is_match.ensures.found ∙ ap₂ (λ text os. matches (record { text = text; flags = m.flags }) os) c.as_slice.ensures (sym (captured_none m.group)))
