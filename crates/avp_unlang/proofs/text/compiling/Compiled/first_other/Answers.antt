use Rattle.std.proofs.Common.{suc, ap, sym, ◌∙◌, List, ℕ}
use Rattle.avp_forms.specs.declared.profiles.Profile.TheVariants.{Wider}
use Rattle.avp_unlang.specs.Faults.{from_token}
use Rattle.avp_unlang.specs.Tokens.{token_in}
use Rattle.avp_unlang.proofs.text.compiling.Compiled.first_other.Goals as goal

pub loop-start-preserved : goal.loop-start-preserved
loop-start-preserved c =
    let rest = ap (λ found. from_token found.1) (sym c.token_in-token.ensures.same) in
    let next = ap (λ (start : List ℕ). from_token (token_in Wider start).1) c.loop-start.invariant.1 in
    (suc c.loop-start.invariant.0, next ∙ rest ∙ sym c.from_token-start-in-loop-start.ensures.same)
