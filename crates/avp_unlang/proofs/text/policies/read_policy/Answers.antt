use Rattle.std.proofs.Common.{◌≢◌, ◌≤◌, ◌+◌, length, sym, ap, subst, ◌∙◌}
use Rattle.avp_forms.specs.Profiles.{profile_of}
use Rattle.avp_patterns.specs.declared.faults.PatternFault.TheVariants as pattern
use Rattle.avp_unlang.specs.Places.{start_of}
use Rattle.avp_unlang.specs.Policies.{IsRefusedPolicy}
use Rattle.avp_unlang.specs.RefusedPolicies.{StatementsFail}
use Rattle.avp_unlang.specs.declared.faults.PolicyKind.TheVariants as kinds
use Rattle.avp_unlang.proofs.TokenLengths.{after_within}
use Rattle.avp_unlang.proofs.text.policies.read_policy.Goals as goal

pub returns-in-Err-clause-read : goal.returns-in-Err-clause-read
returns-in-Err-clause-read c = subst (IsRefusedPolicy c.args.dictionary.now c.args.text.now) (sym c.placed.ensures.kind) c.in-Err.ensures.err

pub returns-in-Err-clause-refused : goal.returns-in-Err-clause-refused
returns-in-Err-clause-refused c = λ some small.
    let memory : c.in-Err.refusal.kind ≢ kinds.Memory = subst (λ k. k ≢ kinds.Memory) c.placed.ensures.kind some in
    let large : c.in-Err.refusal.kind ≢ kinds.Pattern pattern.TooLarge = subst (λ k. k ≢ kinds.Pattern pattern.TooLarge) c.placed.ensures.kind small in
    let token = c.in-Err.ensures.token memory in
    record {
      left = c.in-Err.refusal.left;
      fails =
          subst (λ k. StatementsFail (profile_of c.args.text.now) c.args.dictionary.now (start_of c.args.text.now) c.in-Err.refusal.left k) (sym c.placed.ensures.kind) (c.in-Err.ensures.refused memory large);
      placed =
          c.placed.ensures.place some (subst (λ l. l ≤ length c.args.text.now) (sym token.1) (after_within (profile_of c.args.text.now) token.0 c.args.text.now));
    }

pub returns-in-Err-clause-token : goal.returns-in-Err-clause-token
returns-in-Err-clause-token c = λ some.
    let memory : c.in-Err.refusal.kind ≢ kinds.Memory = subst (λ k. k ≢ kinds.Memory) c.placed.ensures.kind some in
    let token = c.in-Err.ensures.token memory in
    let within = subst (λ l. l ≤ length c.args.text.now) (sym token.1) (after_within (profile_of c.args.text.now) token.0 c.args.text.now) in
    (token.0, ap (λ l. c.placed.result.offset + l) (sym token.1) ∙ c.placed.ensures.place some within)
