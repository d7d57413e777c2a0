use Rattle.std.proofs.Common.{◌≡◌, ◌≢◌, ◌+◌, sym, ap, subst, ◌∙◌, arith}
use Rattle.avp_forms.specs.Profiles.{profile_of}
use Rattle.avp_patterns.specs.declared.faults.PatternFault.TheVariants as pattern
use Rattle.avp_unlang.specs.CaptureUse.{uses_captures}
use Rattle.avp_unlang.specs.Places.{Place, start_of}
use Rattle.avp_unlang.specs.Policies.{IsRefusedPolicy}
use Rattle.avp_unlang.specs.PolicyPatterns.{is_among, none_passes, policy_patterns_pass}
use Rattle.avp_unlang.specs.RefusedPolicies.{StatementsFail}
use Rattle.avp_unlang.specs.Sizes.{size_of}
use Rattle.avp_unlang.specs.declared.faults.PolicyKind.TheVariants as kinds
use Rattle.avp_unlang.specs.declared.faults.Refusal.{Refusal}
use Rattle.avp_unlang.specs.internal.LeftTokens.{LeavesToken}
use Rattle.avp_unlang.proofs.PlainPatterns.{plain_passes}
use Rattle.avp_unlang.proofs.PolicyRoom.{policy_takes}
use Rattle.avp_unlang.proofs.ReachedStatements.{statements_told}
use Rattle.avp_unlang.proofs.RefusedPolicy.{end_fails, statements_fail}
use Rattle.avp_unlang.proofs.RefusedReads.{tells}
use Rattle.avp_unlang.proofs.SpelledSuits.{spelled_policy_suits}
use Rattle.avp_unlang.proofs.StatementsOne.{policy_ends, policy_goes_on, policy_refused}
use Rattle.avp_unlang.proofs.text.policies.policy_of.Goals as goal

pub returns-in_err-statements-clause-err : goal.returns-in_err-statements-clause-err
returns-in_err-statements-clause-err c =
    tells (λ (refusal : Refusal). IsRefusedPolicy c.args.dictionary.now c.args.text.now refusal.kind) _ _ c.from_residual.ensures.1 (record {
      compiled = λ large. absurd ((statements_told c.args.dictionary.now c.args.text.now c.in_err-statements.field-0.0.left c.in_err-statements.field-0.0.kind
          (statements_fail c.args.dictionary.now c.args.text.now c.profile_of-profile.result c.new.result c.profile_of-profile.ensures c.new.ensures c.in_err-statements.field-0.0.left c.in_err-statements.field-0.0.kind
          (c.in_err-statements.ensures.refused (λ memory. cc)))).1 large);
      unspelled = λ some small.
          policy_refused c.args.dictionary.now c.args.text.now c.profile_of-profile.result c.profile_of-profile.ensures c.new.result c.in_err-statements.field-0.0 c.new.ensures c.in_err-statements.ensures.read some;
    })

pub returns-in_err-statements-clause-refused : goal.returns-in_err-statements-clause-refused
returns-in_err-statements-clause-refused c =
    tells (λ (refusal : Refusal). refusal.kind ≢ kinds.Memory → refusal.kind ≢ kinds.Pattern pattern.TooLarge
    → StatementsFail (profile_of c.args.text.now) c.args.dictionary.now (start_of c.args.text.now) refusal.left refusal.kind) _ _ c.from_residual.ensures.1
    (λ some small. statements_fail c.args.dictionary.now c.args.text.now c.profile_of-profile.result c.new.result c.profile_of-profile.ensures c.new.ensures c.in_err-statements.field-0.0.left c.in_err-statements.field-0.0.kind
    (c.in_err-statements.ensures.refused some))

pub returns-in_err-statements-clause-token : goal.returns-in_err-statements-clause-token
returns-in_err-statements-clause-token c =
    tells (λ (refusal : Refusal). refusal.kind ≢ kinds.Memory → LeavesToken (profile_of c.args.text.now) refusal.left c.args.text.now) _ _ c.from_residual.ensures.1
    (λ some. (statements_told c.args.dictionary.now c.args.text.now c.in_err-statements.field-0.0.left c.in_err-statements.field-0.0.kind
    (statements_fail c.args.dictionary.now c.args.text.now c.profile_of-profile.result c.new.result c.profile_of-profile.ensures c.new.ensures c.in_err-statements.field-0.0.left c.in_err-statements.field-0.0.kind
    (c.in_err-statements.ensures.refused some))).0)

pub patterns_of-requires : goal.patterns_of-requires
patterns_of-requires c = λ plain.
    let spelled = policy_ends c.args.dictionary.now c.args.text.now c.profile_of-profile.result c.profile_of-profile.ensures c.new.result c.in_ok-statements.statements c.in_ok-statements.end c.token.result.now c.new.ensures c.in_ok-statements.ensures.read c.token.ensures c.in-End.is in
    ap (policy_patterns_pass none_passes) c.as_slice.ensures
    ∙ plain_passes c.args.dictionary.now c.args.text.now c.in_ok-statements.statements (sym c.profile_of-profile.ensures ∙ plain) spelled

pub overflow_sub-result : goal.overflow_sub-result
overflow_sub-result c =
    let size : c.in_ok-statements.end.room + size_of c.in_ok-statements.statements ≡ c.new.result.room =
    policy_takes c.profile_of-profile.result c.args.dictionary.now 65 c.new.result c.in_ok-statements.statements c.in_ok-statements.end c.in_ok-statements.ensures.read in
    let start : c.new.result.room ≡ 65535 = ap (λ (p : Place). p.room) c.new.ensures in
    omega (arith, c.room.ensures)

pub invariant_of-result : goal.invariant_of-result
invariant_of-result c =
    let size : c.in_ok-statements.end.room + size_of c.in_ok-statements.statements ≡ c.new.result.room =
    policy_takes c.profile_of-profile.result c.args.dictionary.now 65 c.new.result c.in_ok-statements.statements c.in_ok-statements.end c.in_ok-statements.ensures.read in
    let start : c.new.result.room ≡ 65535 = ap (λ (p : Place). p.room) c.new.ensures in (
      omega (arith, c.room.ensures),
      omega arith,
      ap (policy_patterns_pass (is_among c.in_ok-patterns-in-End.patterns.items)) (sym c.as_slice.ensures) ∙ c.in_ok-patterns-in-End.ensures.pass,
      c.uses_captures-captures.ensures ∙ ap uses_captures c.as_slice-in-End.ensures,
    )

pub returns-in_ok-patterns-in-End-clause-ok : goal.returns-in_ok-patterns-in-End-clause-ok
returns-in_ok-patterns-in-End-clause-ok c =
    policy_ends c.args.dictionary.now c.args.text.now c.profile_of-profile.result c.profile_of-profile.ensures c.new.result c.in_ok-statements.statements c.in_ok-statements.end c.token.result.now c.new.ensures c.in_ok-statements.ensures.read c.token.ensures c.in-End.is

pub returns-in_err-patterns-in-End-clause-err : goal.returns-in_err-patterns-in-End-clause-err
returns-in_err-patterns-in-End-clause-err c =
    let spelled = policy_ends c.args.dictionary.now c.args.text.now c.profile_of-profile.result c.profile_of-profile.ensures c.new.result c.in_ok-statements.statements c.in_ok-statements.end c.token.result.now c.new.ensures c.in_ok-statements.ensures.read c.token.ensures c.in-End.is in
    tells (λ (refusal : Refusal). IsRefusedPolicy c.args.dictionary.now c.args.text.now refusal.kind) _ _ c.from_residual-in_err-patterns-in-End.ensures.1 (record {
      compiled = λ large.
          let refused = c.in_err-patterns-in-End.ensures.refused (λ memory. cc) in
          (c.in_ok-statements.statements, spelled, ap (policy_patterns_pass none_passes) (sym c.as_slice.ensures) ∙ refused.1);
      unspelled = λ some small. absurd (small (c.in_err-patterns-in-End.ensures.refused some).0);
    })

pub returns-in_err-patterns-in-End-clause-refused : goal.returns-in_err-patterns-in-End-clause-refused
returns-in_err-patterns-in-End-clause-refused c =
    tells (λ (refusal : Refusal). refusal.kind ≢ kinds.Memory → refusal.kind ≢ kinds.Pattern pattern.TooLarge
    → StatementsFail (profile_of c.args.text.now) c.args.dictionary.now (start_of c.args.text.now) refusal.left refusal.kind) _ _ c.from_residual-in_err-patterns-in-End.ensures.1
    (λ some small. absurd (small (c.in_err-patterns-in-End.ensures.refused some).0))

pub returns-in_err-patterns-in-End-clause-token : goal.returns-in_err-patterns-in-End-clause-token
returns-in_err-patterns-in-End-clause-token c =
    tells (λ (refusal : Refusal). refusal.kind ≢ kinds.Memory → LeavesToken (profile_of c.args.text.now) refusal.left c.args.text.now) _ _ c.from_residual-in_err-patterns-in-End.ensures.1
    (λ some. subst (λ q. LeavesToken q c.in_err-patterns-in-End.field-0.0.left c.args.text.now) c.profile_of-profile.ensures (c.in_err-patterns-in-End.ensures.token some))

pub returns-in_default-clause-err : goal.returns-in_default-clause-err
returns-in_default-clause-err c =
    let fails =
    end_fails c.args.dictionary.now c.args.text.now c.profile_of-profile.result c.new.result c.profile_of-profile.ensures c.new.ensures c.in_ok-statements.statements c.in_ok-statements.end c.token.result.now
    c.in_ok-statements.ensures.read c.token.ensures c.in_default.not-End c.unfit.result.left c.unfit.result.kind c.unfit.ensures in
    record {
      compiled = λ large. absurd ((statements_told c.args.dictionary.now c.args.text.now c.unfit.result.left c.unfit.result.kind fails).1 large);
      unspelled = λ some small.
          policy_goes_on c.args.dictionary.now c.args.text.now c.profile_of-profile.result c.profile_of-profile.ensures c.new.result c.in_ok-statements.statements c.in_ok-statements.end c.token.result.now c.new.ensures c.in_ok-statements.ensures.read c.token.ensures c.in_default.not-End;
    }

pub returns-in_default-clause-refused : goal.returns-in_default-clause-refused
returns-in_default-clause-refused c = λ some small.
    end_fails c.args.dictionary.now c.args.text.now c.profile_of-profile.result c.new.result c.profile_of-profile.ensures c.new.ensures c.in_ok-statements.statements c.in_ok-statements.end c.token.result.now
    c.in_ok-statements.ensures.read c.token.ensures c.in_default.not-End c.unfit.result.left c.unfit.result.kind c.unfit.ensures

pub returns-in_default-clause-token : goal.returns-in_default-clause-token
returns-in_default-clause-token c = λ some.
    (statements_told c.args.dictionary.now c.args.text.now c.unfit.result.left c.unfit.result.kind
    (end_fails c.args.dictionary.now c.args.text.now c.profile_of-profile.result c.new.result c.profile_of-profile.ensures c.new.ensures c.in_ok-statements.statements c.in_ok-statements.end c.token.result.now
    c.in_ok-statements.ensures.read c.token.ensures c.in_default.not-End c.unfit.result.left c.unfit.result.kind c.unfit.ensures)).0

pub returns-in_ok-patterns-in-End-clause-suits : goal.returns-in_ok-patterns-in-End-clause-suits
returns-in_ok-patterns-in-End-clause-suits c =
    spelled_policy_suits c.args.dictionary.now c.is_sound.ensures.sound c.args.text.now c.in_ok-statements.statements
    (policy_ends c.args.dictionary.now c.args.text.now c.profile_of-profile.result c.profile_of-profile.ensures c.new.result c.in_ok-statements.statements c.in_ok-statements.end c.token.result.now c.new.ensures c.in_ok-statements.ensures.read c.token.ensures c.in-End.is)
