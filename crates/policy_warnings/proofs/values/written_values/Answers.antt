use Rattle.std.proofs.Common.{◌≡◌, ◌∙◌, ℕ, suc, ◌+◌, ◌-◌, List, ◌++◌, length, Option, sym, ap, arith}
use Rattle.avp_forms.specs.declared.profiles.Profile.{Profile}
use Rattle.avp_unlang.specs.Tokens.{token_in}
use Rattle.avp_unlang.specs.declared.text.tokens.Token.{Token}
use Rattle.policy_warnings.specs.WrittenValues.{token_warnings, written_values_from}
use Rattle.policy_warnings.specs.declared.warnings.Reason.{Reason}
use Rattle.policy_warnings.specs.declared.warnings.Warning.{Warning}
use Rattle.policy_warnings.proofs.TokenLines.{place, value_pushed}
use Rattle.policy_warnings.proofs.values.written_values.Goals as goal

pub loop-passed-preserved : goal.loop-passed-preserved
loop-passed-preserved c =
    let profile : Profile = c.profile_of-profile.result in
    let line : ℕ = c.loop-passed.line in
    let rest : List ℕ = c.loop-passed.rest.now in
    let start : List ℕ = c.first_token-found.result.start.now in
    let behind : List ℕ = c.first_token-found.result.rest.now in
    let token : Token = c.first_token-found.result.token in
    let name : Token = c.loop-passed.name in
    let before : Token = c.loop-passed.before in
    let at : ℕ = c.line_of-line.result in
    let old : List Warning = c.loop-passed.warnings.items in
    let n : ℕ = length c.args.text.now - (c.loop-passed.passed + 1) in
    let more : length c.args.text.now - c.loop-passed.passed ≡ suc n = omega (arith, c.loop-passed-test.true) in
    let token_is : (token, behind) ≡ token_in profile start = rw (c.first_token-found.ensures.start) c.first_token-found.ensures.token in
    let pushed_is = c.in_ok-push_token.ensures ∙ ap (λ (reason : Option Reason). old ++ token_warnings at reason token) c.written_reason-reason.ensures in
    record {
      warnings =
          value_pushed profile line rest start behind token at c.first_token-found.ensures.start token_is c.line_of-line.ensures.same c.args.dictionary.now n name before old
          c.push_token.new.warnings.items pushed_is
          ∙ ap (λ (k : ℕ). old ++ written_values_from k c.args.dictionary.now name before (place profile rest line)) (sym more) ∙ c.loop-passed.invariant.warnings;
      within = omega (arith, c.line_of-line.ensures.within, c.first_token-found.ensures.after, c.loop-passed.invariant.within);
    }
