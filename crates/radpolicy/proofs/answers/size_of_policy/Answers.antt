use Rattle.std.proofs.Common.{◌≡◌, ◌≢◌, ◌∙◌, ℕ, List, [], Option, None, Some, ap, subst, sym}
use Rattle.std.specs.Option.{unwrap_or}
use Rattle.avp_unlang.specs.Policies.{SpellsPolicy}
use Rattle.radpolicy.specs.JobReports.{IsPolicy, IsSizeOf, policy_of}
use Rattle.radpolicy.proofs.Refusals.{Told, checked_refused}
use Rattle.radpolicy.proofs.answers.size_of_policy.Goals as goal

pub returns-in-Err-clause-refused : goal.returns-in-Err-clause-refused
returns-in-Err-clause-refused c =
    let d = c.args.dictionary.now in
    let is : c.args.job.now.policy ≡ Some c.in-Some.text = c.in-Some.is in
    let given : c.args.job.now.policy ≢ None = λ e. let both : Some c.in-Some.text ≡ None = sym is ∙ e in cc in
    let same = ap (λ (p : Option (List ℕ)). unwrap_or p []) is ∙ sym c.as_slice.ensures in
    let told : Told d (policy_of c.args.job.now) c.in-Err.fault = subst (λ (os : List ℕ). Told d os c.in-Err.fault) (sym same) (record {
      refused = c.in-Err.ensures.read;
      first = c.in-Err.ensures.refused;
      within = c.in-Err.ensures.within;
      token = c.in-Err.ensures.token;
      line = c.in-Err.ensures.line;
    }) in
    rw c.from.ensures (checked_refused c.args.job.now c.in-Err.fault d c.requires given told)

pub returns-in-Ok-clause-ok : goal.returns-in-Ok-clause-ok
returns-in-Ok-clause-ok c =
    let d = c.args.dictionary.now in
    let is : c.args.job.now.policy ≡ Some c.in-Some.text = c.in-Some.is in
    let same : c.as_slice.result.now ≡ unwrap_or c.args.job.now.policy [] = c.as_slice.ensures ∙ sym (ap (λ (p : Option (List ℕ)). unwrap_or p []) is) in
    let spelled : IsPolicy c.args.job.now d c.in-Ok.policy = subst (λ (os : List ℕ). SpellsPolicy d os c.in-Ok.policy) same c.in-Ok.ensures.read in
    subst (λ (p : Option (List ℕ)). IsSizeOf p c.args.job.now d (Some c.size.result)) (sym is)
    (c.in-Ok.policy, spelled, ap (λ (n : ℕ). Some n) c.size.ensures.count)
