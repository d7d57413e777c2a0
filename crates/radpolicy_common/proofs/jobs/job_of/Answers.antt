use Rattle.std.proofs.Common.{◌≡◌, ℕ, List, Option, subst}
use Rattle.std.proofs.lemmas.Result.{err_from_is_err_and}
use Rattle.std.specs.Borrow.{Bor}
use Rattle.radpolicy.specs.declared.plans.Plan.{Plan}
use Rattle.radpolicy_common.specs.declared.files.Unread.{Unread}
use Rattle.radpolicy_common.specs.Inputs.{Contents, Input, AreRead, AreUnread, WhereKnown, files_of, inputs_of, named_file, request_of}
use Rattle.radpolicy_common.proofs.ReadInputs.{AllRead, fifth_of_five, first_of_five, fourth_of_five, read_files, read_one, second_of_five, third_of_five}
use Rattle.radpolicy_common.proofs.jobs.job_of.Goals as goal

abbrev dictionaries : Plan → Contents → List Input
dictionaries plan c = files_of c plan.dictionaries.items

abbrev request : Plan → Contents → List Input
request plan c = request_of c plan.command plan.request

abbrev policy : Plan → Contents → List Input
policy plan c = named_file c plan.policy

abbrev secret : Plan → Contents → List Input
secret plan c = named_file c plan.secret

abbrev script : Plan → Contents → List Input
script plan c = named_file c plan.script

-- the paths were lent from the plan
module _ (known : Option Contents) (plan : Plan) (paths : List (Bor (List ℕ))) (same : paths ≡ plan.dictionaries.items) where
  were_read : (octets : List (List ℕ)) → WhereKnown known (λ c. AreRead (files_of c paths) octets) → AllRead known (dictionaries plan)
  were_read octets read = read_files known (dictionaries plan) octets (subst (λ paths. WhereKnown known (λ c. AreRead (files_of c paths) octets)) same read)

  were_unread : (unread : Unread) → WhereKnown known (λ c. AreUnread (files_of c paths) unread) → WhereKnown known (λ c. AreUnread (dictionaries plan c) unread)
  were_unread unread u = subst (λ paths. WhereKnown known (λ c. AreUnread (files_of c paths) unread)) same u

pub returns-in_err-files-clause-unread : goal.returns-in_err-files-clause-unread
returns-in_err-files-clause-unread g c =
    let p = err_from_is_err_and c.from_residual.result c.from_residual.ensures.1 in
    let plan = c.args.plan.now in
    let known : Option Contents = g.I.Inputs.contents c.args.inputs.now in
    let unread : Unread = c.in_err-files.field-0.0 in
    let all : WhereKnown known (λ c'. AreUnread (inputs_of c' plan) unread) =
    first_of_five known (dictionaries plan) (request plan) (policy plan) (secret plan) (script plan) unread (were_unread known plan _ c.as_slice.ensures.value unread c.in_err-files.ensures.unread) in
    rw (p.1, p.2) all

pub returns-in_err-request-clause-unread : goal.returns-in_err-request-clause-unread
returns-in_err-request-clause-unread g c =
    let p = err_from_is_err_and c.from_residual-in_err-request.result c.from_residual-in_err-request.ensures.1 in
    let plan = c.args.plan.now in
    let known : Option Contents = g.I.Inputs.contents c.args.inputs.now in
    let unread : Unread = c.in_err-request.field-0.0 in
    let all : WhereKnown known (λ c'. AreUnread (inputs_of c' plan) unread) =
    second_of_five known (dictionaries plan) (request plan) (policy plan) (secret plan) (script plan) unread (were_read known plan _ c.as_slice.ensures.value _ c.in_ok-files.ensures.read) c.in_err-request.ensures.unread in
    rw (p.1, p.2) all

pub returns-in_err-policy-clause-unread : goal.returns-in_err-policy-clause-unread
returns-in_err-policy-clause-unread g c =
    let p = err_from_is_err_and c.from_residual-in_err-policy.result c.from_residual-in_err-policy.ensures.1 in
    let plan = c.args.plan.now in
    let known : Option Contents = g.I.Inputs.contents c.args.inputs.now in
    let unread : Unread = c.in_err-policy.field-0.0 in
    let all : WhereKnown known (λ c'. AreUnread (inputs_of c' plan) unread) =
    third_of_five known (dictionaries plan) (request plan) (policy plan) (secret plan) (script plan) unread (were_read known plan _ c.as_slice.ensures.value _ c.in_ok-files.ensures.read) (read_one known (request plan) _ c.in_ok-request.ensures.held) c.in_err-policy.ensures.unread in
    rw (p.1, p.2) all

pub returns-in_err-secret-clause-unread : goal.returns-in_err-secret-clause-unread
returns-in_err-secret-clause-unread g c =
    let p = err_from_is_err_and c.from_residual-in_err-secret.result c.from_residual-in_err-secret.ensures.1 in
    let plan = c.args.plan.now in
    let known : Option Contents = g.I.Inputs.contents c.args.inputs.now in
    let unread : Unread = c.in_err-secret.field-0.0 in
    let all : WhereKnown known (λ c'. AreUnread (inputs_of c' plan) unread) =
    fourth_of_five known (dictionaries plan) (request plan) (policy plan) (secret plan) (script plan) unread (were_read known plan _ c.as_slice.ensures.value _ c.in_ok-files.ensures.read) (read_one known (request plan) _ c.in_ok-request.ensures.held) (read_files known (policy plan) _ c.in_ok-policy.ensures.read) c.in_err-secret.ensures.unread in
    rw (p.1, p.2) all

pub returns-in_err-script-clause-unread : goal.returns-in_err-script-clause-unread
returns-in_err-script-clause-unread g c =
    let p = err_from_is_err_and c.from_residual-in_err-script.result c.from_residual-in_err-script.ensures.1 in
    let plan = c.args.plan.now in
    let known : Option Contents = g.I.Inputs.contents c.args.inputs.now in
    let unread : Unread = c.in_err-script.field-0.0 in
    let all : WhereKnown known (λ c'. AreUnread (inputs_of c' plan) unread) =
    fifth_of_five known (dictionaries plan) (request plan) (policy plan) (secret plan) (script plan) unread (were_read known plan _ c.as_slice.ensures.value _ c.in_ok-files.ensures.read) (read_one known (request plan) _ c.in_ok-request.ensures.held) (read_files known (policy plan) _ c.in_ok-policy.ensures.read) (read_files known (secret plan) _ c.in_ok-secret.ensures.read) c.in_err-script.ensures.unread in
    rw (p.1, p.2) all
