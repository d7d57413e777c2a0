use Rattle.std.proofs.Common.{◌≡◌, true, Some, All, IfErr, IsTrue, subst, sym}
use Rattle.std.proofs.lemmas.List.Sums.{AllPass-from_list_all}
use Rattle.std.proofs.lemmas.Result.{IfOk-weaker}
use Rattle.avp_dict.specs.Limits.{fits}
use Rattle.avp_dict.specs.Requests.{pair_assigned, request_by}
use Rattle.avp_dict.specs.Sent.{is_clean, is_clean_pair}
use Rattle.avp_dict.proofs.Fitting.{request_passes}
use Rattle.avp_dict.specs.declared.request.faults.LineKind.TheVariants.{Memory}
use Rattle.avp_forms.specs.Requests.{IsOutOfMemoryIn, IsRefusedIn, pair_written}
use Rattle.avp_forms.specs.Targets.{target_of}
use Rattle.avp_forms.specs.declared.profiles.Profile.{Profile}
use Rattle.avp_forms.specs.declared.profiles.Profile.TheVariants.{Wider}
use Rattle.avp_forms.proofs.WrittenValues.{assigned_clean, pair_fits}
use Rattle.avp_forms.proofs.requests.read_request.Goals as goal

pub returns-in-Wider-clause-fits : goal.returns-in-Wider-clause-fits
returns-in-Wider-clause-fits c =
    let d = c.args.dictionary.now in
    let text = c.args.text.now in
    let one = pair_assigned (target_of Wider d) (pair_written c.args.zone d) in
    IfOk-weaker c.read_pairs.result (λ pairs. request_by one text ≡ Some pairs.items) (λ pairs. All (λ pair. IsTrue (fits pair d)) pairs.items)
    (λ pairs e. AllPass-from_list_all (λ pair. fits pair d) pairs.items
    (request_passes one (λ pair. fits pair d) (λ a. pair_fits d c.is_sound.ensures.sound (one a) (assigned_clean d c.is_sound.ensures.sound c.args.zone a)) text pairs.items e)) c.read_pairs.ensures.read

pub returns-in-Wider-clause-clean : goal.returns-in-Wider-clause-clean
unfolding is_clean
returns-in-Wider-clause-clean c =
    let d = c.args.dictionary.now in
    let text = c.args.text.now in
    let one = pair_assigned (target_of Wider d) (pair_written c.args.zone d) in
    IfOk-weaker c.read_pairs.result (λ pairs. request_by one text ≡ Some pairs.items) (λ pairs. is_clean pairs.items d ≡ true)
    (λ pairs e. request_passes one (is_clean_pair d) (λ a. assigned_clean d c.is_sound.ensures.sound c.args.zone a) text pairs.items e) c.read_pairs.ensures.read

pub returns-in-Plain-clause-place : goal.returns-in-Plain-clause-place
returns-in-Plain-clause-place c =
    subst (λ (profile : Profile). IfErr c.read_request.result (λ fault. IsRefusedIn profile c.args.zone c.args.dictionary.now c.args.text.now fault.kind fault.offset))
    (sym c.in-Plain.is) c.read_request.ensures.place

pub returns-in-Wider-clause-place : goal.returns-in-Wider-clause-place
returns-in-Wider-clause-place c =
    subst (λ (profile : Profile). IfErr c.read_pairs.result (λ fault. IsRefusedIn profile c.args.zone c.args.dictionary.now c.args.text.now fault.kind fault.offset))
    (sym c.in-Wider.is) c.read_pairs.ensures.place

pub returns-in-Plain-clause-memory : goal.returns-in-Plain-clause-memory
returns-in-Plain-clause-memory c =
    subst (λ (profile : Profile). IfErr c.read_request.result (λ fault. fault.kind ≡ Memory → IsOutOfMemoryIn profile c.args.zone c.args.dictionary.now c.args.text.now fault.offset))
    (sym c.in-Plain.is) c.read_request.ensures.memory

pub returns-in-Wider-clause-memory : goal.returns-in-Wider-clause-memory
returns-in-Wider-clause-memory c =
    subst (λ (profile : Profile). IfErr c.read_pairs.result (λ fault. fault.kind ≡ Memory → IsOutOfMemoryIn profile c.args.zone c.args.dictionary.now c.args.text.now fault.offset))
    (sym c.in-Wider.is) c.read_pairs.ensures.memory
