-- The run over a record's request, by what it begins with.
use Rattle.std.proofs.Common.{◌≡◌, ◌∙◌, List, ℕ, Option, None, Some, Result, Ok, Err, refl, sym, ap}
use Rattle.avp_step.specs.Trace.{trace_of}
use Rattle.avp_step.specs.Walk.{Walk, walk_from}
use Rattle.radpolicy.specs.Starts.{Prepared, Start, entry_of}
use Rattle.radpolicy.specs.declared.faults.Fault.{Fault}
use Rattle.radpolicy_record_answers.specs.RecordLines.{request_trace, run_trace}
use Rattle.radpolicy_record_answers.specs.Requests.{started}
use Rattle.radpolicy_record_answers.specs.declared.answers.RecordFault.{RecordFault}
use Rattle.radpolicy_record_answers.specs.declared.requests.RecordRequest.{RecordRequest}
use Rattle.radpolicy_record_answers.specs.declared.requests.RecordSecret.{RecordSecret}

pub ran : (prepared : Prepared) (secret : Option (List ℕ)) (request : RecordRequest) (start : Start) (walk : Walk) → started prepared secret request ≡ Ok start → walk ≡ walk_from start.prepared.dictionary start.prepared.statements (entry_of start) → Some walk.trace ≡ run_trace (started prepared secret request)
ran prepared secret request start walk begun made =
    ap (λ (w : Walk). Some w.trace) made ∙ sym (ap run_trace begun)

pub not_begun : (prepared : Prepared) (secret : Option (List ℕ)) (request : RecordRequest) (f : Fault) → started prepared secret request ≡ Err f → None ≡ run_trace (started prepared secret request)
not_begun prepared secret request f refused = sym (ap run_trace refused)

pub no_request : (prepared : Prepared) (secret : RecordSecret) (f : RecordFault) → None ≡ request_trace prepared secret (Err f)
unfolding request_trace
no_request prepared _ f = refl
