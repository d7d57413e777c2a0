-- The run of a job is that of a prepared policy over the job's request.
use Rattle.std.proofs.Common.{◌≡◌, ◌∙◌, ℕ, ◌⊎◌, inl, inr, true, List, Option, Some, None, Ok, sym, ap, subst}
use Rattle.std.specs.Option.{option_map}
use Rattle.avp_dict.specs.Dictionary.{Dictionary}
use Rattle.avp_dict.specs.Sent.{is_clean}
use Rattle.avp_forms.specs.declared.profiles.Profile.{Profile}
use Rattle.avp_step.specs.Walk.{walk_from}
use Rattle.radpolicy.specs.Faults.{MemoryOr}
use Rattle.radpolicy.specs.JobReports.{IsOpened, IsPolicy, IsPolicyRefusal, IsRefusedAsPolicy, IsRequestOrReplyRefusal, IsRunReport, IsScript, IsScriptOrRequestRefusal, IsStepReport, opened, policy_of, profile_for, report_of_run, run_of, script_of, step_report}
use Rattle.radpolicy.specs.Received.{IsUnreadRequest, request_for}
use Rattle.radpolicy.specs.Replies.{proxy_states}
use Rattle.radpolicy.specs.ReplyMeaning.{IsRunRead, ReplyIsRead}
use Rattle.radpolicy.specs.Reports.{Report}
use Rattle.radpolicy.specs.RunOutcomes.{OutcomeIsRead, outcome_of, outcome_report}
use Rattle.radpolicy.specs.Scripts.{IsUnknownWord, script_spelled}
use Rattle.radpolicy.specs.Starts.{Prepared, Start, entry_of, start_of}
use Rattle.radpolicy.specs.declared.faults.Fault.{Fault}
use Rattle.radpolicy.specs.declared.faults.Fault.TheVariants as fault
use Rattle.radpolicy.specs.declared.jobs.Job.{Job}
use Rattle.radpolicy.specs.declared.scripts.ScriptWord.{ScriptWord}
use Rattle.radpolicy.proofs.PreparedRuns.{report_of_outcome}
use Rattle.radpolicy.proofs.Replying.{none_clean}

module _ (job : Job) (d : Dictionary) (secret : Option (List ℕ)) (opens : IsOpened job (opened d secret)) where
  -- a text that is refused as a policy is a refused policy of the job
  pub policy_refusal : (f : Fault) → MemoryOr (IsRefusedAsPolicy d (policy_of job)) f → MemoryOr (IsPolicyRefusal job) f
  policy_refusal f (inl memory) = inl memory
  policy_refusal f (inr is) = inr (record { opened = opened d secret; opens = opens; refused = is })

  module _ (prepared : Prepared) (same : prepared.dictionary ≡ d) (policy : IsPolicy job d prepared.statements) where
    pub script_refused : (f : Fault) → (f ≡ fault.Memory) ⊎ IsUnknownWord f (script_spelled (script_of job)) → MemoryOr (λ g. IsPolicyRefusal job g ⊎ IsScriptOrRequestRefusal job g) f
    script_refused f (inl memory) = inl memory
    script_refused f (inr is) = inr (inr (record { opened = opened d secret; statements = prepared.statements; opens = opens; policy = policy; fault = inl is }))

    own_request : (f : Fault) → IsUnreadRequest prepared.dictionary job f (request_for prepared.dictionary secret job) → IsUnreadRequest d job f (request_for d secret job)
    own_request f is = subst (λ (own : Dictionary). IsUnreadRequest own job f (request_for own secret job)) same is

    pub walk_request_refused : (script : List ScriptWord) → IsScript job script → (f : Fault) → (f ≡ fault.Memory) ⊎ IsUnreadRequest prepared.dictionary job f (request_for prepared.dictionary secret job)
        → MemoryOr (λ g. IsPolicyRefusal job g ⊎ IsScriptOrRequestRefusal job g) f
    walk_request_refused script words f (inl memory) = inl memory
    walk_request_refused script words f (inr is) =
        inr (inr (record { opened = opened d secret; statements = prepared.statements; opens = opens; policy = policy; fault = inr (script, words, own_request f is) }))

    pub run_request_refused : (f : Fault) → (f ≡ fault.Memory) ⊎ IsUnreadRequest prepared.dictionary job f (request_for prepared.dictionary secret job) → MemoryOr (λ g. IsPolicyRefusal job g ⊎ IsRequestOrReplyRefusal job g) f
    run_request_refused f (inl memory) = inl memory
    run_request_refused f (inr is) = inr (inr (record { opened = opened d secret; statements = prepared.statements; opens = opens; policy = policy; fault = inl (own_request f is) }))

    module _ (start : Start) (is : start ≡ start_of prepared secret job.form start.request) (received : request_for prepared.dictionary secret job ≡ Ok start.request) (asked : prepared.profile ≡ profile_for job) where
      own_received : request_for d secret job ≡ Ok start.request
      own_received = subst (λ (own : Dictionary). request_for own secret job ≡ Ok start.request) same received

      pub walk_reported : (script : List ScriptWord) → IsScript job script → (report : Report) → step_report start.prepared.profile script (walk_from start.prepared.dictionary start.prepared.statements (entry_of start)) ≡ report → IsStepReport job report
      walk_reported script words report made = record {
        opened = opened d secret;
        statements = prepared.statements;
        script = script;
        request = start.request;
        opens = opens;
        policy = policy;
        words = words;
        received = own_received;
        made =
            sym made ∙ ap (λ (s : Start). step_report s.prepared.profile script (walk_from s.prepared.dictionary s.prepared.statements (entry_of s))) is
            ∙ ap (λ (own : Dictionary). step_report prepared.profile script (walk_from own prepared.statements (entry_of (start_of prepared secret job.form start.request)))) same
            ∙ ap (λ (p : Profile). step_report p script (walk_from d prepared.statements (entry_of (start_of prepared secret job.form start.request)))) asked;
      }

      outcome_reported : report_of_run (profile_for job) job.form (opened d secret) prepared.statements start.request ≡ option_map outcome_report (outcome_of start)
      outcome_reported =
          ap (λ (p : Profile). report_of_run p job.form (opened d secret) prepared.statements start.request) (sym asked)
          ∙ ap (λ (own : Dictionary). report_of_run prepared.profile job.form (opened own secret) prepared.statements start.request) (sym same)
          ∙ report_of_outcome prepared secret job.form start.request ∙ ap (λ (s : Start). option_map outcome_report (outcome_of s)) (sym is)

      pub run_reported : (report : Report) → option_map outcome_report (outcome_of start) ≡ Some report → IsRunReport job report
      run_reported report made = record {
        opened = opened d secret;
        statements = prepared.statements;
        request = start.request;
        opens = opens;
        policy = policy;
        received = own_received;
        made = outcome_reported ∙ made;
      }

      pub run_refused : (f : Fault) → MemoryOr (λ g. (g ≡ fault.PacketTooLong) × (outcome_of start ≡ None)) f → MemoryOr (λ g. IsPolicyRefusal job g ⊎ IsRequestOrReplyRefusal job g) f
      run_refused f (inl memory) = inl memory
      run_refused f (inr (long, none)) = inr (inr (record {
        opened = opened d secret;
        statements = prepared.statements;
        opens = opens;
        policy = policy;
        fault = inr (start.request, own_received, outcome_reported ∙ ap (option_map outcome_report) none, long);
      }))

      pub run_read : is_clean (proxy_states start.request) prepared.dictionary ≡ true
          → (is_clean start.reply start.prepared.dictionary ≡ true → is_clean (proxy_states start.request) start.prepared.dictionary ≡ true → OutcomeIsRead start) → IsRunRead job
      run_read proxies read =
          let reply : is_clean start.reply start.prepared.dictionary ≡ true = ap (λ (s : Start). is_clean s.reply s.prepared.dictionary) is ∙ none_clean prepared.dictionary in
          let clean : is_clean (proxy_states start.request) start.prepared.dictionary ≡ true = ap (λ (s : Start). is_clean (proxy_states start.request) s.prepared.dictionary) is ∙ proxies in
          let own : OutcomeIsRead (start_of prepared secret job.form start.request) = subst (λ (s : Start). OutcomeIsRead s) is (read reply clean) in
          record {
            opened = opened d secret;
            statements = prepared.statements;
            request = start.request;
            opens = opens;
            policy = policy;
            received = own_received;
            read =
                subst (λ (e : Dictionary). (key : List ℕ) → secret ≡ Some key → ReplyIsRead job.form e key start.request (run_of e prepared.statements start.request)) same own;
          }
