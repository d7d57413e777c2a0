-- The report of a run is the text of what it comes to.
use Rattle.std.proofs.Common.{◌≡◌, ◌∙◌, ℕ, inl, inr, List, Option, Some, None, Ok, Err, refl, sym, ap, subst, false}
use Rattle.std.specs.Prelude.{is_some}
use Rattle.std.specs.Option.{option_map, unwrap_or}
use Rattle.avp_packet.specs.declared.packets.Packet.{Packet}
use Rattle.avp_unlang.specs.Meaning.{Outcome as End}
use Rattle.avp_unlang.specs.declared.tree.Statement.{Statement}
use Rattle.radpolicy.specs.JobReports.{IsRequestOrReplyRefusal, IsRunReport, Opened, opened, profile_for, report_of_run, run_of}
use Rattle.radpolicy.specs.OutcomeReports.{IsOutcomeRefusal, IsOutcomeReport, prepared_for, start_by, start_for}
use Rattle.radpolicy.specs.Plans.{IsSound, Rules, RunRulesOf, asked_by_job}
use Rattle.radpolicy.specs.Received.{lines_for, lines_spelled, request_for, request_of}
use Rattle.radpolicy.specs.declared.heads.RequestKind.TheVariants as kind
use Rattle.radpolicy.specs.declared.jobs.Command.{Command}
use Rattle.radpolicy.specs.declared.jobs.Command.TheVariants.{Run}
use Rattle.radpolicy.specs.declared.jobs.Form.TheVariants as form
use Rattle.avp_lists.specs.Meets.{Finds}
use Rattle.avp_lists.specs.declared.pairs.Pair.{Pair}
use Rattle.avp_packet.specs.Outcomes.{is_memory_encoding}
use Rattle.avp_packet.specs.Packets.{access_request, accounting_request, zeros}
use Rattle.radpolicy.specs.declared.faults.Fault.{Fault}
use Rattle.radpolicy.specs.declared.jobs.Job.{Job}
use Rattle.radpolicy.specs.Replies.{Answer, Nothing, Sent, TooLong, answer_of}
use Rattle.radpolicy.specs.Reports.{Report, answer_line, run_report}
use Rattle.radpolicy.specs.RunOutcomes.{end_of, outcome_of, outcome_report, outcome_with, reply_of, sent_reply}
use Rattle.radpolicy.specs.Starts.{Prepared, Start, form_by, start_of}
use Rattle.radpolicy.specs.Faults.{MemoryOr, fault_of_encode}
use Rattle.radpolicy.specs.declared.faults.Fault.TheVariants as fault
use Rattle.radpolicy.specs.declared.replies.ReplyHead.{ReplyHead}
use Rattle.radpolicy.specs.declared.run_outcomes.Reply.{Reply}
use Rattle.radpolicy.specs.internal.ReplyHeads.{sent_by}
use Rattle.avp_packet.specs.declared.faults.EncodeFault.{EncodeFault}
use Rattle.avp_packet.specs.declared.faults.EncodeFault.TheVariants as encode
use Rattle.radpolicy.specs.declared.jobs.Form.{Form}

-- the line of what is sent is that of the answer
by_answer : (prepared : Prepared) (end : End) (answer : Answer) → option_map outcome_report (option_map (outcome_with prepared end) (reply_of answer)) ≡ option_map (run_report prepared.profile prepared.dictionary end) (answer_line answer)
by_answer prepared end Nothing = refl
by_answer prepared end (Sent octets) = refl
by_answer prepared end TooLong = refl

-- the report of a run is that of its outcome
pub report_of_outcome : (prepared : Prepared) (secret : Option (List ℕ)) (form : Form) (request : Packet) → report_of_run prepared.profile form (opened prepared.dictionary secret) prepared.statements request ≡ option_map outcome_report (outcome_of (start_of prepared secret form request))
report_of_outcome prepared None form request = refl
report_of_outcome prepared (Some secret) form request =
    let end = run_of prepared.dictionary prepared.statements request in
    sym (by_answer prepared end (answer_of form prepared.dictionary secret request end))

mapped : {A B : Type 0} (f : A → B) (o : Option A) (y : B) → option_map f o ≡ Some y → (x : A) × (o ≡ Some x) × (y ≡ f x)
mapped f None y e = absurd (cc)
mapped f (Some x) y e = (x, refl, cc)

-- ---- the start of a job's request

module _ (job : Job) where
  abbrev of_lines : ℕ → List Pair → Packet
  of_lines code pairs = record { code = code; id = job.identifier; authenticator = unwrap_or job.authenticator zeros; list = pairs }

  -- the packet of lines
  lines_are : (code : ℕ) (spelled : Option (List Pair)) (request : Packet) → lines_for code job spelled ≡ Ok request → (pairs : List Pair) × (of_lines code pairs ≡ request)
  lines_are code None request e = absurd (cc)
  lines_are code (Some pairs) request e = (pairs, cc)

  -- the start that is made of the job's packet or lines is the one of its request
  start_is : (f : Form) (prepared : Prepared) (secret : Option (List ℕ)) (request : Packet) → request_of f prepared.dictionary secret job ≡ Ok request → (f ≡ form.Accounting → job.authenticator ≡ None) → start_by f job prepared secret request ≡ start_of prepared secret f request
  start_is form.Hex prepared secret request received made = refl
  start_is form.Access prepared secret request received made =
      let lines = lines_are access_request (lines_spelled job.request prepared.dictionary) request received in
      subst (λ (r : Packet). start_by form.Access job prepared secret r ≡ start_of prepared secret form.Access r) lines.1 refl
  start_is form.Accounting prepared secret request received made =
      let lines = lines_are accounting_request (lines_spelled job.request prepared.dictionary) request received in
      let own : form_by kind.Accounting job.authenticator ≡ form.Accounting = ap (form_by kind.Accounting) (made refl) in
      subst (λ (r : Packet). start_by form.Accounting job prepared secret r ≡ start_of prepared secret form.Accounting r) lines.1
      (ap (λ (f : Form). start_of prepared secret f (of_lines accounting_request lines.0)) own)

  module _ (made : job.form ≡ form.Accounting → job.authenticator ≡ None) where
    outcome_is : (o : Opened) (statements : List Statement) (request : Packet) → request_for o.dictionary o.secret job ≡ Ok request
        → report_of_run (profile_for job) job.form o statements request ≡ option_map outcome_report (outcome_of (start_for job o statements request))
    outcome_is o statements request received =
        report_of_outcome (prepared_for job o statements) o.secret job.form request
        ∙ ap (λ (s : Start). option_map outcome_report (outcome_of s)) (sym (start_is job.form (prepared_for job o statements) o.secret request received made))

    -- the report of a job's run is the text of its outcome
    pub report_is_of_outcome : (report : Report) → IsRunReport job report → IsOutcomeReport job report
    report_is_of_outcome report is =
        let same = outcome_is is.opened is.statements is.request is.received in
        let found = mapped outcome_report (outcome_of (start_for job is.opened is.statements is.request)) report (sym same ∙ is.made) in
        record {
          opened = is.opened;
          statements = is.statements;
          request = is.request;
          outcome = found.0;
          opens = is.opens;
          policy = is.policy;
          received = is.received;
          ran = found.1;
          made = found.2;
        }

    -- the text of the outcome of a job's run is its report
    pub outcome_is_report : (report : Report) → IsOutcomeReport job report → IsRunReport job report
    outcome_is_report report is = record {
      opened = is.opened;
      statements = is.statements;
      request = is.request;
      opens = is.opens;
      policy = is.policy;
      received = is.received;
      made =
          outcome_is is.opened is.statements is.request is.received ∙ ap (option_map outcome_report) is.ran
          ∙ ap (λ (r : Report). Some r) (sym is.made);
    }

    -- where the run comes to nothing, the job is refused
    pub outcome_is_refused : (f : Fault) → IsOutcomeRefusal job f → IsRequestOrReplyRefusal job f
    outcome_is_refused f is = record {
      opened = is.opened;
      statements = is.statements;
      opens = is.opens;
      policy = is.policy;
      fault = inr (is.request, is.received, outcome_is is.opened is.statements is.request is.received ∙ ap (option_map outcome_report) is.none, is.fault);
    }

no_value : {A : Type 0} (o : Option A) → is_some o ≡ false → o ≡ None
no_value None e = refl
no_value (Some x) e = absurd (cc)

-- a sound job of `run` has no authenticator for the lines of an Accounting-Request
pub made_of_lines : (job : Job) → IsSound (asked_by_job job) → job.command ≡ Run → job.form ≡ form.Accounting → job.authenticator ≡ None
made_of_lines job sound is lines =
    let rules = subst (λ (c : Command). Rules c (asked_by_job job)) is sound.rules in
    let own = subst (λ (f : Form). RunRulesOf f (asked_by_job job).packet) lines rules.1 in
    no_value job.authenticator own

-- ---- what a run comes to, by where it ended and what is sent

module _ (start : Start) (head : Option ReplyHead) (end : End) (ended : end_of start ≡ end) (own : (e : End) → sent_by start.prepared.dictionary head e.code e.state.reply ≡ sent_reply start e) where
  outcome_by_end : (sent : Option Reply) → sent_by start.prepared.dictionary head end.code end.state.reply ≡ sent → outcome_of start ≡ option_map (outcome_with start.prepared end) sent
  outcome_by_end sent is =
      ap (λ (e : End). option_map (outcome_with start.prepared e) (sent_reply start e)) ended
      ∙ ap (option_map (outcome_with start.prepared end)) (sym (own end) ∙ is)

  pub outcome_sent : (sent : Reply) → sent_by start.prepared.dictionary head end.code end.state.reply ≡ Some sent → outcome_of start ≡ Some (outcome_with start.prepared end sent)
  outcome_sent sent is = outcome_by_end (Some sent) is

  pub outcome_refused : (f : EncodeFault) → Finds is_memory_encoding (Err f) (sent_by start.prepared.dictionary head end.code end.state.reply) → MemoryOr (λ g. (g ≡ fault.PacketTooLong) × (outcome_of start ≡ None)) (fault_of_encode f)
  outcome_refused encode.TooLong is = inr (refl, outcome_by_end None is)
  outcome_refused encode.Memory is = inl refl
