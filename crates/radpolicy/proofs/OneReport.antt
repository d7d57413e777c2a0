-- A job has at most one report, and none if it is refused, but for a pattern that is too large.
use Rattle.std.proofs.Common.{◌≡◌, ◌∙◌, ◌≢◌, ◌⊎◌, ℕ, true, false, inl, inr, Option, Some, None, Result, Ok, Err, List, ap, ap₂, subst, sym, refl}
use Rattle.avp_dict.specs.Dictionary.{Dictionary}
use Rattle.avp_packet.specs.declared.packets.Packet.{Packet}
use Rattle.radpolicy.specs.declared.faults.Fault.{Fault}
use Rattle.radpolicy.specs.declared.faults.Fault.TheVariants as fault
use Rattle.radpolicy.specs.declared.jobs.Command.{Command}
use Rattle.radpolicy.specs.declared.jobs.Command.TheVariants.{Check, Decode, Encode, Run, Step}
use Rattle.radpolicy.specs.declared.jobs.Job.{Job}
use Rattle.radpolicy.specs.JobReports.{IsCheckRefusal, IsCheckReport, IsDictionaryRefusal, IsOpenRefusal, IsOpened, IsPacketRefusal, IsPacketReport, IsPolicy, IsReceived, IsRefused, IsRefusedAsPolicy, IsReport, IsRequestRefusal, IsRunRefusal, IsRunReport, IsScript, IsSizeOf, IsStepRefusal, IsStepReport, IsTooLargePattern, Opened, RefusalOf, ReportOf, decode_report, dictionary_for, encode_report, policy_of, profile_for, report_of_run, script_of, step_report, request_walk, opened}
use Rattle.radpolicy.specs.Received.{IsUnreadRequest, request_for}
use Rattle.radpolicy.specs.Reports.{Report, check_report}
use Rattle.radpolicy.specs.Scripts.{IsUnknownWord, script_spelled}
use Rattle.radpolicy.specs.Secrets.{secret_for}
use Rattle.radpolicy.specs.declared.scripts.ScriptWord.{ScriptWord}
use Rattle.avp_forms.specs.Profiles.{profile_of}
use Rattle.avp_forms.specs.declared.profiles.Profile.{Profile}
use Rattle.avp_forms.specs.declared.profiles.Profile.TheVariants.{Plain, Wider}
use Rattle.avp_patterns.specs.declared.faults.PatternFault.TheVariants as pattern
use Rattle.avp_unlang.specs.Policies.{IsRefusedPolicy, SpellsPolicy}
use Rattle.avp_unlang.specs.PolicyPatterns.{HasPatterns}
use Rattle.avp_unlang.specs.declared.faults.PolicyKind.{PolicyKind}
use Rattle.avp_unlang.specs.declared.faults.PolicyKind.TheVariants as policy
use Rattle.avp_unlang.specs.declared.tree.Statement.{Statement}
use Rattle.avp_unlang.specs.Sizes.{size_of}
use Rattle.avp_unlang.proofs.PlainPatterns.{plain_passes}
use Rattle.avp_unlang.proofs.StatementsOne.{one_policy}

the_ok : {A B : Type 0} (a b : A) (r : Result A B) → r ≡ Ok a → r ≡ Ok b → a ≡ b
the_ok a b r h g = cc

the_some : {A : Type 0} (a b : A) (o : Option A) → o ≡ Some a → o ≡ Some b → a ≡ b
the_some a b o h g = cc

not_both_ok : {A B : Type 0} (a : A) (b : B) (r : Result A B) → r ≡ Ok a → r ≡ Err b → ⊥
not_both_ok a b r h g = cc

not_both_some : {A : Type 0} (a : A) (o : Option A) → o ≡ Some a → o ≡ None → ⊥
not_both_some a o h g = cc

-- ---- what a job is made from

-- ---- a text that spells a policy is refused for a pattern that is too large alone

pub is_too_large : (k : PolicyKind) → (k ≡ policy.Pattern pattern.TooLarge) ⊎ (k ≢ policy.Pattern pattern.TooLarge)
is_too_large policy.NotValue = inr (λ e. cc)
is_too_large policy.TooLong = inr (λ e. cc)
is_too_large policy.Unknown = inr (λ e. cc)
is_too_large policy.NotWritable = inr (λ e. cc)
is_too_large policy.Unreadable = inr (λ e. cc)
is_too_large policy.Misplaced = inr (λ e. cc)
is_too_large policy.TooDeep = inr (λ e. cc)
is_too_large policy.TooLarge = inr (λ e. cc)
is_too_large policy.OtherType = inr (λ e. cc)
is_too_large policy.NotExpansion = inr (λ e. cc)
is_too_large (policy.Pattern pattern.Empty) = inr (λ e. cc)
is_too_large (policy.Pattern (pattern.NotUtf8 at)) = inr (λ e. cc)
is_too_large (policy.Pattern (pattern.Expansion at)) = inr (λ e. cc)
is_too_large (policy.Pattern (pattern.NotRead at)) = inr (λ e. cc)
is_too_large (policy.Pattern pattern.TooLarge) = inl refl
is_too_large (policy.Pattern pattern.Memory) = inr (λ e. cc)
is_too_large policy.Memory = inr (λ e. cc)

no_plain_pattern : (d : Dictionary) (text : List ℕ) (statements : List Statement) → profile_of text ≡ Plain → SpellsPolicy d text statements → HasPatterns statements → ⊥
no_plain_pattern d text statements plain spelled has =
    let both : true ≡ false = sym (plain_passes d text statements plain spelled) ∙ has in cc

has_wider_profile : (d : Dictionary) (text : List ℕ) (profile : Profile) → profile_of text ≡ profile → (statements : List Statement) → SpellsPolicy d text statements → HasPatterns statements → profile_of text ≡ Wider
has_wider_profile d text Plain is statements spelled has = absurd (no_plain_pattern d text statements is spelled has)
has_wider_profile d text Wider is statements spelled has = is

of_kind : (d : Dictionary) (text : List ℕ) (k : PolicyKind) → k ≢ policy.Memory → IsRefusedPolicy d text k → (statements : List Statement) → SpellsPolicy d text statements → (profile_of text ≡ Wider) × (k ≡ policy.Pattern pattern.TooLarge)
of_kind d text k some refused statements spelled = elim (is_too_large k) [
  | inl large ↦
      let own = refused.compiled large in
      (has_wider_profile d text (profile_of text) refl own.0 own.1 own.2, large)
  | inr other ↦ absurd (refused.unspelled some other statements spelled)
]

policy_not : (job : Job) (d : Dictionary) (statements : List Statement) (f : Fault) → IsPolicy job d statements → IsRefusedAsPolicy d (policy_of job) f → IsTooLargePattern job f
policy_not job d statements (fault.Policy f) spelled refused = of_kind d (policy_of job) f.kind refused.some refused.refused statements spelled
policy_not job d statements _ spelled refused = absurd refused

module _ (job : Job) where
  one_opened : (a b : Opened) → IsOpened job a → IsOpened job b → a ≡ b
  one_opened a b h g =
      let dictionary = the_ok a.dictionary b.dictionary (dictionary_for job) h.dictionary g.dictionary in
      let secret = the_some a.secret b.secret (secret_for job) h.secret g.secret in
      ap₂ opened dictionary secret

  one_statements : (d : Dictionary) (a b : List Statement) → IsPolicy job d a → IsPolicy job d b → a ≡ b
  one_statements d a b h g = one_policy d (policy_of job) a b h g

  one_request : (o : Opened) (a b : Packet) → IsReceived job o a → IsReceived job o b → a ≡ b
  one_request o a b h g = the_ok a b (request_for o.dictionary o.secret job) h g

  -- ---- one report

  run_of_other : (o : Opened) (a : Report) (h : IsRunReport job a) → h.opened ≡ o → (statements : List Statement) × (request : Packet) × IsPolicy job o.dictionary statements × IsReceived job o request × (report_of_run (profile_for job) job.form o statements request ≡ Some a)
  run_of_other o a h e = subst (λ (p : Opened). (statements : List Statement) × (request : Packet) × IsPolicy job p.dictionary statements × IsReceived job p request × (report_of_run (profile_for job) job.form p statements request ≡ Some a)) e (h.statements, h.request, h.policy, h.received, h.made)

  one_run_report : (a b : Report) → IsRunReport job a → IsRunReport job b → a ≡ b
  one_run_report a b h g =
      let o = g.opened in
      let r = run_of_other o a h (one_opened h.opened o h.opens g.opens) in
      let statements = one_statements o.dictionary r.0 g.statements r.2 g.policy in
      let request = one_request o r.1 g.request r.3 g.received in
      let same = ap (λ s. report_of_run (profile_for job) job.form o s r.1) statements ∙ ap (report_of_run (profile_for job) job.form o g.statements) request in
      the_some a b (report_of_run (profile_for job) job.form o g.statements g.request) (sym same ∙ r.4) g.made

  module _ (made_of : Opened → Packet → Option Report) where
    packet_of_other : (o : Opened) (a : Report) (h : IsPacketReport made_of job a) → h.opened ≡ o → (request : Packet) × IsReceived job o request × (made_of o request ≡ Some a)
    packet_of_other o a h e = subst (λ (p : Opened). (request : Packet) × IsReceived job p request × (made_of p request ≡ Some a)) e (h.request, h.received, h.made)

    one_packet_report : (a b : Report) → IsPacketReport made_of job a → IsPacketReport made_of job b → a ≡ b
    one_packet_report a b h g =
        let o = g.opened in
        let r = packet_of_other o a h (one_opened h.opened o h.opens g.opens) in
        let request = one_request o r.0 g.request r.1 g.received in
        the_some a b (made_of o g.request) (sym (ap (made_of o) request) ∙ r.2) g.made

  one_size : (policy : Option (List ℕ)) (d : Dictionary) (a b : Option ℕ) → IsSizeOf policy job d a → IsSizeOf policy job d b → a ≡ b
  one_size None d a b h g = h ∙ sym g
  one_size (Some text) d a b h g =
      let statements = one_policy d _ h.0 g.0 h.1 g.1 in
      h.2 ∙ ap (λ s. Some (size_of s)) statements ∙ sym g.2

  one_check_report : (a b : Report) → IsCheckReport job a → IsCheckReport job b → a ≡ b
  one_check_report a b h g =
      let same = the_ok h.dictionary g.dictionary (dictionary_for job) h.read g.read in
      let size = one_size job.policy g.dictionary h.size g.size (subst (λ (d : Dictionary). IsSizeOf job.policy job d h.size) same h.policy) g.policy in
      h.text ∙ ap₂ (λ d n. check_report job.files d n) same size ∙ sym g.text

  step_of_other : (o : Opened) (a : Report) (h : IsStepReport job a) → h.opened ≡ o → (statements : List Statement) × (request : Packet) × IsPolicy job o.dictionary statements × IsReceived job o request × (a ≡ step_report (profile_for job) h.script (request_walk o.dictionary statements request))
  step_of_other o a h e = subst (λ (p : Opened). (statements : List Statement) × (request : Packet) × IsPolicy job p.dictionary statements × IsReceived job p request × (a ≡ step_report (profile_for job) h.script (request_walk p.dictionary statements request))) e (h.statements, h.request, h.policy, h.received, h.made)

  one_step_report : (a b : Report) → IsStepReport job a → IsStepReport job b → a ≡ b
  one_step_report a b h g =
      let o = g.opened in
      let r = step_of_other o a h (one_opened h.opened o h.opens g.opens) in
      let statements = one_statements o.dictionary r.0 g.statements r.2 g.policy in
      let request = one_request o r.1 g.request r.3 g.received in
      let script = the_ok h.script g.script (script_spelled (script_of job)) h.words g.words in
      r.4 ∙ ap (λ w. step_report (profile_for job) w (request_walk o.dictionary r.0 r.1)) script ∙ ap (λ s. step_report (profile_for job) g.script (request_walk o.dictionary s r.1)) statements
      ∙ ap (λ q. step_report (profile_for job) g.script (request_walk o.dictionary g.statements q)) request ∙ sym g.made

  one_report_of : (command : Command) (a b : Report) → ReportOf command job a → ReportOf command job b → a ≡ b
  one_report_of Run a b h g = one_run_report a b h g
  one_report_of Check a b h g = one_check_report a b h g
  one_report_of Encode a b h g = one_packet_report encode_report a b h g
  one_report_of Decode a b h g = one_packet_report decode_report a b h g
  one_report_of Step a b h g = one_step_report a b h g

  -- ---- no report of a refused job

  dictionary_read : (d : Dictionary) (f : Fault) → dictionary_for job ≡ Ok d → IsDictionaryRefusal job f → ⊥
  dictionary_read d (fault.Dictionary g) read refused = not_both_ok d g (dictionary_for job) read refused
  dictionary_read d _ read refused = refused

  opened_not : (o : Opened) (f : Fault) → IsOpened job o → IsOpenRefusal job f → ⊥
  opened_not o f h (inl refused) = dictionary_read o.dictionary f h.dictionary refused
  opened_not o f h (inr refused) = not_both_some o.secret (secret_for job) h.secret refused.secret

  request_read : (o : Opened) (request : Packet) (f : Fault) → IsReceived job o request → IsRequestRefusal job o f → ⊥
  request_read o request f h refused = subst (IsUnreadRequest o.dictionary job f) h refused

  run_not : (report : Report) (f : Fault) → IsRunReport job report → IsRunRefusal job f → IsTooLargePattern job f
  run_not report f h (inl refused) = absurd (opened_not h.opened f h.opens refused)
  run_not report f h (inr (inl refused)) =
      let r = run_of_other refused.opened report h (one_opened h.opened refused.opened h.opens refused.opens) in
      policy_not job refused.opened.dictionary r.0 f r.2 refused.refused
  run_not report f h (inr (inr refused)) = absurd (by_fault refused.fault)
    where
      o : Opened
      o = refused.opened

      r : (statements : List Statement) × (request : Packet) × IsPolicy job o.dictionary statements × IsReceived job o request × (report_of_run (profile_for job) job.form o statements request ≡ Some report)
      r = run_of_other o report h (one_opened h.opened o h.opens refused.opens)

      by_fault : (IsRequestRefusal job o f ⊎ ((request : Packet) × IsReceived job o request × (report_of_run (profile_for job) job.form o refused.statements request ≡ None) × (f ≡ fault.PacketTooLong))) → ⊥
      by_fault (inl unread) = request_read o r.1 f r.3 unread
      by_fault (inr long) =
          let statements = one_statements o.dictionary r.0 refused.statements r.2 refused.policy in
          let request = one_request o r.1 long.0 r.3 long.1 in
          let same = ap (λ s. report_of_run (profile_for job) job.form o s r.1) statements ∙ ap (report_of_run (profile_for job) job.form o refused.statements) request in
          not_both_some report (report_of_run (profile_for job) job.form o refused.statements long.0) (sym same ∙ r.4) long.2

  step_not : (report : Report) (f : Fault) → IsStepReport job report → IsStepRefusal job f → IsTooLargePattern job f
  step_not report f h (inl refused) = absurd (opened_not h.opened f h.opens refused)
  step_not report f h (inr (inl refused)) =
      let r = step_of_other refused.opened report h (one_opened h.opened refused.opened h.opens refused.opens) in
      policy_not job refused.opened.dictionary r.0 f r.2 refused.refused
  step_not report f h (inr (inr refused)) = absurd (by_fault refused.fault)
    where
      o : Opened
      o = refused.opened

      by_fault : (IsUnknownWord f (script_spelled (script_of job)) ⊎ ((script : List ScriptWord) × IsScript job script × IsRequestRefusal job o f)) → ⊥
      by_fault (inl unknown) = subst (IsUnknownWord f) h.words unknown
      by_fault (inr unread) =
          let r = step_of_other o report h (one_opened h.opened o h.opens refused.opens) in
          request_read o r.1 f r.3 unread.2

  packet_not : (made_of : Opened → Packet → Option Report) (report : Report) (f : Fault) → IsPacketReport made_of job report → IsPacketRefusal made_of job f → IsTooLargePattern job f
  packet_not made_of report f h (inl refused) = absurd (opened_not h.opened f h.opens refused)
  packet_not made_of report f h (inr refused) = absurd (by_fault refused.fault)
    where
      o : Opened
      o = refused.opened

      r : (request : Packet) × IsReceived job o request × (made_of o request ≡ Some report)
      r = packet_of_other made_of o report h (one_opened h.opened o h.opens refused.opens)

      by_fault : (IsRequestRefusal job o f ⊎ ((request : Packet) × IsReceived job o request × (made_of o request ≡ None) × (f ≡ fault.PacketTooLong))) → ⊥
      by_fault (inl unread) = request_read o r.0 f r.1 unread
      by_fault (inr long) =
          let request = one_request o r.0 long.0 r.1 long.1 in
          not_both_some report (made_of o long.0) (sym (ap (made_of o) request) ∙ r.2) long.2

  spelled_by : (policy : Option (List ℕ)) (d : Dictionary) (size : Option ℕ) → policy ≢ None → IsSizeOf policy job d size → (statements : List Statement) × IsPolicy job d statements
  spelled_by None d size given h = absurd (given refl)
  spelled_by (Some text) d size given h = (h.0, h.1)

  check_not : (report : Report) (f : Fault) → IsCheckReport job report → IsCheckRefusal job f → IsTooLargePattern job f
  check_not report f h (inl refused) = absurd (dictionary_read h.dictionary f h.read refused)
  check_not report f h (inr refused) =
      let same = the_ok h.dictionary refused.dictionary (dictionary_for job) h.read refused.read in
      let spelled = spelled_by job.policy refused.dictionary h.size refused.given (subst (λ (d : Dictionary). IsSizeOf job.policy job d h.size) same h.policy) in
      policy_not job refused.dictionary spelled.0 f spelled.1 refused.refused

  not_both_of : (command : Command) (report : Report) (f : Fault) → ReportOf command job report → RefusalOf command job f → IsTooLargePattern job f
  not_both_of Run report f h refused = run_not report f h refused
  not_both_of Check report f h refused = check_not report f h refused
  not_both_of Encode report f h refused = packet_not encode_report report f h refused
  not_both_of Decode report f h refused = packet_not decode_report report f h refused
  not_both_of Step report f h refused = step_not report f h refused

pub one_report : (job : Job) (a b : Report) → IsReport job a → IsReport job b → a ≡ b
one_report job a b = one_report_of job job.command a b

pub not_both : (job : Job) (report : Report) (f : Fault) → IsReport job report → IsRefused job f → IsTooLargePattern job f
not_both job report f = not_both_of job job.command report f
