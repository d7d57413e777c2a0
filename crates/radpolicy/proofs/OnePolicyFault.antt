-- A job is refused for one fault of its policy at most.
use Rattle.std.proofs.Common.{◌≡◌, ◌≢◌, ◌∙◌, ℕ, inl, inr, List, Option, Result, Ok, Err, ap, subst, sym, take}
use Rattle.avp_dict.specs.Dictionary.{Dictionary}
use Rattle.avp_dict.specs.LineNumbers.{line_after}
use Rattle.avp_packet.specs.declared.packets.Packet.{Packet}
use Rattle.avp_patterns.specs.declared.faults.PatternFault.TheVariants as pattern
use Rattle.avp_unlang.specs.RefusedPolicies.{without_place}
use Rattle.avp_unlang.specs.declared.faults.PolicyFault.{PolicyFault}
use Rattle.avp_unlang.specs.declared.faults.PolicyKind.TheVariants as kind
use Rattle.avp_unlang.proofs.RefusedOnceStatements.{policies_once}
use Rattle.radpolicy.proofs.OneReport.{is_too_large}
use Rattle.radpolicy.specs.JobReports.{IsCheckRefusal, IsOpenRefusal, IsPacketRefusal, IsPolicyRefusal, IsRefused, IsRunRefusal, IsStepRefusal, Opened, RefusalOf, decode_report, dictionary_for, encode_report, policy_of, script_of}
use Rattle.radpolicy.specs.Received.{BadLines, BadPacket, IsUnreadRequest, NotHex, Unread, request_for}
use Rattle.radpolicy.specs.RefusedPolicies.{AreOne, IsRefusedWith}
use Rattle.radpolicy.specs.Reports.{Report}
use Rattle.radpolicy.specs.Scripts.{IsUnknownWord, script_spelled}
use Rattle.radpolicy.specs.declared.faults.Fault.TheVariants as fault
use Rattle.radpolicy.specs.declared.jobs.Command.{Command}
use Rattle.radpolicy.specs.declared.jobs.Command.TheVariants.{Check, Decode, Encode, Run, Step}
use Rattle.radpolicy.specs.declared.jobs.Job.{Job}
use Rattle.radpolicy.specs.declared.scripts.ScriptWord.{ScriptWord}

module _ (job : Job) where
  -- the policy is refused with this fault, by the job's dictionary
  record PolicyIsRefused (f : PolicyFault) : Type 0 where
    pub dictionary : Dictionary
    pub read : dictionary_for job ≡ Ok dictionary
    pub refused : IsRefusedWith dictionary (policy_of job) f

  module _ (f : PolicyFault) where
    no_request : (d : Dictionary) (read : Result Packet Unread) → IsUnreadRequest d job (fault.Policy f) read → ⊥
    no_request d (Ok request) is = is
    no_request d (Err NotHex) is = is
    no_request d (Err (BadPacket g)) is = is
    no_request d (Err BadLines) is = is

    of_opening : IsOpenRefusal job (fault.Policy f) → ⊥
    of_opening (inl is) = is
    of_opening (inr is) = let other : fault.Policy f ≡ fault.EmptySecret = is.fault in cc

    no_word : (read : Result (List ScriptWord) ℕ) → IsUnknownWord (fault.Policy f) read → ⊥
    no_word (Ok script) is = is
    no_word (Err line) is = let other : fault.Policy f ≡ fault.ScriptWord line = is in cc

    too_long : fault.Policy f ≡ fault.PacketTooLong → ⊥
    too_long is = cc

    of_policy : IsPolicyRefusal job (fault.Policy f) → PolicyIsRefused f
    of_policy is = record { dictionary = is.opened.dictionary; read = is.opens.dictionary; refused = is.refused }

    of_run : IsRunRefusal job (fault.Policy f) → PolicyIsRefused f
    of_run (inl is) = absurd (of_opening is)
    of_run (inr (inl is)) = of_policy is
    of_run (inr (inr is)) = elim is.fault [
      | inl unread ↦ absurd (no_request is.opened.dictionary (request_for is.opened.dictionary is.opened.secret job) unread)
      | inr long ↦ absurd (too_long long.3)
    ]

    of_step : IsStepRefusal job (fault.Policy f) → PolicyIsRefused f
    of_step (inl is) = absurd (of_opening is)
    of_step (inr (inl is)) = of_policy is
    of_step (inr (inr is)) = elim is.fault [
      | inl unknown ↦ absurd (no_word (script_spelled (script_of job)) unknown)
      | inr unread ↦ absurd (no_request is.opened.dictionary (request_for is.opened.dictionary is.opened.secret job) unread.2)
    ]

    of_making : (made_of : Opened → Packet → Option Report) → IsPacketRefusal made_of job (fault.Policy f) → PolicyIsRefused f
    of_making made_of (inl is) = absurd (of_opening is)
    of_making made_of (inr is) = elim is.fault [
      | inl unread ↦ absurd (no_request is.opened.dictionary (request_for is.opened.dictionary is.opened.secret job) unread)
      | inr long ↦ absurd (too_long long.3)
    ]

    of_check : IsCheckRefusal job (fault.Policy f) → PolicyIsRefused f
    of_check (inl is) = absurd is
    of_check (inr is) = record { dictionary = is.dictionary; read = is.read; refused = is.refused }

    by_command : (command : Command) → RefusalOf command job (fault.Policy f) → PolicyIsRefused f
    by_command Run is = of_run is
    by_command Step is = of_step is
    by_command Encode is = of_making encode_report is
    by_command Decode is = of_making decode_report is
    by_command Check is = of_check is

  same_dictionary : (a b : Dictionary) → dictionary_for job ≡ Ok a → dictionary_for job ≡ Ok b → a ≡ b
  same_dictionary a b h g = cc

  -- a text that has a pattern that is too large spells a policy, and one with another fault spells none
  too_large_both : (d : Dictionary) (a b : PolicyFault) → IsRefusedWith d (policy_of job) a → IsRefusedWith d (policy_of job) b → a.kind ≡ kind.Pattern pattern.TooLarge → b.kind ≡ kind.Pattern pattern.TooLarge
  too_large_both d a b h g large = elim (is_too_large b.kind) [
    | inl same ↦ same
    | inr other ↦ let own = h.refused.compiled large in absurd (g.refused.unspelled g.some other own.0 own.1)
  ]

  ones : (d : Dictionary) (a b : PolicyFault) → IsRefusedWith d (policy_of job) a → IsRefusedWith d (policy_of job) b → a.kind ≢ kind.Pattern pattern.TooLarge → (a.offset ≡ b.offset) × (without_place a.kind ≡ without_place b.kind)
  ones d a b h g other =
      policies_once.once d (policy_of job) a.offset b.offset a.kind b.kind (h.first other) (g.first (λ large. other (too_large_both d b a g h large)))

  are_one : (d : Dictionary) (a b : PolicyFault) → IsRefusedWith d (policy_of job) a → IsRefusedWith d (policy_of job) b → AreOne a b
  are_one d a b h g = record {
    kind = elim (is_too_large a.kind) [
      | inl large ↦ ap without_place (large ∙ sym (too_large_both d a b h g large))
      | inr other ↦ (ones d a b h g other).1
    ];
    offset = λ other. (ones d a b h g other).0;
    line = λ other. h.line ∙ ap (λ (at : ℕ). line_after (take at (policy_of job))) (ones d a b h g other).0 ∙ sym g.line;
  }

  pub one_policy_fault : (a b : PolicyFault) → IsRefused job (fault.Policy a) → IsRefused job (fault.Policy b) → AreOne a b
  one_policy_fault a b h g =
      let first = by_command a job.command h in
      let second = by_command b job.command g in
      let same = same_dictionary second.dictionary first.dictionary second.read first.read in
      are_one first.dictionary a b first.refused (subst (λ (d : Dictionary). IsRefusedWith d (policy_of job) b) same second.refused)
