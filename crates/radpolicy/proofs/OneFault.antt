-- A job is refused for one fault of its request's lines at most.
use Rattle.std.proofs.Common.{◌≡◌, ◌∙◌, ℕ, inl, inr, List, Option, None, Result, Ok, Err, ap, ap₂, subst, sym, take}
use Rattle.avp_dict.specs.Dictionary.{Dictionary}
use Rattle.avp_dict.specs.LineNumbers.{line_after}
use Rattle.avp_dict.specs.declared.request.faults.LineFault.{LineFault}
use Rattle.avp_dict.specs.declared.request.faults.LineKind.{LineKind}
use Rattle.avp_forms.specs.Profiles.{profile_of}
use Rattle.avp_forms.proofs.RefusedOnce.{refused_once_in}
use Rattle.avp_packet.specs.declared.packets.Packet.{Packet}
use Rattle.radpolicy.specs.JobReports.{IsOpenRefusal, IsOpened, IsPacketRefusal, IsRefused, IsRequestRefusal, IsRunRefusal, IsStepRefusal, IsCheckRefusal, Opened, RefusalOf, decode_report, dictionary_for, encode_report, script_of}
use Rattle.radpolicy.specs.Received.{AreRefusedWith, BadLines, BadPacket, IsUnreadRequest, NotHex, Unread, request_for}
use Rattle.radpolicy.specs.Reports.{Report}
use Rattle.radpolicy.specs.Scripts.{IsUnknownWord, script_spelled}
use Rattle.radpolicy.specs.declared.faults.Fault.TheVariants as fault
use Rattle.radpolicy.specs.declared.jobs.Command.{Command}
use Rattle.radpolicy.specs.declared.jobs.Command.TheVariants.{Check, Decode, Encode, Run, Step}
use Rattle.radpolicy.specs.declared.jobs.Job.{Job}
use Rattle.radpolicy.specs.declared.scripts.ScriptWord.{ScriptWord}

module _ (job : Job) where
  -- lines are refused with this fault, by the job's dictionary
  record LinesAreRefused (f : LineFault) : Type 0 where
    pub dictionary : Dictionary
    pub read : dictionary_for job ≡ Ok dictionary
    pub refused : AreRefusedWith (profile_of job.request) None dictionary job.request f

  module _ (f : LineFault) where
    by_request : (d : Dictionary) (read : Result Packet Unread) → IsUnreadRequest d job (fault.Request f) read → AreRefusedWith (profile_of job.request) None d job.request f
    by_request d (Ok request) is = absurd is
    by_request d (Err NotHex) is = absurd is
    by_request d (Err (BadPacket g)) is = absurd is
    by_request d (Err BadLines) is = is

    refused_lines : (o : Opened) → IsOpened job o → IsRequestRefusal job o (fault.Request f) → LinesAreRefused f
    refused_lines o opens is = record {
      dictionary = o.dictionary;
      read = opens.dictionary;
      refused = by_request o.dictionary (request_for o.dictionary o.secret job) is;
    }

    of_opening : IsOpenRefusal job (fault.Request f) → ⊥
    of_opening (inl is) = is
    of_opening (inr is) = let other : fault.Request f ≡ fault.EmptySecret = is.fault in cc

    no_word : (read : Result (List ScriptWord) ℕ) → IsUnknownWord (fault.Request f) read → ⊥
    no_word (Ok script) is = is
    no_word (Err line) is = let other : fault.Request f ≡ fault.ScriptWord line = is in cc

    too_long : fault.Request f ≡ fault.PacketTooLong → ⊥
    too_long is = cc

    of_run : IsRunRefusal job (fault.Request f) → LinesAreRefused f
    of_run (inl is) = absurd (of_opening is)
    of_run (inr (inl is)) = absurd is.refused
    of_run (inr (inr is)) = elim is.fault [
      | inl unread ↦ refused_lines is.opened is.opens unread
      | inr long ↦ absurd (too_long long.3)
    ]

    of_step : IsStepRefusal job (fault.Request f) → LinesAreRefused f
    of_step (inl is) = absurd (of_opening is)
    of_step (inr (inl is)) = absurd is.refused
    of_step (inr (inr is)) = elim is.fault [
      | inl unknown ↦ absurd (no_word (script_spelled (script_of job)) unknown)
      | inr unread ↦ refused_lines is.opened is.opens unread.2
    ]

    of_making : (made_of : Opened → Packet → Option Report) → IsPacketRefusal made_of job (fault.Request f) → LinesAreRefused f
    of_making made_of (inl is) = absurd (of_opening is)
    of_making made_of (inr is) = elim is.fault [
      | inl unread ↦ refused_lines is.opened is.opens unread
      | inr long ↦ absurd (too_long long.3)
    ]

    of_check : IsCheckRefusal job (fault.Request f) → LinesAreRefused f
    of_check (inl is) = absurd is
    of_check (inr is) = absurd is.refused

    by_command : (command : Command) → RefusalOf command job (fault.Request f) → LinesAreRefused f
    by_command Run is = of_run is
    by_command Step is = of_step is
    by_command Encode is = of_making encode_report is
    by_command Decode is = of_making decode_report is
    by_command Check is = of_check is

  same_dictionary : (a b : Dictionary) → dictionary_for job ≡ Ok a → dictionary_for job ≡ Ok b → a ≡ b
  same_dictionary a b h g = cc

  same_fault : (a b : LineFault) → a.offset ≡ b.offset → a.kind ≡ b.kind → a.line ≡ b.line → a ≡ b
  same_fault a b offset kind line =
      ap (λ (n : ℕ). let f : LineFault = record { line = n; offset = a.offset; kind = a.kind } in f) line
      ∙ ap₂ (λ (at : ℕ) (k : LineKind). let f : LineFault = record { line = b.line; offset = at; kind = k } in f) offset kind

  by_dictionary : (d : Dictionary) (a b : LineFault) → AreRefusedWith (profile_of job.request) None d job.request a → AreRefusedWith (profile_of job.request) None d job.request b → a ≡ b
  by_dictionary d a b h g =
      let same = refused_once_in (profile_of job.request) None d job.request a.kind b.kind a.offset b.offset h.some g.some h.first g.first in
      same_fault a b same.0 same.1 (h.line ∙ ap (λ (at : ℕ). line_after (take at job.request)) same.0 ∙ sym g.line)

  pub one_fault : (a b : LineFault) → IsRefused job (fault.Request a) → IsRefused job (fault.Request b) → a ≡ b
  one_fault a b h g =
      let first = by_command a job.command h in
      let second = by_command b job.command g in
      let same = same_dictionary second.dictionary first.dictionary second.read first.read in
      by_dictionary first.dictionary a b first.refused
      (subst (λ (d : Dictionary). AreRefusedWith (profile_of job.request) None d job.request b) same second.refused)
