-- Lines that are refused, as the request or the initial lists of a run.
use Rattle.std.proofs.Common.{◌≡◌, ◌≢◌, ℕ, ℤ, ◌⊎◌, inl, inr, List, Option, None, refl, sym, subst}
use Rattle.avp_lists.specs.declared.pairs.Pair.{Pair}
use Rattle.avp_dict.specs.Dictionary.{Dictionary}
use Rattle.avp_dict.specs.declared.request.faults.LineFault.{LineFault}
use Rattle.avp_dict.specs.declared.request.faults.LineKind.{LineKind}
use Rattle.avp_dict.specs.declared.request.faults.LineKind.TheVariants as kind
use Rattle.avp_forms.specs.Profiles.{profile_of}
use Rattle.avp_forms.specs.declared.profiles.Profile.{Profile}
use Rattle.radpolicy.specs.Faults.{MemoryOr, fault_of_control_line, fault_of_line, fault_of_reply_line}
use Rattle.radpolicy.specs.Received.{AreRefusedWith, IsUnreadRequest, lines_for, lines_spelled}
use Rattle.radpolicy.specs.StartRefusals.{AreUnreadControlLines, AreUnreadReplyLines, AreUnreadRequestLines}
use Rattle.radpolicy.specs.declared.faults.Fault.{Fault}
use Rattle.radpolicy.specs.declared.faults.Fault.TheVariants as fault
use Rattle.radpolicy.specs.declared.jobs.Job.{Job}

-- want of memory is told as such
record IsOfMemory (f : LineFault) : Type 0 where
  pub request : fault_of_line f ≡ fault.Memory
  pub reply : fault_of_reply_line f ≡ fault.Memory
  pub control : fault_of_control_line f ≡ fault.Memory

-- any other fault of lines tells which lines they are
record IsOfLines (f : LineFault) : Type 0 where
  pub some : f.kind ≢ kind.Memory
  pub request : fault_of_line f ≡ fault.Request f
  pub reply : fault_of_reply_line f ≡ fault.Reply f
  pub control : fault_of_control_line f ≡ fault.Control f

by_kind : (line offset : ℕ) (k : LineKind) → let f : LineFault = record { line = line; offset = offset; kind = k } in
    IsOfMemory f ⊎ IsOfLines f
by_kind line offset kind.NotValue = inr (record { some = λ e. cc; request = refl; reply = refl; control = refl })
by_kind line offset kind.TooLong = inr (record { some = λ e. cc; request = refl; reply = refl; control = refl })
by_kind line offset kind.Unknown = inr (record { some = λ e. cc; request = refl; reply = refl; control = refl })
by_kind line offset kind.NotWritable = inr (record { some = λ e. cc; request = refl; reply = refl; control = refl })
by_kind line offset kind.SecondPacket = inr (record { some = λ e. cc; request = refl; reply = refl; control = refl })
by_kind line offset kind.TooMany = inr (record { some = λ e. cc; request = refl; reply = refl; control = refl })
by_kind line offset kind.Unreadable = inr (record { some = λ e. cc; request = refl; reply = refl; control = refl })
by_kind line offset kind.Memory = inl (record { request = refl; reply = refl; control = refl })

module _ (profile : Profile) (time_zone : Option ℤ) (d : Dictionary) (text : List ℕ) (f : LineFault) (refused : f.kind ≢ kind.Memory → AreRefusedWith profile time_zone d text f) where
  pub request_lines : MemoryOr (AreUnreadRequestLines profile time_zone d text) (fault_of_line f)
  request_lines = elim (by_kind f.line f.offset f.kind) [
    | inl memory ↦ inl memory.request
    | inr found ↦ inr (subst (λ (g : Fault). AreUnreadRequestLines profile time_zone d text g) (sym found.request) (refused found.some))
  ]

  pub reply_lines : MemoryOr (AreUnreadReplyLines profile time_zone d text) (fault_of_reply_line f)
  reply_lines = elim (by_kind f.line f.offset f.kind) [
    | inl memory ↦ inl memory.reply
    | inr found ↦ inr (subst (λ (g : Fault). AreUnreadReplyLines profile time_zone d text g) (sym found.reply) (refused found.some))
  ]

  pub control_lines : MemoryOr (AreUnreadControlLines profile time_zone d text) (fault_of_control_line f)
  control_lines = elim (by_kind f.line f.offset f.kind) [
    | inl memory ↦ inl memory.control
    | inr found ↦ inr (subst (λ (g : Fault). AreUnreadControlLines profile time_zone d text g) (sym found.control) (refused found.some))
  ]

module _ (job : Job) (d : Dictionary) (code : ℕ) where
  no_lines : (f : LineFault) → AreRefusedWith (profile_of job.request) None d job.request f → IsUnreadRequest d job (fault.Request f) (lines_for code job (lines_spelled job.request d))
  no_lines f is = subst (λ (spelled : Option (List Pair)). IsUnreadRequest d job (fault.Request f) (lines_for code job spelled)) (sym is.none) is

  -- the request of a job is none where its lines are refused
  pub job_lines : (f : LineFault) → (f.kind ≢ kind.Memory → AreRefusedWith (profile_of job.request) None d job.request f)
      → (fault_of_line f ≡ fault.Memory) ⊎ IsUnreadRequest d job (fault_of_line f) (lines_for code job (lines_spelled job.request d))
  job_lines f refused = elim (by_kind f.line f.offset f.kind) [
    | inl memory ↦ inl memory.request
    | inr found ↦ inr (subst (λ (g : Fault). IsUnreadRequest d job g (lines_for code job (lines_spelled job.request d))) (sym found.request) (no_lines f (refused found.some)))
  ]
