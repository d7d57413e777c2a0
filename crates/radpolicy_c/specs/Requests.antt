-- What the run of a request begins with, as C gives it, and why there is no run.
use Rattle.std.specs.Prelude.{◌≡◌, ◌⊎◌, ℕ, ◌==◌, if◌then◌else◌, List, Option, None, Some, Ok, Err}
use Rattle.avp_dict.specs.Dictionary.{Dictionary}
use Rattle.avp_forms.specs.Profiles.{profile_of}
use Rattle.radpolicy.specs.Received.{lines_spelled}
use Rattle.avp_packet.specs.Decoded.{decoded}
use Rattle.radpolicy.specs.StartRefusals.{AreUnreadControlLines, AreUnreadReplyLines, AreUnreadRequestLines}
use Rattle.radpolicy.specs.Starts.{Prepared, Start, start_of, start_with}
use Rattle.radpolicy.specs.declared.faults.Fault.{Fault}
use Rattle.radpolicy.specs.declared.faults.Fault.TheVariants as fault
use Rattle.radpolicy.specs.declared.heads.RequestHead.{RequestHead}
use Rattle.radpolicy.specs.declared.heads.RequestKind.{RequestKind}
use Rattle.radpolicy.specs.declared.heads.RequestKind.TheVariants as kind
use Rattle.radpolicy.specs.declared.jobs.Form.{Form}
use Rattle.radpolicy.specs.declared.jobs.Form.TheVariants as form
use Rattle.radpolicy_c.specs.declared.requests.RadpolicyRequest.{RadpolicyRequest}

abbrev pub form_given : ℕ → Option Form
form_given n =
    if n == 0 then Some form.Hex
    else if n == 1 then Some form.Access
    else if n == 2 then Some form.Accounting
    else None

abbrev pub head_given : RequestKind → RadpolicyRequest → RequestHead
head_given kind asked = record {
  kind = kind;
  id = asked.identifier;
  authenticator = if asked.has_authenticator then Some asked.authenticator else None;
}

abbrev pub secret_given : RadpolicyRequest → Option (List ℕ)
secret_given asked = if asked.has_secret then Some asked.secret.now else None

-- ---- a run over the request alone

-- the octets are a packet by the secret, and the run begins with it
abbrev pub IsBegunByPacket : Prepared → Option (List ℕ) → List ℕ → Start → Type 0
IsBegunByPacket prepared None octets start = ⊥
IsBegunByPacket prepared (Some secret) octets start =
    (decoded prepared.dictionary secret octets ≡ Ok start.request)
    × (start ≡ start_of prepared (Some secret) form.Hex start.request)

-- the octets are lines, and the run begins with their pairs under the request's head
abbrev pub IsBegunByLines
    : RequestKind → Prepared → Option (List ℕ) → RadpolicyRequest → Start → Type 0
IsBegunByLines kind prepared secret asked start =
    (lines_spelled asked.octets.now prepared.dictionary ≡ Some start.request.list)
    × (start ≡ start_with prepared secret (head_given kind asked) start.request.list)

abbrev pub IsBegun
    : Option Form → Prepared → Option (List ℕ) → RadpolicyRequest → Start → Type 0
IsBegun None prepared secret asked start = ⊥
IsBegun (Some form.Hex) prepared secret asked start =
    IsBegunByPacket prepared secret asked.octets.now start
IsBegun (Some form.Access) prepared secret asked start =
    IsBegunByLines kind.Access prepared secret asked start
IsBegun (Some form.Accounting) prepared secret asked start =
    IsBegunByLines kind.Accounting prepared secret asked start

-- ---- with the initial lists

-- the start is this one with the reply and control lists that their lines spell
pub record HasLists (plain : Start) (asked : RadpolicyRequest) (start : Start) : Type 0 where
  pub reply : lines_spelled asked.reply.now plain.prepared.dictionary ≡ Some start.reply
  pub control : lines_spelled asked.control.now plain.prepared.dictionary ≡ Some start.control
  pub lists : start ≡ record plain { reply = start.reply; control = start.control }

-- the start of the request's run
pub record BeginsRun (prepared : Prepared) (secret : Option (List ℕ)) (asked : RadpolicyRequest)
    (start : Start) : Type 0 where
  pub plain : Start
  pub begun : IsBegun (form_given asked.form) prepared secret asked plain
  pub lists : HasLists plain asked start

-- ---- refusals

-- the octets are no packet by the secret, or there is no secret
abbrev pub IsNotBegunByPacket : Prepared → Option (List ℕ) → List ℕ → Fault → Type 0
IsNotBegunByPacket prepared None octets f = f ≡ fault.OptionValue
IsNotBegunByPacket prepared (Some secret) octets (fault.Packet f) =
    decoded prepared.dictionary secret octets ≡ Err f
IsNotBegunByPacket prepared (Some secret) octets _ = ⊥

-- the request is none, or its form is not known
abbrev pub IsNotBegun
    : Option Form → Prepared → Option (List ℕ) → RadpolicyRequest → Fault → Type 0
IsNotBegun None prepared secret asked f = f ≡ fault.OptionValue
IsNotBegun (Some form.Hex) prepared secret asked f =
    IsNotBegunByPacket prepared secret asked.octets.now f
IsNotBegun (Some _) prepared secret asked f =
    AreUnreadRequestLines (profile_of asked.octets.now) None prepared.dictionary asked.octets.now f

-- the lines of an initial list spell none, with the fault of the first place that is refused
abbrev pub AreUnreadLists : Dictionary → RadpolicyRequest → Fault → Type 0
AreUnreadLists dictionary asked f =
    AreUnreadReplyLines (profile_of asked.reply.now) None dictionary asked.reply.now f
    ⊎ AreUnreadControlLines (profile_of asked.control.now) None dictionary asked.control.now f

-- Why no run begins, but for want of memory. Where several of the lines spell no list, which of them is told is left
-- open.
abbrev pub IsStartRefusal : Prepared → Option (List ℕ) → RadpolicyRequest → Fault → Type 0
IsStartRefusal prepared secret asked f =
    IsNotBegun (form_given asked.form) prepared secret asked f
    ⊎ AreUnreadLists prepared.dictionary asked f
