-- What a run begins with that a program shows.
use Rattle.std.specs.Prelude.{◌≡◌, ℕ, ℤ, List, [], Option, None, Some, Ok}
use Rattle.avp_lists.specs.declared.pairs.Pair.{Pair}
use Rattle.avp_dict.specs.Dictionary.{Dictionary}
use Rattle.avp_forms.specs.Requests.{request_written}
use Rattle.avp_forms.specs.declared.profiles.Profile.TheVariants.{Wider}
use Rattle.avp_packet.specs.Decoded.{decoded}
use Rattle.radpolicy.specs.Received.{hex_octets}
use Rattle.radpolicy.specs.Starts.{Prepared, Start, start_of, start_with}
use Rattle.radpolicy.specs.declared.heads.RequestHead.{RequestHead}
use Rattle.radpolicy.specs.declared.heads.RequestKind.TheVariants as kind
use Rattle.radpolicy.specs.declared.jobs.Form.{Form}
use Rattle.radpolicy.specs.declared.jobs.Form.TheVariants as form
use Rattle.radpolicy_starts.specs.declared.start_files.StartFiles.{StartFiles}
use Rattle.radpolicy_starts.specs.declared.plans.StartPlan.{StartPlan}

-- the head of a request of lines; an authenticator is that of an Access-Request
abbrev pub head_by : Form → ℕ → Option (List ℕ) → RequestHead
head_by form.Accounting id own =
    record { kind = kind.Accounting; id = id; authenticator = None }
head_by _ id own = record { kind = kind.Access; id = id; authenticator = own }

-- over the packet whose hexadecimal digits a text has
abbrev pub IsOfPacket : Prepared → List ℕ → List ℕ → Start → Type 0
IsOfPacket prepared secret text start = (octets : List ℕ) × (hex_octets text ≡ Some octets)
    × (decoded prepared.dictionary secret octets ≡ Ok start.request)
    × (start ≡ start_of prepared (Some secret) form.Hex start.request)

-- over the lines of a text, in the forms of the wider profile
abbrev pub IsOfLines : Prepared → Option (List ℕ) → RequestHead → Option ℤ → List ℕ → Start
    → Type 0
IsOfLines prepared secret head offset text start =
    (request_written Wider offset text prepared.dictionary ≡ Some start.request.list)
    × (start ≡ start_with prepared secret head start.request.list)

-- over a request that is given in this form, with empty reply and control lists: a packet, where there is a secret
abbrev pub IsOfRequest : Form → Prepared → Option (List ℕ) → RequestHead → Option ℤ → List ℕ
    → Start → Type 0
IsOfRequest form.Hex prepared (Some secret) head offset text start =
    IsOfPacket prepared secret text start
IsOfRequest _ prepared secret head offset text start =
    IsOfLines prepared secret head offset text start

-- ---- lists

-- the list that a file's lines are; the empty one where there is no file
abbrev pub IsListIn : Dictionary → Option ℤ → Option (List ℕ) → List Pair → Type 0
IsListIn dictionary offset None pairs = pairs ≡ []
IsListIn dictionary offset (Some lines) pairs =
    request_written Wider offset lines dictionary ≡ Some pairs

-- ---- the start

-- over the request alone
abbrev pub IsAlone : StartPlan → StartFiles → Prepared → Option (List ℕ) → Start → Type 0
IsAlone plan files prepared secret alone =
    IsOfRequest plan.form prepared secret (head_by plan.form plan.identifier plan.authenticator)
    plan.zone files.request alone

-- the request that words and files say, with the reply and control lists of their files
abbrev pub IsStart : StartPlan → StartFiles → Prepared → Option (List ℕ) → Start → Type 0
IsStart plan files prepared secret start = (alone : Start)
    × IsAlone plan files prepared secret alone
    × (start ≡ record alone { reply = start.reply; control = start.control })
    × IsListIn prepared.dictionary plan.zone files.reply start.reply
    × IsListIn prepared.dictionary plan.zone files.control start.control
