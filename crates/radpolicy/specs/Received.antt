-- The request of a job: from a packet in hexadecimal digits, or from lines (RFC 2865, section 4.1; RFC 2866, section
-- 4.1).
use Rattle.std.specs.Prelude.{◌≡◌, ◌≢◌, ℕ, ℤ, Bool, not, ◌||◌, ◌==◌, List, [], filter, take, Option, Some, None, Result, Ok, Err}
use Rattle.std.specs.Option.{unwrap_or}
use Rattle.std.specs.Result.{result_ok}
use Rattle.hex.specs.Hex.{decode_of}
use Rattle.avp_lists.specs.declared.pairs.Pair.{Pair}
use Rattle.avp_dict.specs.Ascii.{carriage_return, line_feed, space, tab}
use Rattle.avp_dict.specs.declared.request.faults.LineFault.{LineFault}
use Rattle.avp_dict.specs.declared.request.faults.LineKind.TheVariants as line
use Rattle.avp_dict.specs.Dictionary.{Dictionary}
use Rattle.avp_dict.specs.LineNumbers.{line_after}
use Rattle.avp_forms.specs.Profiles.{profile_of}
use Rattle.avp_forms.specs.Requests.{IsFirstRefused, request_written}
use Rattle.avp_forms.specs.declared.profiles.Profile.{Profile}
use Rattle.avp_packet.specs.declared.faults.PacketFault.{PacketFault}
use Rattle.avp_packet.specs.declared.packets.Packet.{Packet}
use Rattle.avp_packet.specs.Decoded.{decoded}
use Rattle.avp_packet.specs.Packets.{access_request, accounting_request, zeros}
use Rattle.radpolicy.specs.declared.faults.Fault.{Fault}
use Rattle.radpolicy.specs.declared.faults.Fault.TheVariants as fault
use Rattle.radpolicy.specs.declared.jobs.Form.{Form}
use Rattle.radpolicy.specs.declared.jobs.Form.TheVariants.{Hex, Access, Accounting}
use Rattle.radpolicy.specs.declared.jobs.Job.{Job}

-- why a job's request is none
pub data Unread : Type 0 where
  NotHex : Unread
  BadPacket : PacketFault → Unread
  BadLines : Unread

-- a space, a tab, a CR or an LF
abbrev pub is_white_space : ℕ → Bool
is_white_space o = o == space || o == tab || o == carriage_return || o == line_feed

abbrev pub is_no_white_space : ℕ → Bool
is_no_white_space o = not (is_white_space o)

-- the octets that hexadecimal digits stand for, white space among them left out
unfoldable pub hex_octets : List ℕ → Option (List ℕ)
hex_octets text = result_ok (decode_of (filter is_no_white_space text))

abbrev pub unread_packet : Result Packet PacketFault → Result Packet Unread
unread_packet (Ok packet) = Ok packet
unread_packet (Err fault) = Err (BadPacket fault)

-- a packet in hexadecimal digits
abbrev pub packet_for : Dictionary → List ℕ → Option (List ℕ) → Result Packet Unread
packet_for dictionary secret None = Err NotHex
packet_for dictionary secret (Some octets) = unread_packet (decoded dictionary secret octets)

-- the pairs that lines spell, as the profile of their own text reads them; of zones UTC alone is known
abbrev pub lines_spelled : List ℕ → Dictionary → Option (List Pair)
lines_spelled text dictionary = request_written (profile_of text) None text dictionary

-- lines, as the list of a packet of this code
abbrev pub lines_for : ℕ → Job → Option (List Pair) → Result Packet Unread
lines_for code job None = Err BadLines
lines_for code job (Some pairs) =
    Ok (record {
      code = code;
      id = job.identifier;
      authenticator = unwrap_or job.authenticator zeros;
      list = pairs;
    })

-- the request of a job, by its form
abbrev pub request_of : Form → Dictionary → Option (List ℕ) → Job → Result Packet Unread
request_of Hex dictionary secret job =
    packet_for dictionary (unwrap_or secret []) (hex_octets job.request)
request_of Access dictionary secret job =
    lines_for access_request job (lines_spelled job.request dictionary)
request_of Accounting dictionary secret job =
    lines_for accounting_request job (lines_spelled job.request dictionary)

abbrev pub request_for : Dictionary → Option (List ℕ) → Job → Result Packet Unread
request_for dictionary secret job = request_of job.form dictionary secret job

-- Lines spell no list, and the fault is that of the first place that is refused: what it is refused for, its offset and
-- its line.
pub record AreRefusedWith (profile : Profile) (time_zone : Option ℤ) (dictionary : Dictionary)
    (text : List ℕ) (f : LineFault) : Type 0 where
  pub some : f.kind ≢ line.Memory
  pub none : request_written profile time_zone text dictionary ≡ None
  pub first : IsFirstRefused profile time_zone dictionary text f.kind f.offset
  pub line : f.line ≡ line_after (take f.offset text)

-- the fault of a request that is none
abbrev pub IsUnreadBy : Dictionary → Job → Unread → Fault → Type 0
IsUnreadBy dictionary job NotHex fault.NotHex = Unit {0}
IsUnreadBy dictionary job (BadPacket f) (fault.Packet g) = f ≡ g
IsUnreadBy dictionary job BadLines (fault.Request f) =
    AreRefusedWith (profile_of job.request) None dictionary job.request f
IsUnreadBy dictionary job _ _ = ⊥

-- the request is none, with this fault
abbrev pub IsUnreadRequest : Dictionary → Job → Fault → Result Packet Unread → Type 0
IsUnreadRequest dictionary job f (Ok packet) = ⊥
IsUnreadRequest dictionary job f (Err unread) = IsUnreadBy dictionary job unread f
