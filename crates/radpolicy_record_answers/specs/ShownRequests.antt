-- What is shown of the request of a record: the values of some attributes.
use Rattle.std.specs.Prelude.{ℕ, if◌then◌else◌, List, [], ◌∷◌, codes, Option, None, Some, Result, Ok, Err}
use Rattle.std.specs.List.{flat_map, list_any}
use Rattle.avp_lists.specs.Pairs.{id_eq}
use Rattle.avp_lists.specs.declared.pairs.AttrId.{AttrId}
use Rattle.avp_lists.specs.declared.pairs.Pair.{Pair}
use Rattle.avp_dict.specs.Lines.{is_line_end}
use Rattle.avp_packet.specs.declared.packets.Packet.{Packet}
use Rattle.radpolicy.specs.declared.faults.Fault.{Fault}
use Rattle.radpolicy_record_answers.specs.Captured.{packet_or_fault}
use Rattle.radpolicy_record_answers.specs.Differences.{pair_line}
use Rattle.radpolicy_record_answers.specs.Requests.{request_read}
use Rattle.radpolicy_record_answers.specs.declared.answers.RecordFault.{RecordFault}
use Rattle.radpolicy_record_answers.specs.declared.requests.RecordRequest.{RecordRequest}
use Rattle.radpolicy_record_answers.specs.declared.requests.RecordSecret.{RecordSecret}
use Rattle.radpolicy_record_answers.specs.declared.requests.RecordSecret.TheVariants.{Known, Missing, Unknown}
use Rattle.radpolicy_record_answers.specs.declared.shown_requests.Shown.{Shown}

-- the line of a pair, if its attribute is shown
abbrev pub shown_line : Shown → Pair → List ℕ
shown_line shown pair = if list_any (id_eq pair.id) shown.ids.now
    then pair_line shown.dictionary.now shown.redaction.now pair else []

-- the lines of the pairs of a list, in their order
abbrev pub shown_lines : Shown → List Pair → List ℕ
shown_lines shown pairs = flat_map (shown_line shown) pairs

-- those of a packet, if it is read
abbrev pub packet_lines : Shown → Result Packet Fault → List ℕ
packet_lines shown (Ok packet) = shown_lines shown packet.list
packet_lines shown (Err f) = []

-- those of the packet of these octets, by the secret if one is known
abbrev pub octets_lines : Shown → Option (List ℕ) → List ℕ → List ℕ
octets_lines shown secret octets =
    packet_lines shown (packet_or_fault (request_read shown.dictionary.now secret octets))

-- those of the request of a record
abbrev pub request_lines : Shown → RecordSecret → Result RecordRequest RecordFault → List ℕ
request_lines shown _ (Err f) = []
request_lines shown Missing (Ok request) = []
request_lines shown (Known secret) (Ok request) = octets_lines shown (Some secret) request.octets
request_lines shown Unknown (Ok request) = octets_lines shown None request.octets

abbrev pub unless_none : List AttrId → List ℕ → List ℕ
unless_none [] lines = []
unless_none (id ∷ ids) lines = lines

-- the same; nothing where no attribute is shown
unfoldable pub request_shown : Shown → RecordSecret → Result RecordRequest RecordFault → List ℕ
request_shown shown secret request =
    unless_none shown.ids.now (request_lines shown secret request)

abbrev pub octet_in_row : ℕ → List ℕ
octet_in_row o = if is_line_end o then codes ", " else o ∷ []

-- lines in one: a comma and a space in place of each line feed
abbrev pub in_row : List ℕ → List ℕ
in_row lines = flat_map octet_in_row lines
