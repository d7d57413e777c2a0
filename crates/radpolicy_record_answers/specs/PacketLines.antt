-- Records as lines of packets.
use Rattle.std.specs.Prelude.{ℕ, ◌-◌, ◌==◌, Bool, false, not, ◌&&◌, ◌||◌, if◌then◌else◌, List, [], ◌∷◌, ◌++◌, codes, length, take, Result, Ok, Err}
use Rattle.hex.specs.Hex.{encode_lower}
use Rattle.radpolicy_record_answers.specs.Answers.{refusal_shown}
use Rattle.radpolicy_record_answers.specs.Records.{is_name, is_packet_word, is_source, or_number}
use Rattle.radpolicy_record_answers.specs.declared.answers.RecordFault.{RecordFault}
use Rattle.radpolicy_record_answers.specs.declared.captured.CapturedReply.{CapturedReply}
use Rattle.radpolicy_record_answers.specs.declared.captured.CapturedReply.TheVariants.{Challenge, Missing, Octets, Unread}
use Rattle.radpolicy_record_answers.specs.declared.entries.Entry.{Entry}
use Rattle.radpolicy_record_answers.specs.declared.requests.RecordRequest.{RecordRequest}

-- its run begins with empty lists: a line of packets gives none
abbrev pub is_alone : RecordRequest → Bool
is_alone request = (length request.reply == 0) && (length request.control == 0)

abbrev pub has_packet_of : Result RecordRequest RecordFault → Bool
has_packet_of (Err f) = false
has_packet_of (Ok request) = is_alone request

-- the line of a record has its request
abbrev pub has_packet : Entry → Bool
has_packet entry = has_packet_of entry.request

-- the address of the source, where it is given
abbrev pub source_shown : List ℕ → List ℕ
source_shown [] = []
source_shown (o ∷ os) = (o ∷ os) ++ codes " "

-- a request, and the reply that was captured: there is none of a challenge, and of lines that make no packet
abbrev pub packets_shown : List ℕ → List ℕ → CapturedReply → List ℕ
packets_shown source request Missing = source_shown source ++ encode_lower request
packets_shown source request (Octets reply) =
    source_shown source ++ encode_lower request ++ codes " " ++ encode_lower reply
packets_shown source request Challenge = source_shown source ++ encode_lower request
packets_shown source request (Unread f) = source_shown source ++ encode_lower request

-- what is after the name: the packets, or why there are none
abbrev pub after_name : List ℕ → CapturedReply → Result RecordRequest RecordFault → List ℕ
after_name source reply (Err f) = refusal_shown f
after_name source reply (Ok request) =
    if is_alone request then packets_shown source request.octets reply
    else codes "initial lists"

-- the word of a name, which a space ends
abbrev pub word_of_name : List ℕ → List ℕ
word_of_name name = take (length name - 1) name

-- a name that would be read as the packet of its line, as its source or as no name
abbrev pub is_misread : List ℕ → Bool
is_misread name = is_packet_word (word_of_name name) || is_source (word_of_name name)
    || not (is_name (word_of_name name))

-- a name as a line of packets has it: one that would be misread is left out
abbrev pub name_in_line : List ℕ → List ℕ
name_in_line name = if is_misread name then [] else name

-- the line of a record with this number, from this source
abbrev pub packet_line : ℕ → List ℕ → Entry → List ℕ
packet_line number source entry = or_number number (name_in_line entry.identifier)
    ++ after_name source entry.reply entry.request ++ codes "\n"
