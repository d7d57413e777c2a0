-- What the line of a record says: a word that names it, the request's packet, and the reply that was sent.
use Rattle.std.specs.Prelude.{ℕ, ◌==◌, Bool, true, false, not, ◌&&◌, ◌||◌, nat_eq, nat_le, nat_lt, if◌then◌else◌, List, [], ◌∷◌, ◌++◌, codes, decimal, drop, find, length, slice_index, Option, None, Some, Result, Ok, Err}
use Rattle.std.specs.List.{count_by, flat_map, list_all, list_any}
use Rattle.std.specs.Option.{option_and, option_and_then, option_map_or}
use Rattle.std.specs.declared.net.ip_addr.IpAddr.{IpAddr}
use Rattle.hex.specs.Hex.{decode_of, is_hex_digit}
use Rattle.hex.specs.declared.error.FromHexError.{FromHexError}
use Rattle.avp_dict.specs.Ascii.{full_stop}
use Rattle.avp_dict.specs.Quotes.{octal_escape}
use Rattle.avp_dict.specs.Spellings.{is_colon}
use Rattle.radpolicy.specs.Scripts.{line_words}
use Rattle.radpolicy.specs.declared.faults.Fault.{Fault}
use Rattle.radpolicy.specs.declared.faults.Fault.TheVariants as fault
use Rattle.radpolicy_clients.specs.Addresses.{address_of}
use Rattle.radpolicy_record_answers.specs.Requests.{request_alone}
use Rattle.radpolicy_record_answers.specs.declared.answers.RecordFault.{RecordFault}
use Rattle.radpolicy_record_answers.specs.declared.answers.RecordFault.TheVariants.{Request}
use Rattle.radpolicy_record_answers.specs.declared.records.TheConstants.{MAX_LINE_OCTETS}
use Rattle.radpolicy_record_answers.specs.declared.requests.RecordRequest.{RecordRequest}

-- ---- words

-- 40 hexadecimal digits or more, as a packet has 20 octets at least (RFC 2865, section 3)
unfoldable pub is_packet_word : List ℕ → Bool
is_packet_word word = nat_le 40 (length word) && list_all is_hex_digit word

-- the words before the first packet
abbrev pub words_before : List (List ℕ) → List (List ℕ)
words_before [] = []
words_before (word ∷ words) = if is_packet_word word then [] else word ∷ words_before words

-- ---- the source of a record

abbrev pub is_full_stop : ℕ → Bool
is_full_stop o = o == full_stop

abbrev pub is_address_octet : ℕ → Bool
is_address_octet o = is_hex_digit o || is_full_stop o || is_colon o

-- two colons in a row
abbrev pub has_double_colon : List ℕ → Bool
has_double_colon [] = false
has_double_colon (o ∷ os) = (is_colon o && begins os) || has_double_colon os
  where
    begins : List ℕ → Bool
    begins [] = false
    begins (next ∷ _) = is_colon next

-- the word has the form of an IPv4 or IPv6 address
abbrev pub is_address : List ℕ → Bool
is_address word = list_all is_address_octet word
    && (count_by is_full_stop word == 3 || count_by is_colon word == 7 || has_double_colon word)

-- src=
abbrev pub begins_source : List ℕ → Bool
begins_source word = (slice_index word 0 == 115) && (slice_index word 1 == 114)
    && (slice_index word 2 == 99) && (slice_index word 3 == 61)

unfoldable pub is_source : List ℕ → Bool
is_source word = begins_source word || is_address word

abbrev pub is_no_source : List ℕ → Bool
is_no_source word = not (is_source word)

-- the text of a source's address
unfoldable pub source_text : List ℕ → List ℕ
source_text word = if begins_source word then drop 4 word else word

-- the address of a record's source: of the first word before the packet that is one
abbrev pub source_of : List ℕ → Option IpAddr
source_of line = option_and_then (λ word. address_of (source_text word))
    (find is_source (words_before (line_words line)))

-- ---- the name of a record

-- an octet of a word: as it is from 0x21 to 0x7e, else `\` and three octal digits
abbrev pub octet_shown : ℕ → List ℕ
octet_shown o = if nat_le 33 o && nat_le o 126 then o ∷ [] else octal_escape o

-- a word, and a space
abbrev pub word_shown : List ℕ → List ℕ
word_shown word = flat_map octet_shown word ++ codes " "

-- the word that names a record: the first that is no source before its packet; words without a packet name none
abbrev pub name_word : List (List ℕ) → Option (List ℕ)
name_word words =
    option_and (find is_packet_word words) (find is_no_source (words_before words))

-- octets of what logs and configurations say, and of no name
unfoldable pub is_no_name_octet : ℕ → Bool
is_no_name_octet o = list_any (nat_eq o) (codes "=\"'[/")

abbrev pub is_name : List ℕ → Bool
is_name word = not (list_any is_no_name_octet word)

-- a word that names nothing is not shown
abbrev pub name_shown : List ℕ → List ℕ
name_shown word = if is_name word then word_shown word else []

abbrev pub identifier_shown : List (List ℕ) → List ℕ
identifier_shown words = option_map_or name_shown (name_word words) []

abbrev pub is_too_long : List ℕ → Bool
is_too_long line = nat_lt MAX_LINE_OCTETS (length line)

-- what a record is called: its identifier, or where it has none its number
abbrev pub or_number : ℕ → List ℕ → List ℕ
or_number number [] = decimal number ++ codes " "
or_number number (o ∷ os) = o ∷ os

-- the identifier of a line; of one that is too long nothing is read
unfoldable pub line_identifier : List ℕ → List ℕ
line_identifier line = if is_too_long line then [] else identifier_shown (line_words line)

-- ---- the packet of a record

abbrev pub octets_decoded : Result (List ℕ) FromHexError → Result (List ℕ) Fault
octets_decoded (Ok octets) = Ok octets
octets_decoded (Err _) = Err fault.NotHex

abbrev pub octets_of_word : Option (List ℕ) → Result (List ℕ) Fault
octets_of_word None = Err fault.NotHex
octets_of_word (Some word) = octets_decoded (decode_of word)

-- a request, or why its record is refused
abbrev pub request_taken : Result (List ℕ) Fault → Result RecordRequest RecordFault
request_taken (Ok octets) = Ok (request_alone octets)
request_taken (Err f) = Err (Request f)

-- the octets of the request: those of the first packet
unfoldable pub request_octets : List ℕ → Result (List ℕ) Fault
request_octets line = if is_too_long line then Err fault.PacketTooLong
    else octets_of_word (find is_packet_word (line_words line))
