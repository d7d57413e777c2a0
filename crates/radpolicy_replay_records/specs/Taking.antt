-- Which records are taken: all, or those to which a reply with this code was captured. One that can't be read is taken
-- whatever is asked for, and so refused.
use Rattle.std.specs.Prelude.{ℕ, ◌==◌, Bool, true, false, List, [], ◌∷◌, Option, None, Some, Result, Err, Ok}
use Rattle.avp_packet.specs.Packets.{access_challenge}
use Rattle.radpolicy_record_answers.specs.declared.answers.RecordFault.{RecordFault}
use Rattle.radpolicy_record_answers.specs.declared.captured.CapturedReply.{CapturedReply}
use Rattle.radpolicy_record_answers.specs.declared.captured.CapturedReply.TheVariants.{Challenge, Missing, Octets, Unread}
use Rattle.radpolicy_record_answers.specs.declared.entries.Entry.{Entry}
use Rattle.radpolicy_record_answers.specs.declared.requests.RecordRequest.{RecordRequest}

-- a packet of this code
abbrev pub begins_with : ℕ → List ℕ → Bool
begins_with code [] = false
begins_with code (o ∷ os) = o == code

-- a reply that has this code, or whose code is not known
abbrev pub may_have_code : ℕ → CapturedReply → Bool
may_have_code code Missing = false
may_have_code code (Octets octets) = begins_with code octets
may_have_code code Challenge = code == access_challenge
may_have_code code (Unread f) = true

abbrev pub is_asked_for : ℕ → Result RecordRequest RecordFault → CapturedReply → Bool
is_asked_for code (Ok request) reply = may_have_code code reply
is_asked_for code (Err f) reply = true

abbrev pub is_taken : Option ℕ → Entry → Bool
is_taken None entry = true
is_taken (Some code) entry = is_asked_for code entry.request entry.reply
