-- What a run comes to: its lists, its code, whether it was stopped, and what it sends.
use Rattle.std.specs.Prelude.{◌≡◌, ℕ, List, [], Option, Some, None, codes}
use Rattle.std.specs.Option.{option_map}
use Rattle.avp_dict.specs.Dictionary.{Dictionary}
use Rattle.avp_forms.specs.declared.profiles.Profile.{Profile}
use Rattle.avp_unlang.specs.Meaning.{Outcome as End, meaning_of}
use Rattle.avp_unlang.specs.declared.codes.Code.TheVariants as code
use Rattle.radpolicy.specs.Replies.{Answer, Nothing, Sent, TooLong, answer_of}
use Rattle.radpolicy.specs.ReplyMeaning.{ReplyIsRead}
use Rattle.radpolicy.specs.Reports.{Report, packet_line, run_report}
use Rattle.radpolicy.specs.Starts.{Prepared, Start, entry_of}
use Rattle.radpolicy.specs.declared.run_outcomes.Reply.{Reply}
use Rattle.radpolicy.specs.declared.run_outcomes.Reply.TheVariants as reply

-- where a run ends: what the policy means from the start's lists and the code `ok`
abbrev pub end_of : Start → End
end_of start =
    meaning_of start.prepared.dictionary start.prepared.statements (entry_of start) code.Ok

-- what is sent, where it is not too long
abbrev pub reply_of : Answer → Option Reply
reply_of Nothing = Some reply.Nothing
reply_of (Sent octets) = Some (reply.Packet octets)
reply_of TooLong = None

-- what a run that ended so sends; without a secret no packet is made
abbrev pub sent_reply : Start → End → Option Reply
sent_reply start end =
    elim start.secret [
      | None ↦ Some reply.Unmade
      | Some secret ↦
          reply_of (answer_of start.form start.prepared.dictionary secret start.request end)
    ]

-- what a run came to, over this dictionary, by a policy of this profile
pub record RunOutcome : Type 0 where
  pub dictionary : Dictionary
  pub profile : Profile
  pub end : End
  pub reply : Reply

abbrev pub outcome_with : Prepared → End → Reply → RunOutcome
outcome_with prepared end sent = record {
  dictionary = prepared.dictionary;
  profile = prepared.profile;
  end = end;
  reply = sent;
}

-- what a run comes to; none where its packet is too long
abbrev pub outcome_of : Start → Option RunOutcome
outcome_of start =
    option_map (outcome_with start.prepared (end_of start))
    (sent_reply start (end_of start))

-- a packet that the run sends is accepted as the reply to its request, and means what is sent of the final reply list
-- and of the request's Proxy-States
abbrev pub OutcomeIsRead : Start → Type 0
OutcomeIsRead start = (secret : List ℕ) → start.secret ≡ Some secret
    → ReplyIsRead start.form start.prepared.dictionary secret start.request (end_of start)

-- ---- the report of a run

-- the line of what is sent: nothing is said of it without a secret
abbrev pub reply_line : Reply → List ℕ
reply_line reply.Unmade = []
reply_line reply.Nothing = codes "packet none\n"
reply_line (reply.Packet octets) = packet_line octets

-- the report of an outcome: its lists, its result, and what is sent
abbrev pub outcome_report : RunOutcome → Report
outcome_report outcome =
    run_report outcome.profile outcome.dictionary outcome.end (reply_line outcome.reply)
