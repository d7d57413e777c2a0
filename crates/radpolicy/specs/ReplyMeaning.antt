-- What the reply packet of a run is read as (RFC 2865, sections 3 and 5.33; RFC 2866, section 3; RFC 3579, section
-- 3.2).
use Rattle.std.specs.Prelude.{◌≡◌, ℕ, List, [], Some, true}
use Rattle.avp_dict.specs.Dictionary.{Dictionary}
use Rattle.avp_packet.specs.declared.packets.Packet.{Packet}
use Rattle.avp_packet.specs.Means.{Means}
use Rattle.avp_packet.specs.Packets.{attributes_of, code_of, hiding_authenticator, is_reply, pairs_meant, reply_content}
use Rattle.avp_packet.specs.Sending.{Content, is_to_sign}
use Rattle.avp_packet.specs.Signed.{is_signed}
use Rattle.avp_packet.specs.Splitting.{left, parts}
use Rattle.avp_unlang.specs.Meaning.{Outcome as End}
use Rattle.avp_unlang.specs.declared.tree.Statement.{Statement}
use Rattle.radpolicy.specs.JobReports.{IsOpened, IsPolicy, IsReceived, Opened, run_of}
use Rattle.radpolicy.specs.Replies.{Sent, answer_of, answered_authenticator, proxy_states, reply_pairs, signs_reply}
use Rattle.radpolicy.specs.declared.jobs.Form.{Form}
use Rattle.radpolicy.specs.declared.jobs.Job.{Job}

-- octets are accepted as a reply to a request with this authenticator, and signed where they are to be, and their
-- attributes are whole and mean what is sent of this content
pub record IsRead (dictionary : Dictionary) (secret : List ℕ) (id : ℕ)
    (authenticator octets : List ℕ) (content : Content) : Type 0 where
  pub accepted : is_reply octets authenticator secret ≡ true
  pub whole : left (attributes_of octets) ≡ []
  pub means : Means dictionary secret (hiding_authenticator (code_of octets) authenticator)
      (parts (attributes_of octets))
      (pairs_meant dictionary secret (code_of octets) id authenticator content)
  pub signed : is_to_sign content.kind content.pairs ≡ true
      → is_signed octets authenticator secret ≡ true

-- a packet that a run sends is accepted as the reply to its request, signed where the request is an Access-Request with
-- a Message-Authenticator, and means what is sent of the final reply list, or of no pairs after `fail`, and of the
-- request's Proxy-States
abbrev pub ReplyIsRead : Form → Dictionary → List ℕ → Packet → End → Type 0
ReplyIsRead form dictionary secret request end = (authenticator octets : List ℕ)
    → answered_authenticator form dictionary secret request ≡ Some authenticator
    → answer_of form dictionary secret request end ≡ Sent octets
    → IsRead dictionary secret request.id authenticator octets
    (reply_content (signs_reply request) (reply_pairs end.code end.state.reply)
    (proxy_states request))

-- the same of what the policy makes of the request, where there is a secret
abbrev pub RunIsRead : Form → Opened → List Statement → Packet → Type 0
RunIsRead form opened statements request =
    (secret : List ℕ) → opened.secret ≡ Some secret
    → ReplyIsRead form opened.dictionary secret request
    (run_of opened.dictionary statements request)

-- the same of the job's run
pub record IsRunRead (job : Job) : Type 0 where
  pub opened : Opened
  pub statements : List Statement
  pub request : Packet
  pub opens : IsOpened job opened
  pub policy : IsPolicy job opened.dictionary statements
  pub received : IsReceived job opened request
  pub read : RunIsRead job.form opened statements request
