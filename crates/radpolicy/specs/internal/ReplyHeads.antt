-- What a reply takes of its request, and the reply that is made of it.
use Rattle.std.specs.Prelude.{◌≡◌, ℕ, true, false, All, List, Option, Some, None, Result, Ok, Err}
use Rattle.std.specs.declared.alloc.Global.{Global}
use Rattle.std.specs.declared.vec.Vec.{Vec}
use Rattle.avp_lists.specs.declared.pairs.AttrId.TheVariants.{Plain}
use Rattle.avp_lists.specs.declared.pairs.Pair.{Pair}
use Rattle.radpolicy.specs.internal.Fitting.{AllFit}
use Rattle.radpolicy.specs.RunOutcomes.{reply_of}
use Rattle.radpolicy.specs.declared.run_outcomes.Reply.{Reply}
use Rattle.radpolicy.specs.declared.run_outcomes.Reply.TheVariants as reply
use Rattle.avp_dict.specs.AttributeNumbers.{proxy_state}
use Rattle.avp_dict.specs.Dictionary.{Dictionary}
use Rattle.avp_packet.specs.declared.faults.EncodeFault.{EncodeFault}
use Rattle.avp_packet.specs.declared.faults.EncodeFault.TheVariants as encode
use Rattle.avp_unlang.specs.declared.codes.Code.{Code}
use Rattle.radpolicy.specs.declared.replies.ReplyHead.{ReplyHead}
use Rattle.radpolicy.specs.Replies.{Answer, Nothing, Sent, TooLong, answered_authenticator, proxy_states, reply_code, reply_pairs, reply_with, signs_reply}
use Rattle.avp_packet.specs.Packets.{accounting_request, reply_content}
use Rattle.radpolicy.specs.ReplyMeaning.{IsRead}
use Rattle.radpolicy.specs.declared.jobs.Form.{Form}
use Rattle.avp_packet.specs.declared.packets.Packet.{Packet}
use Rattle.avp_dict.specs.Sent.{is_clean}

-- what is sent after this code, with these pairs
unfoldable pub answered_by : Dictionary → ReplyHead → Code → List Pair → Answer
answered_by dictionary head last pairs =
    reply_with dictionary head.secret.now head.id head.authenticator head.signed
    (reply_pairs last pairs)
    head.proxy_states.items (reply_code head.code last)

-- a packet that is sent so is accepted, and read as its pairs and Proxy-States where these are clean
unfoldable pub AnswerIsRead : Dictionary → ReplyHead → Code → List Pair → Type 0
AnswerIsRead dictionary head last pairs =
    is_clean pairs dictionary ≡ true → is_clean head.proxy_states.items dictionary ≡ true
    → (authenticator octets : List ℕ) → head.authenticator ≡ Some authenticator
    → answered_by dictionary head last pairs ≡ Sent octets
    → IsRead dictionary head.secret.now head.id authenticator octets
    (reply_content head.signed (reply_pairs last pairs) head.proxy_states.items)

-- the same where there is a head
unfoldable pub SentIsRead : Dictionary → Option ReplyHead → Code → List Pair → Type 0
SentIsRead dictionary head last pairs =
    (own : ReplyHead) → head ≡ Some own → AnswerIsRead dictionary own last pairs

-- what a head takes of a request and the secret
pub record IsHeadOf (form : Form) (dictionary : Dictionary) (key : List ℕ) (request : Packet)
    (head : ReplyHead) : Type 0 where
  pub secret : head.secret.now ≡ key
  pub code : head.code ≡ request.code
  pub id : head.id ≡ request.id
  pub authenticator : head.authenticator ≡ answered_authenticator form dictionary key request
  pub signed : head.signed ≡ signs_reply request
  pub proxies : head.proxy_states.items ≡ proxy_states request

-- the same where there is a secret, and no head where there is none
abbrev pub IsHeadFor : Form → Dictionary → Option (List ℕ) → Packet → Option ReplyHead → Type 0
IsHeadFor form dictionary None request head = head ≡ None
IsHeadFor form dictionary (Some key) request None = ⊥
IsHeadFor form dictionary (Some key) request (Some head) =
    IsHeadOf form dictionary key request head

-- A call's result is this answer, unless memory ran out. An answer is no `Result`, so this is no case of `Meets`.
abbrev pub IsAnswer : Result (Option (Vec ℕ Global)) EncodeFault → Answer → Type 0
IsAnswer (Ok None) answer = answer ≡ Nothing
IsAnswer (Ok (Some octets)) answer = answer ≡ Sent octets.items
IsAnswer (Err encode.TooLong) answer = answer ≡ TooLong
IsAnswer (Err encode.Memory) answer = Unit {0}

-- what is sent: no packet is made without a secret, and so without a head
unfoldable pub sent_by : Dictionary → Option ReplyHead → Code → List Pair → Option Reply
sent_by dictionary None last pairs = Some reply.Unmade
sent_by dictionary (Some head) last pairs = reply_of (answered_by dictionary head last pairs)

-- a head is usable: its Proxy-States fit, and no reply to an Accounting-Request is signed
pub record IsUsable (dictionary : Dictionary) (head : ReplyHead) : Type 0 where
  pub proxies : All (λ (pair : Pair). pair.id ≡ Plain proxy_state) head.proxy_states.items
  pub fit : AllFit dictionary head.proxy_states.items
  pub signed : head.code ≡ accounting_request → head.signed ≡ false
