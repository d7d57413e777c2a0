-- A reply that is sent is accepted, and read as its pairs.
use Rattle.std.proofs.Common.{◌≡◌, ◌∙◌, ℕ, Bool, true, false, nat_le, cond, List, [], length, Option, Some, None, refl, sym, ap, subst}
use Rattle.avp_lists.specs.declared.pairs.Pair.{Pair}
use Rattle.avp_dict.specs.Dictionary.{Dictionary}
use Rattle.avp_dict.specs.Sent.{is_clean}
use Rattle.avp_packet.specs.Means.{Means}
use Rattle.avp_packet.specs.Packets.{attributes_of, code_of, hiding_authenticator, is_reply, max_packet_octets, packet, pairs_meant, reply, reply_content}
use Rattle.avp_packet.specs.Sending.{Content}
use Rattle.avp_packet.specs.Signed.{is_signed}
use Rattle.avp_packet.specs.Splitting.{left, parts}
use Rattle.avp_unlang.specs.declared.codes.Code.{Code}
use Rattle.radpolicy.specs.declared.replies.ReplyHead.{ReplyHead}
use Rattle.radpolicy.specs.Replies.{Nothing, Sent, reply_code, reply_pairs, sent_or_too_long, within_packet}
use Rattle.radpolicy.specs.ReplyMeaning.{IsRead}
use Rattle.radpolicy.specs.internal.ReplyHeads.{AnswerIsRead, answered_by}

sent_inverts : (o : Option (List ℕ)) (octets : List ℕ) → sent_or_too_long o ≡ Sent octets → o ≡ Some octets
sent_inverts None octets e = absurd (cc)
sent_inverts (Some os) octets e = ap (λ (xs : List ℕ). Some xs) (cc)

within_by : (b : Bool) (os octets : List ℕ) → cond b (Some os) None ≡ Some octets → os ≡ octets
within_by true os octets e = cc
within_by false os octets e = absurd (cc)

code_of_reply : (dictionary : Dictionary) (key : List ℕ) (code id : ℕ) (authenticator : List ℕ) (signed : Bool) (pairs proxies : List Pair) → code_of (reply dictionary key code id authenticator signed pairs proxies) ≡ code
unfolding reply packet
code_of_reply dictionary key code id authenticator signed pairs proxies = refl

module _ (dictionary : Dictionary) (head : ReplyHead) (last : Code) (pairs : List Pair) where
  -- nothing is sent without a code
  pub nothing_read : reply_code head.code last ≡ None → AnswerIsRead dictionary head last pairs
  unfolding AnswerIsRead answered_by
  nothing_read none = λ clean proxies authenticator octets e sends. absurd (let nothing : Nothing ≡ Sent octets = rw none at sends in cc)

  module _ (code : ℕ) (authenticator os : List ℕ) (coded : reply_code head.code last ≡ Some code) (known : head.authenticator ≡ Some authenticator) where
    abbrev made : List ℕ
    made = reply dictionary head.secret.now code head.id authenticator head.signed (reply_pairs last pairs) head.proxy_states.items

    abbrev content : Content
    content = reply_content head.signed (reply_pairs last pairs) head.proxy_states.items

    pub sent_read : os ≡ made → is_reply os authenticator head.secret.now ≡ true → left (attributes_of os) ≡ []
        → (is_clean pairs dictionary ≡ true → is_clean head.proxy_states.items dictionary ≡ true
        → Means dictionary head.secret.now (hiding_authenticator code authenticator) (parts (attributes_of os)) (pairs_meant dictionary head.secret.now code head.id authenticator content))
        → (head.signed ≡ true → is_signed os authenticator head.secret.now ≡ true)
        → AnswerIsRead dictionary head last pairs
    unfolding AnswerIsRead answered_by
    sent_read is accepted whole means signed = λ clean proxies a octets e sends.
        let same_authenticator : authenticator ≡ a = cc in
        let within : sent_or_too_long (within_packet made) ≡ Sent octets = rw (coded, known) at sends in
        let same : os ≡ octets = is ∙ within_by (nat_le (length made) max_packet_octets) made octets (sent_inverts (within_packet made) octets within) in
        let own : code_of os ≡ code = ap code_of is ∙ code_of_reply dictionary head.secret.now code head.id authenticator head.signed (reply_pairs last pairs) head.proxy_states.items in
        let read : IsRead dictionary head.secret.now head.id authenticator os content = record {
          accepted = accepted;
          whole = whole;
          means =
              subst (λ (c : ℕ). Means dictionary head.secret.now (hiding_authenticator c authenticator) (parts (attributes_of os)) (pairs_meant dictionary head.secret.now c head.id authenticator content)) (sym own) (means clean proxies);
          signed = signed;
        } in
        let by_octets = subst (λ (xs : List ℕ). IsRead dictionary head.secret.now head.id authenticator xs content) same read in
        subst (λ (x : List ℕ). IsRead dictionary head.secret.now head.id x octets content) same_authenticator by_octets
