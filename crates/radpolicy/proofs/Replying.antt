-- What a reply takes of its request makes the reply of the run.
use Rattle.std.proofs.Common.{◌≡◌, ◌∙◌, ℕ, Bool, true, false, ◌&&◌, cond, List, [], ◌∷◌, Option, Some, None, filter, refl, sym, ap, subst}
use Rattle.std.specs.Prelude.{All, IsTrue, OnOk, Result, Ok, Err}
use Rattle.std.specs.List.{list_all}
use Rattle.std.proofs.lemmas.List.Elements.{All-cons, All-filter, All-head, All-nil, All-tail}
use Rattle.avp_lists.specs.declared.pairs.AttrId.{AttrId}
use Rattle.avp_lists.specs.declared.pairs.Pair.{Pair}
use Rattle.avp_lists.specs.Instances.{has_id, instances}
use Rattle.avp_lists.proofs.Equality.{same_id}
use Rattle.avp_dict.specs.AttributeNumbers.{proxy_state}
use Rattle.avp_dict.specs.Limits.{fits}
use Rattle.avp_dict.specs.Sent.{is_clean, is_clean_pair, is_container}
use Rattle.avp_dict.specs.Dictionary.{Dictionary}
use Rattle.avp_lists.specs.declared.pairs.AttrId.TheVariants.{Plain}
use Rattle.avp_packet.specs.CanonicalOrContainer.{IsCanonicalOrContainer}
use Rattle.avp_packet.specs.Packets.{reply_content}
use Rattle.avp_unlang.specs.declared.codes.Code.{Code}
use Rattle.avp_unlang.specs.declared.codes.Code.TheVariants as codes
use Rattle.radpolicy.specs.ReplyMeaning.{IsRead, ReplyIsRead}
use Rattle.avp_packet.specs.declared.packets.Packet.{Packet}
use Rattle.radpolicy.specs.declared.jobs.Form.{Form}
use Rattle.radpolicy.specs.declared.replies.ReplyHead.{ReplyHead}
use Rattle.radpolicy.specs.internal.Fitting.{AllFit}
use Rattle.radpolicy.specs.Replies.{Sent, answer_of, answered_authenticator, proxy_states, reply_code, reply_pairs, reply_with, signs_reply}
use Rattle.avp_unlang.specs.Meaning.{Outcome as End}
use Rattle.radpolicy.specs.internal.ReplyHeads.{AnswerIsRead, IsHeadOf, IsHeadFor, SentIsRead, answered_by}

module _ (dictionary : Dictionary) (signed : Bool) (pairs : List Pair) where
  same_reply : (key : List ℕ) (id : ℕ) (a b : Option (List ℕ)) (proxies others : List Pair) (code : Option ℕ) → a ≡ b → proxies ≡ others → reply_with dictionary key id a signed pairs proxies code ≡ reply_with dictionary key id b signed pairs others code
  same_reply key id a b proxies others code e f = rw (e, f) refl

pub head_answers : (dictionary : Dictionary) (head : ReplyHead) (form : Form) (r : Packet) → head.code ≡ r.code → head.id ≡ r.id → head.authenticator ≡ answered_authenticator form dictionary head.secret.now r → head.proxy_states.items ≡ proxy_states r → head.signed ≡ signs_reply r → (end : End) → answered_by dictionary head end.code end.state.reply ≡ answer_of form dictionary head.secret.now r end
unfolding answered_by answer_of
head_answers dictionary head form r code id authenticator proxies signed end =
    let pairs = reply_pairs end.code end.state.reply in
    let key = head.secret.now in
    ap (λ t. reply_with dictionary key head.id head.authenticator t pairs head.proxy_states.items (reply_code head.code end.code)) signed
    ∙ same_reply dictionary (signs_reply r) pairs key head.id head.authenticator (answered_authenticator form dictionary key r) head.proxy_states.items (proxy_states r) (reply_code head.code end.code) authenticator proxies
    ∙ ap (λ n. reply_with dictionary key head.id (answered_authenticator form dictionary key r) (signs_reply r) pairs (proxy_states r) (reply_code n end.code)) code
    ∙ ap (λ n. reply_with dictionary key n (answered_authenticator form dictionary key r) (signs_reply r) pairs (proxy_states r) (reply_code r.code end.code)) id

-- instances are of their id
pub instances_are : (id : AttrId) (pairs : List Pair) → All (λ (p : Pair). p.id ≡ id) (instances id pairs)
instances_are id [] = All-nil (λ (p : Pair). p.id ≡ id)
instances_are id (q ∷ pairs) = by_test (has_id id q) refl (instances_are id pairs)
  where
    by_test : (b : Bool) → has_id id q ≡ b → All (λ (p : Pair). p.id ≡ id) (filter (has_id id) pairs) → All (λ (p : Pair). p.id ≡ id) (cond b (q ∷ filter (has_id id) pairs) (filter (has_id id) pairs))
    by_test true e rest = All-cons (λ (p : Pair). p.id ≡ id) q (filter (has_id id) pairs) (same_id q.id id e) rest
    by_test false e rest = rest

-- instances of pairs that fit
pub instances_fit : (dictionary : Dictionary) (id : AttrId) (pairs : List Pair) → AllFit dictionary pairs → AllFit dictionary (instances id pairs)
instances_fit dictionary id pairs all = All-filter (has_id id) (λ p. IsTrue (fits p dictionary)) pairs all

-- ---- what is read back

module _ (dictionary : Dictionary) where
  both : (a b : Bool) → a ≡ true → b ≡ true → (a && b) ≡ true
  both a b e f = rw (e, f)

  and_left : (a b : Bool) → (a && b) ≡ true → a ≡ true
  and_left true b h = refl
  and_left false b h = h

  and_right : (a b : Bool) → (a && b) ≡ true → b ≡ true
  and_right true b h = h
  and_right false b h = absurd (cc)

  -- instances of a clean list
  pub instances_clean : (id : AttrId) (pairs : List Pair) → is_clean pairs dictionary ≡ true → is_clean (instances id pairs) dictionary ≡ true
  unfolding is_clean
  instances_clean id [] h = refl
  instances_clean id (q ∷ pairs) h =
      by_test (has_id id q) (and_left (is_clean_pair dictionary q) (list_all (is_clean_pair dictionary) pairs) h)
      (instances_clean id pairs (and_right (is_clean_pair dictionary q) (list_all (is_clean_pair dictionary) pairs) h))
    where
      by_test : (b : Bool) → is_clean_pair dictionary q ≡ true → list_all (is_clean_pair dictionary) (filter (has_id id) pairs) ≡ true → list_all (is_clean_pair dictionary) (cond b (q ∷ filter (has_id id) pairs) (filter (has_id id) pairs)) ≡ true
      by_test true own rest = both (is_clean_pair dictionary q) (list_all (is_clean_pair dictionary) (filter (has_id id) pairs)) own rest
      by_test false own rest = rest

  own_clean : (q : Pair) → q.id ≡ Plain proxy_state → IsCanonicalOrContainer dictionary q → is_clean_pair dictionary q ≡ true
  own_clean q e own =
      let free : is_container q.id ≡ false = ap is_container e in
      let canonical = own free in
      rw (canonical, free)

  -- the Proxy-States of pairs that are read from a packet
  pub proxies_clean : (pairs : List Pair) → All (IsCanonicalOrContainer dictionary) pairs → is_clean (instances (Plain proxy_state) pairs) dictionary ≡ true
  unfolding is_clean
  proxies_clean [] all = refl
  proxies_clean (q ∷ pairs) all = by_test (has_id (Plain proxy_state) q) refl (proxies_clean pairs (All-tail (IsCanonicalOrContainer dictionary) q pairs all))
    where
      by_test : (b : Bool) → has_id (Plain proxy_state) q ≡ b → list_all (is_clean_pair dictionary) (filter (has_id (Plain proxy_state)) pairs) ≡ true
          → list_all (is_clean_pair dictionary) (cond b (q ∷ filter (has_id (Plain proxy_state)) pairs) (filter (has_id (Plain proxy_state)) pairs)) ≡ true
      by_test true e rest =
          both (is_clean_pair dictionary q) (list_all (is_clean_pair dictionary) (filter (has_id (Plain proxy_state)) pairs)) (own_clean q (same_id q.id (Plain proxy_state) e) (All-head (IsCanonicalOrContainer dictionary) q pairs all)) rest
      by_test false e rest = rest

  pub reply_clean : (last : Code) (pairs : List Pair) → is_clean pairs dictionary ≡ true → is_clean (reply_pairs last pairs) dictionary ≡ true
  unfolding is_clean
  reply_clean codes.Fail pairs h = refl
  reply_clean _ pairs h = h

  -- what a head's reply is read as is what the run's is
  pub read_by : (head : ReplyHead) (form : Form) (key : List ℕ) (r : Packet) (end : End) (last : Code) (pairs : List Pair) → IsHeadOf form dictionary key r head → end.code ≡ last → pairs ≡ end.state.reply
      → is_clean pairs dictionary ≡ true → is_clean (proxy_states r) dictionary ≡ true
      → AnswerIsRead dictionary head last pairs → ReplyIsRead form dictionary key r end
  unfolding AnswerIsRead
  read_by head form key r end last pairs is code reply clean proxies read = λ authenticator octets answered sends.
      let own : answered_by dictionary head end.code end.state.reply ≡ answer_of form dictionary head.secret.now r end =
      head_answers dictionary head form r is.code is.id (is.authenticator ∙ ap (λ k. answered_authenticator form dictionary k r) (sym is.secret)) is.proxies is.signed end in
      let sent_by : answered_by dictionary head last pairs ≡ Sent octets =
      ap (λ c. answered_by dictionary head c pairs) (sym code) ∙ ap (λ ps. answered_by dictionary head end.code ps) reply ∙ own ∙ ap (λ k. answer_of form dictionary k r end) is.secret ∙ sends in
      let clean_own : is_clean head.proxy_states.items dictionary ≡ true = ap (λ (ps : List Pair). is_clean ps dictionary) is.proxies ∙ proxies in
      let known = read clean clean_own authenticator octets (is.authenticator ∙ answered) sent_by in
      let by_id = subst (λ (n : ℕ). IsRead dictionary head.secret.now n authenticator octets (reply_content head.signed (reply_pairs last pairs) head.proxy_states.items)) is.id known in
      let by_key = subst (λ (k : List ℕ). IsRead dictionary k r.id authenticator octets (reply_content head.signed (reply_pairs last pairs) head.proxy_states.items)) is.secret by_id in
      let by_signed = subst (λ (t : Bool). IsRead dictionary key r.id authenticator octets (reply_content t (reply_pairs last pairs) head.proxy_states.items)) is.signed by_key in
      let by_proxies = subst (λ (ps : List Pair). IsRead dictionary key r.id authenticator octets (reply_content (signs_reply r) (reply_pairs last pairs) ps)) is.proxies by_signed in
      let by_code = subst (λ (c : Code). IsRead dictionary key r.id authenticator octets (reply_content (signs_reply r) (reply_pairs c pairs) (proxy_states r))) (sym code) by_proxies in
      subst (λ (ps : List Pair). IsRead dictionary key r.id authenticator octets (reply_content (signs_reply r) (reply_pairs end.code ps) (proxy_states r))) reply by_code

  -- the same where there may be no secret
  pub sent_read_by : (head : Option ReplyHead) (form : Form) (key : Option (List ℕ)) (r : Packet) (end : End) (last : Code) (pairs : List Pair) → IsHeadFor form dictionary key r head → end.code ≡ last → pairs ≡ end.state.reply
      → is_clean pairs dictionary ≡ true → is_clean (proxy_states r) dictionary ≡ true
      → SentIsRead dictionary head last pairs → (secret : List ℕ) → key ≡ Some secret → ReplyIsRead form dictionary secret r end
  unfolding SentIsRead
  sent_read_by head form None r end last pairs is code reply clean proxies read secret e = absurd (cc)
  sent_read_by None form (Some k) r end last pairs is code reply clean proxies read secret e = absurd is
  sent_read_by (Some head) form (Some k) r end last pairs is code reply clean proxies read secret e =
      let same : k ≡ secret = cc in
      subst (λ (s : List ℕ). ReplyIsRead form dictionary s r end) same (read_by head form k r end last pairs is code reply clean proxies (read head refl))

  pub none_clean : is_clean [] dictionary ≡ true
  unfolding is_clean
  none_clean = refl

  pub head_read : (head : Option ReplyHead) (own : ReplyHead) (last : Code) (pairs : List Pair) → head ≡ Some own → AnswerIsRead dictionary own last pairs → SentIsRead dictionary head last pairs
  unfolding SentIsRead
  head_read head own last pairs is read = λ other e. let same : own ≡ other = cc in subst (λ (h : ReplyHead). AnswerIsRead dictionary h last pairs) same read

  pub none_read : (head : Option ReplyHead) (last : Code) (pairs : List Pair) → head ≡ None → SentIsRead dictionary head last pairs
  unfolding SentIsRead
  none_read head last pairs is = λ other e. absurd (cc)

pub ok_map : {A E : Type 0} (P Q : Type 0) (r : Result A E) → (P → Q) → OnOk r P → OnOk r Q
ok_map P Q (Ok x) f h = f h
ok_map P Q (Err e) f h = tt
