-- The value of a canonical pair is read back from the octets that it is sent in.
use Rattle.std.proofs.Common.{◌≡◌, ◌∙◌, ℕ, ◌<◌, Bool, true, false, cond, List, length, Option, Some, None, refl, sym, subst}
use Rattle.std.proofs.lemmas.Bool.{and_parts, false≢true, not-true}
use Rattle.avp_lists.specs.declared.pairs.AttrId.{AttrId}
use Rattle.avp_lists.specs.declared.pairs.Pair.{Pair}
use Rattle.avp_lists.specs.declared.pairs.Value.{Value}
use Rattle.avp_lists.specs.declared.pairs.Value.TheVariants.{Text, Bytes, Int, Signed, Addr, Ether, Raw}
use Rattle.avp_lists.specs.Pairs.{value_eq}
use Rattle.avp_lists.proofs.Equality.{same_value}
use Rattle.avp_dict.specs.declared.entries.Kind.{Kind}
use Rattle.avp_dict.specs.declared.entries.Kind.TheVariants as kinds
use Rattle.avp_dict.specs.Dictionary.{Dictionary}
use Rattle.avp_dict.specs.Limits.{fits, is_of_kind, is_typed}
use Rattle.avp_dict.specs.Names.{Described, described}
use Rattle.avp_dict.specs.Octets.{is_hidden, is_hideable, octets, read_value, value_of_octets, value_read}
use Rattle.avp_dict.specs.Sent.{is_block_length, is_canonical, is_raw, survives_hiding}
use Rattle.avp_dict.specs.Soundness.{IsSound}
use Rattle.avp_dict.specs.Types.{is_text_kind}
use Rattle.avp_dict.proofs.PrintedNames.{is_described}
use Rattle.avp_packet.specs.AttributeOctets.{sent_octets}
use Rattle.avp_packet.specs.Hiding.{hidden, shown}
use Rattle.avp_packet.specs.Meanings.{value_meant}
use Rattle.avp_packet.proofs.Nuls.{shown-hidden, shown-with_secret}
use Rattle.avp_packet.proofs.AttributeRoom.{fits_typed, fits_within, within_hideable}
use Rattle.avp_packet.proofs.Tests.{by_test}

shown_none : (secret authenticator os : List ℕ) → is_block_length (length os) ≡ false → shown secret authenticator os ≡ None
unfolding shown
shown_none secret authenticator os h = rw h

module _ (dictionary : Dictionary) (sound : IsSound dictionary) where
  pub hides_text : (id : AttrId) (d : Described) → described id dictionary ≡ Some d → d.hidden ≡ true → is_text_kind (Some d.kind) ≡ true
  hides_text id d e h =
      let x = is_described dictionary sound id d e in
      let text : is_text_kind (Some x.typing.kind) ≡ true = x.keeps.hides (x.hidden ∙ h) in
      subst (λ (k : Kind). is_text_kind (Some k) ≡ true) x.kind text

  typed_by : (id : AttrId) (v : Value) (d : Described) → is_raw v ≡ false → described id dictionary ≡ Some d → is_typed id v dictionary ≡ true → is_of_kind v d.kind ≡ true
  typed_by id (Raw os) d r e h = absurd (false≢true (sym r))
  typed_by id (Text os) d r e h = rw e at h
  typed_by id (Bytes os) d r e h = rw e at h
  typed_by id (Int n) d r e h = rw e at h
  typed_by id (Signed z) d r e h = rw e at h
  typed_by id (Addr os) d r e h = rw e at h
  typed_by id (Ether os) d r e h = rw e at h

  -- a hidden value of its type is text or octets
  read_text : (id : AttrId) (kind : Kind) (v : Value) → is_text_kind (Some kind) ≡ true → is_raw v ≡ false → is_of_kind v kind ≡ true → value_read kind (octets id v dictionary) ≡ Some v
  unfolding octets
  read_text id kinds.Text (Text os) t r h = refl
  read_text id kinds.Bytes (Bytes os) t r h = refl
  read_text id kinds.Text (Raw os) t r h = absurd (false≢true (sym r))
  read_text id kinds.Bytes (Raw os) t r h = absurd (false≢true (sym r))
  read_text id kinds.Text v t r h = absurd (false≢true h)
  read_text id kinds.Bytes v t r h = absurd (false≢true h)
  read_text id _ v t r h = absurd (false≢true t)

  text_by : (id : AttrId) (v : Value) (o : Option Described) → described id dictionary ≡ o → is_hidden id dictionary ≡ true → is_raw v ≡ false → is_typed id v dictionary ≡ true → is_hideable (octets id v dictionary) ≡ true
      → value_of_octets id (octets id v dictionary) dictionary ≡ v
  unfolding value_of_octets read_value
  text_by id v None e h r t k = absurd (false≢true (rw e at h))
  text_by id v (Some d) e h r t k =
      let hides : d.hidden ≡ true = rw e at h in
      let os : List ℕ = octets id v dictionary in
      let read : value_read d.kind os ≡ Some v = read_text id d.kind v (hides_text id d e hides) r (typed_by id v d r e t) in
      rw (e, hides, k, read)

  -- the value of a canonical pair is read back
  module _ (secret authenticator : List ℕ) (keyed : 0 < length secret) where
    raw_back : (id : AttrId) (os : List ℕ) → is_hidden id dictionary ≡ true → survives_hiding (Raw os) ≡ true → value_meant dictionary secret authenticator id (sent_octets dictionary secret authenticator (record { id = id; value = Raw os })) ≡ Raw os
    unfolding value_meant sent_octets octets
    raw_back id os h s = rw (h, shown-with_secret secret authenticator os keyed, shown_none secret authenticator os (not-true (is_block_length (length os)) s))

    typed_back : (id : AttrId) (v : Value) → fits (record { id = id; value = v }) dictionary ≡ true → is_hidden id dictionary ≡ true → is_raw v ≡ false → value_meant dictionary secret authenticator id (sent_octets dictionary secret authenticator (record { id = id; value = v })) ≡ v
    unfolding value_meant sent_octets
    typed_back id v f h r =
        let p : Pair = record { id = id; value = v } in
        let os : List ℕ = octets id v dictionary in
        let good : is_hideable os ≡ true = within_hideable dictionary id v h r (fits_within dictionary p f) in
        rw (h, r, shown-with_secret secret authenticator (hidden secret authenticator os) keyed, shown-hidden secret authenticator os good) (text_by id v (described id dictionary) refl h r (fits_typed dictionary p f) good)

    hidden_back : (id : AttrId) (v : Value) → fits (record { id = id; value = v }) dictionary ≡ true → is_hidden id dictionary ≡ true → survives_hiding v ≡ true → value_meant dictionary secret authenticator id (sent_octets dictionary secret authenticator (record { id = id; value = v })) ≡ v
    hidden_back id (Raw os) f h s = raw_back id os h s
    hidden_back id v f h s = typed_back id v f h refl

    plain_back : (p : Pair) → is_hidden p.id dictionary ≡ false → value_eq p.value (value_of_octets p.id (octets p.id p.value dictionary) dictionary) ≡ true → value_meant dictionary secret authenticator p.id (sent_octets dictionary secret authenticator p) ≡ p.value
    unfolding value_meant sent_octets
    plain_back p h e = rw h (sym (same_value p.value (value_of_octets p.id (octets p.id p.value dictionary) dictionary) e))

    pub value_back : (p : Pair) → is_canonical p dictionary ≡ true → value_meant dictionary secret authenticator p.id (sent_octets dictionary secret authenticator p) ≡ p.value
    unfolding is_canonical
    value_back p h =
        let own : Bool = value_eq p.value (value_of_octets p.id (octets p.id p.value dictionary) dictionary) in
        let both : (fits p dictionary ≡ true) × (cond (is_hidden p.id dictionary) (survives_hiding p.value) own ≡ true) = and_parts _ _ h in
        by_test (value_meant dictionary secret authenticator p.id (sent_octets dictionary secret authenticator p) ≡ p.value) (is_hidden p.id dictionary)
        (λ e. hidden_back p.id p.value both.0 e (rw e at both.1))
        (λ e. plain_back p e (rw e at both.1))
