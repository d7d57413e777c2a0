-- Each pair that is read is canonical, unless it holds others.
use Rattle.std.proofs.Common.{◌≡◌, ◌∙◌, ℕ, ◌<◌, ◌≤◌, true, false, not, ◌&&◌, cond, List, length, Option, Some, None, refl, sym, ap}
use Rattle.std.specs.Prelude.{IfSome}
use Rattle.std.specs.List.{All}
use Rattle.std.specs.Option.{option_and_then, unwrap_or}
use Rattle.std.proofs.lemmas.Bool.{false≢true}
use Rattle.avp_lists.specs.declared.pairs.AttrId.{AttrId}
use Rattle.avp_lists.specs.declared.pairs.AttrId.TheVariants.{Plain}
use Rattle.avp_lists.specs.declared.pairs.Value.{Value}
use Rattle.avp_lists.specs.declared.pairs.Value.TheVariants.{Raw}
use Rattle.avp_lists.specs.Pairs.{value_eq}
use Rattle.avp_lists.proofs.Equality.{value_eq-same}
use Rattle.avp_dict.specs.declared.entries.Kind.{Kind}
use Rattle.avp_dict.specs.declared.entries.Kind.TheVariants as kinds
use Rattle.avp_dict.specs.Dictionary.{Dictionary}
use Rattle.avp_dict.specs.Limits.{is_known, max_octets}
use Rattle.avp_dict.specs.Names.{Described, described}
use Rattle.avp_dict.specs.Octets.{is_hidden, is_hideable, octets, read_by, read_value, value_of_octets, value_read}
use Rattle.avp_dict.specs.Sent.{is_block_length, is_canonical, is_container, survives_hiding}
use Rattle.avp_dict.specs.Soundness.{IsSound}
use Rattle.avp_dict.specs.Types.{is_text_kind}
use Rattle.avp_packet.specs.Hiding.{shown, shown_by}
use Rattle.avp_packet.specs.Meanings.{attribute_pairs, pair_meant, raw_pair, value_meant, value_shown}
use Rattle.avp_packet.specs.CanonicalOrContainer.{IsCanonicalOrContainer}
use Rattle.avp_packet.specs.Splitting.{Part, parts}
use Rattle.avp_packet.proofs.FittingPairs.{octets_same, pair_fits}
use Rattle.avp_packet.proofs.FittingLists.{IsGood, octets_hold}
use Rattle.avp_packet.proofs.Nuls.{shown-with_secret}
use Rattle.avp_packet.proofs.OctetRanges.{AreBytes, IsRead, IsShown, octets_read, shown_by_holds}
use Rattle.avp_packet.proofs.ValuesReadBack.{hides_text}
use Rattle.avp_packet.proofs.Tests.{by_test}

-- the value of a type of text or octets is not raw
text_shown : (kind : Kind) (os : List ℕ) → is_text_kind (Some kind) ≡ true → survives_hiding (unwrap_or (value_read kind os) (Raw os)) ≡ true
text_shown kinds.Text os t = refl
text_shown kinds.Bytes os t = refl
text_shown _ os t = absurd (false≢true t)

module _ (dictionary : Dictionary) where
  -- the value of octets has these octets
  read_back : (id : AttrId) (os : List ℕ) (d : Described) → described id dictionary ≡ Some d → (o : Option Value) → IfSome o (IsRead d.kind os) → octets id (unwrap_or o (Raw os)) dictionary ≡ os
  unfolding octets
  read_back id os d e None is = refl
  read_back id os d e (Some v) is = octets_same dictionary id v d os e is.octets

  described_back : (id : AttrId) (os : List ℕ) → AreBytes os → (o : Option Described) → described id dictionary ≡ o → octets id (unwrap_or (option_and_then (read_by os) o) (Raw os)) dictionary ≡ os
  unfolding octets
  described_back id os bytes None e = refl
  described_back id os bytes (Some d) e =
      by_test (octets id (unwrap_or (cond (d.hidden && not (is_hideable os)) None (value_read d.kind os)) (Raw os)) dictionary ≡ os) (d.hidden && not (is_hideable os))
      (λ h. rw h refl)
      (λ h. rw h (read_back id os d e (value_read d.kind os) (octets_read d.kind os bytes)))

  octets_back : (id : AttrId) (os : List ℕ) → AreBytes os → octets id (value_of_octets id os dictionary) dictionary ≡ os
  unfolding value_of_octets read_value
  octets_back id os bytes = described_back id os bytes (described id dictionary) refl

  plain_own : (id : AttrId) (os : List ℕ) → AreBytes os → value_eq (value_of_octets id os dictionary) (value_of_octets id (octets id (value_of_octets id os dictionary) dictionary) dictionary) ≡ true
  plain_own id os bytes =
      ap (λ (xs : List ℕ). value_eq (value_of_octets id os dictionary) (value_of_octets id xs dictionary)) (octets_back id os bytes)
      ∙ value_eq-same (value_of_octets id os dictionary)

module _ (dictionary : Dictionary) (sound : IsSound dictionary) where
  password_shown : (id : AttrId) (os : List ℕ) → is_hideable os ≡ true → (o : Option Described) → described id dictionary ≡ o → is_hidden id dictionary ≡ true → survives_hiding (unwrap_or (option_and_then (read_by os) o) (Raw os)) ≡ true
  password_shown id os good None e h = absurd (false≢true (rw e at h))
  password_shown id os good (Some d) e h =
      let hides : d.hidden ≡ true = rw e at h in
      rw (hides, good) (text_shown d.kind os (hides_text dictionary sound id d e hides))

  module _ (secret authenticator : List ℕ) (keyed : 0 < length secret) where
    at_none : (os : List ℕ) → shown secret authenticator os ≡ None → is_block_length (length os) ≡ false
    unfolding shown
    at_none os e = by_test (is_block_length (length os) ≡ false) (is_block_length (length os)) (λ t. absurd (let some = rw t at e in cc)) (λ f. f)

    none_shown : (os : List ℕ) → shown_by secret authenticator os ≡ None → is_block_length (length os) ≡ false
    none_shown os e = at_none os (sym (shown-with_secret secret authenticator os keyed) ∙ e)

    shown_own : (id : AttrId) (os : List ℕ) → is_hidden id dictionary ≡ true → (o : Option (List ℕ)) → shown_by secret authenticator os ≡ o → IfSome o (IsShown os) → survives_hiding (value_shown dictionary id os o) ≡ true
    unfolding value_of_octets read_value
    shown_own id os h None e is = rw (none_shown os e)
    shown_own id os h (Some password) e is = password_shown id password is.hideable (described id dictionary) refl h

    value_own : (id : AttrId) (os : List ℕ) → AreBytes os → let v = value_meant dictionary secret authenticator id os in cond (is_hidden id dictionary) (survives_hiding v) (value_eq v (value_of_octets id (octets id v dictionary) dictionary)) ≡ true
    unfolding value_meant
    value_own id os bytes =
        let v : Value = cond (is_hidden id dictionary) (value_shown dictionary id os (shown_by secret authenticator os)) (value_of_octets id os dictionary) in
        by_test (cond (is_hidden id dictionary) (survives_hiding v) (value_eq v (value_of_octets id (octets id v dictionary) dictionary)) ≡ true) (is_hidden id dictionary)
        (λ h. rw h (shown_own id os h (shown_by secret authenticator os) refl (shown_by_holds secret authenticator os bytes)))
        (λ h. rw h (plain_own dictionary id os bytes))

    pair_own : (id : AttrId) (os : List ℕ) → is_known id dictionary ≡ true → AreBytes os → length os ≤ max_octets id dictionary → IsCanonicalOrContainer dictionary (pair_meant dictionary secret authenticator id os)
    unfolding is_canonical
    pair_own id os known bytes short = λ alone. rw (pair_fits dictionary secret authenticator id os known bytes short) (value_own id os bytes)

    kept_own : (p : Part) → IsGood p → is_container (Plain p.number) ≡ true → IsCanonicalOrContainer dictionary (raw_pair p)
    kept_own p good held = λ alone. absurd (false≢true (sym alone ∙ held))

    -- the pairs of a packet's attributes
    pub octets_own : (os : List ℕ) → AreBytes os → length os ≤ 4076 → All (IsCanonicalOrContainer dictionary) (attribute_pairs dictionary secret authenticator (parts os))
    octets_own os bytes short = octets_hold dictionary secret authenticator (IsCanonicalOrContainer dictionary) pair_own kept_own os bytes short
