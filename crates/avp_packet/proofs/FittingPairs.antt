-- The pairs that attributes mean fit the dictionary.
use Rattle.std.proofs.Common.{◌≡◌, ◌∙◌, ℕ, ◌≤◌, Bool, true, false, not, ◌&&◌, nat_le, cond, List, length, Option, Some, None, refl, sym, ap, arith}
use Rattle.std.specs.Prelude.{IfSome}
use Rattle.std.specs.Option.{option_and_then, unwrap_or}
use Rattle.std.proofs.lemmas.Bool.{and_parts, false≢true}
use Rattle.std.proofs.lemmas.Grind.{common_steps}
use Rattle.avp_lists.specs.declared.pairs.AttrId.{AttrId}
use Rattle.avp_lists.specs.declared.pairs.Value.{Value}
use Rattle.avp_lists.specs.declared.pairs.Value.TheVariants.{Text, Bytes, Int, Signed, Addr, Ether, Raw}
use Rattle.avp_dict.specs.Dictionary.{Dictionary}
use Rattle.avp_dict.specs.Limits.{fits, greatest_length, is_known, is_of_kind, is_typed, is_within, max_octets}
use Rattle.avp_dict.specs.Names.{Described, described}
use Rattle.avp_dict.specs.Octets.{ends_in_nul, is_hidden, is_hideable, octets, octets_of, read_by, read_value, value_of_octets, value_read, max_hidden_octets}
use Rattle.avp_packet.specs.Hiding.{shown_by}
use Rattle.avp_packet.specs.Meanings.{pair_meant, value_meant, value_shown}
use Rattle.avp_packet.proofs.OctetRanges.{AreBytes, IsRead, IsShown, octets_read, shown_by_holds}
use Rattle.avp_packet.proofs.Tests.{by_test}

module _ (dictionary : Dictionary) where
  -- a value that fits beside an id that is known
  abbrev IsFitting : AttrId → Value → Type 0
  IsFitting id v = (is_typed id v dictionary ≡ true) × (is_within id v dictionary ≡ true)

  raw_fits : (id : AttrId) (os : List ℕ) → length os ≤ max_octets id dictionary → IsFitting id (Raw os)
  raw_fits id os short = (refl, grind (arith, common_steps))

  -- a value of its type with so few octets that do not end in NUL where they are hidden
  typed_fits : (id : AttrId) (v : Value) (d : Described) → described id dictionary ≡ Some d → is_of_kind v d.kind ≡ true → length (octets id v dictionary) ≤ greatest_length id dictionary
      → not (is_hidden id dictionary && ends_in_nul (octets id v dictionary)) ≡ true → length (octets id v dictionary) ≤ max_octets id dictionary → IsFitting id v
  unfolding octets
  typed_fits id (Raw os) d e h short ends most = (refl, grind (arith, common_steps))
  typed_fits id (Text os) d e h short ends most = let low : nat_le (length (octets id (Text os) dictionary)) (greatest_length id dictionary) ≡ true = grind (arith, common_steps) in (rw e h, rw (low, ends))
  typed_fits id (Bytes os) d e h short ends most = let low : nat_le (length (octets id (Bytes os) dictionary)) (greatest_length id dictionary) ≡ true = grind (arith, common_steps) in (rw e h, rw (low, ends))
  typed_fits id (Int n) d e h short ends most = let low : nat_le (length (octets id (Int n) dictionary)) (greatest_length id dictionary) ≡ true = grind (arith, common_steps) in (rw e h, rw (low, ends))
  typed_fits id (Signed z) d e h short ends most = let low : nat_le (length (octets id (Signed z) dictionary)) (greatest_length id dictionary) ≡ true = grind (arith, common_steps) in (rw e h, rw (low, ends))
  typed_fits id (Addr os) d e h short ends most = let low : nat_le (length (octets id (Addr os) dictionary)) (greatest_length id dictionary) ≡ true = grind (arith, common_steps) in (rw e h, rw (low, ends))
  typed_fits id (Ether os) d e h short ends most = let low : nat_le (length (octets id (Ether os) dictionary)) (greatest_length id dictionary) ≡ true = grind (arith, common_steps) in (rw e h, rw (low, ends))

  plain_greatest : (id : AttrId) → is_hidden id dictionary ≡ false → greatest_length id dictionary ≡ max_octets id dictionary
  unfolding greatest_length
  plain_greatest id h = rw h

  hidden_greatest : (id : AttrId) (n : ℕ) → is_hidden id dictionary ≡ true → n ≤ max_hidden_octets → n ≤ max_octets id dictionary → n ≤ greatest_length id dictionary
  unfolding greatest_length
  hidden_greatest id n h a b = rw h (omega arith)

  pub octets_same : (id : AttrId) (v : Value) (d : Described) (os : List ℕ) → described id dictionary ≡ Some d → octets_of (Some d.kind) v ≡ os → octets id v dictionary ≡ os
  unfolding octets
  octets_same id v d os e h = rw e h

  -- what a type reads fits
  read_fits : (id : AttrId) (os : List ℕ) (d : Described) → AreBytes os → length os ≤ max_octets id dictionary → described id dictionary ≡ Some d → (d.hidden && not (is_hideable os)) ≡ false → (o : Option Value) → IfSome o (IsRead d.kind os) → IsFitting id (unwrap_or o (Raw os))
  read_fits id os d bytes short e h None is = raw_fits id os short
  read_fits id os d bytes short e h (Some v) is =
      let same = octets_same id v d os e is.octets in
      let long = ap length same in
      let hides : is_hidden id dictionary ≡ d.hidden = rw e refl in
      by_test (IsFitting id v) d.hidden
      (λ hidden.
      let good : is_hideable os ≡ true = hideable_by (is_hideable os) (rw hidden at h) in
      let low : length os ≤ max_hidden_octets = grind (arith, common_steps) in
      let ends : not (ends_in_nul os) ≡ true = (and_parts (nat_le (length os) max_hidden_octets) (not (ends_in_nul os)) good).1 in
      let kept : not (is_hidden id dictionary && ends_in_nul (octets id v dictionary)) ≡ true = rw (hides, hidden, same) ends in
      let within : length (octets id v dictionary) ≤ greatest_length id dictionary = hidden_greatest id (length (octets id v dictionary)) (hides ∙ hidden) (omega arith) (omega arith) in
      typed_fits id v d e is.typed within kept (omega arith))
      (λ plain.
      let kept : not (is_hidden id dictionary && ends_in_nul (octets id v dictionary)) ≡ true = rw (hides, plain) refl in
      let greatest = plain_greatest id (hides ∙ plain) in
      let within : length (octets id v dictionary) ≤ greatest_length id dictionary = omega arith in
      typed_fits id v d e is.typed within kept (omega arith))
    where
      hideable_by : (b : Bool) → not b ≡ false → b ≡ true
      hideable_by true k = refl
      hideable_by false k = absurd (false≢true (sym k))

  described_fits : (id : AttrId) (os : List ℕ) → AreBytes os → length os ≤ max_octets id dictionary → (o : Option Described) → described id dictionary ≡ o → IsFitting id (unwrap_or (option_and_then (read_by os) o) (Raw os))
  described_fits id os bytes short None e = raw_fits id os short
  described_fits id os bytes short (Some d) e =
      by_test (IsFitting id (unwrap_or (cond (d.hidden && not (is_hideable os)) None (value_read d.kind os)) (Raw os))) (d.hidden && not (is_hideable os))
      (λ h. rw h (raw_fits id os short))
      (λ h. rw h (read_fits id os d bytes short e h (value_read d.kind os) (octets_read d.kind os bytes)))

  octets_fit : (id : AttrId) (os : List ℕ) → AreBytes os → length os ≤ max_octets id dictionary → IsFitting id (value_of_octets id os dictionary)
  unfolding value_of_octets read_value
  octets_fit id os bytes short = described_fits id os bytes short (described id dictionary) refl

  module _ (secret authenticator : List ℕ) where
    shown_fits : (id : AttrId) (os : List ℕ) → AreBytes os → length os ≤ max_octets id dictionary → (o : Option (List ℕ)) → IfSome o (IsShown os) → IsFitting id (value_shown dictionary id os o)
    shown_fits id os bytes short None h = raw_fits id os short
    shown_fits id os bytes short (Some password) h = octets_fit id password h.bytes (let low = h.short in omega arith)

    value_fits : (id : AttrId) (os : List ℕ) → AreBytes os → length os ≤ max_octets id dictionary → IsFitting id (value_meant dictionary secret authenticator id os)
    unfolding value_meant
    value_fits id os bytes short =
        by_test (IsFitting id (cond (is_hidden id dictionary) (value_shown dictionary id os (shown_by secret authenticator os)) (value_of_octets id os dictionary))) (is_hidden id dictionary)
        (λ h. rw h (shown_fits id os bytes short (shown_by secret authenticator os) (shown_by_holds secret authenticator os bytes)))
        (λ h. rw h (octets_fit id os bytes short))

    -- a pair read fits where its id is known and holds so many octets
    pub pair_fits : (id : AttrId) (os : List ℕ) → is_known id dictionary ≡ true → AreBytes os → length os ≤ max_octets id dictionary → fits (pair_meant dictionary secret authenticator id os) dictionary ≡ true
    unfolding fits
    pair_fits id os known bytes short =
        let v = value_fits id os bytes short in
        rw (known, v.0, v.1)
