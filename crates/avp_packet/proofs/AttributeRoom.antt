-- The octets that a fitting pair is sent in are held by its id's attributes.
use Rattle.std.proofs.Common.{◌≡◌, ℕ, ◌+◌, ◌-◌, ◌^◌, ◌<◌, ◌≤◌, Bool, true, false, not, ◌&&◌, ◌||◌, cond, nat_le, ◌==◌, List, [], ◌∷◌, length, Option, Some, None, refl, arith, ◌⊎◌, inl, inr, min, append-nil}
use Rattle.std.specs.Prelude.{IfSome}
use Rattle.std.specs.List.{flat_map}
use Rattle.std.specs.Option.{option_and_then, option_map_or}
use Rattle.std.proofs.lemmas.Grind.{common_steps}
use Rattle.std.proofs.lemmas.Bool.{and_parts, not-true}
use Rattle.avp_lists.specs.declared.pairs.AttrId.{AttrId}
use Rattle.avp_lists.specs.declared.pairs.AttrId.TheVariants.{Plain, Vendor, Extended}
use Rattle.avp_lists.specs.declared.pairs.Pair.{Pair}
use Rattle.avp_lists.specs.declared.pairs.Value.{Value}
use Rattle.avp_lists.specs.declared.pairs.Value.TheVariants.{Raw}
use Rattle.avp_dict.specs.Dictionary.{Dictionary}
use Rattle.avp_dict.specs.declared.entries.Format.{Format}
use Rattle.avp_dict.specs.declared.entries.VendorFormat.{VendorFormat}
use Rattle.avp_dict.specs.Attributes.{is_held}
use Rattle.avp_dict.specs.Dictionary.{format_of}
use Rattle.avp_dict.specs.Limits.{extended_room, fits, greatest_length, is_known, is_typed, is_within, max_octets, vendor_room}
use Rattle.avp_dict.specs.Names.{unless_three, vendor_format}
use Rattle.avp_dict.specs.Octets.{ends_in_nul, is_hidden, is_hideable, octets, max_hidden_octets}
use Rattle.avp_dict.specs.Sent.{is_internal, is_raw, is_sent, sent}
use Rattle.avp_dict.specs.Settled.{holds, is_in_format}
use Rattle.avp_dict.specs.Vendors.{is_format}
use Rattle.avp_packet.specs.AttributeOctets.{attribute_octets, parts_holding, parts_of, sent_octets}
use Rattle.avp_packet.specs.Hiding.{hidden}
use Rattle.avp_packet.specs.Splitting.{part_octets}
use Rattle.avp_packet.specs.VendorFormats.{known_format, usable_format}
use Rattle.avp_packet.specs.internal.Holding.{CanHold, FitsFormat}
use Rattle.avp_packet.specs.ExtendedTypes.{extended_type_1, extended_type_4}
use Rattle.avp_packet.proofs.Nuls.{length-hidden, short_of, some_hidden}
use Rattle.avp_packet.proofs.Tests.{by_test}

-- ---- formats

pub format_of_size : (t l : ℕ) → is_format t l ≡ true → ((t ≡ 1) ⊎ ((t ≡ 2) ⊎ (t ≡ 4))) × (l ≤ 2)
format_of_size t l h =
    let both = and_parts ((t == 1) || (t == 2) || (t == 4)) (nat_le l 2) h in
    let sized = both.0 in
    let short = both.1 in (
      by_test _ (t == 1) (λ e. inl (grind (arith, common_steps))) (λ e. by_test _ (t == 2) (λ f. inr (inl (grind (arith, common_steps)))) (λ f. inr (inr (grind (arith, common_steps))))),
      grind (arith, common_steps),
    )

held_below : (n : ℕ) (f : VendorFormat) → is_format f.t f.l ≡ true → is_held n f ≡ true → n < 256 ^ f.t
held_below n f h k = go (format_of_size f.t f.l h).0
  where
    go : ((f.t ≡ 1) ⊎ ((f.t ≡ 2) ⊎ (f.t ≡ 4))) → n < 256 ^ f.t
    go (inl e) = let same : is_held n f ≡ nat_le n 255 = rw e in let small : n ≤ 255 = grind (arith, common_steps) in rw e (omega arith)
    go (inr (inl e)) = let same : is_held n f ≡ nat_le n 65535 = rw e in let small : n ≤ 65535 = grind (arith, common_steps) in rw e (omega arith)
    go (inr (inr e)) = let same : is_held n f ≡ nat_le n 4294967295 = rw e in let small : n ≤ 4294967295 = grind (arith, common_steps) in rw e (omega arith)

module _ (dictionary : Dictionary) where
  -- what an id's attributes hold
  abbrev IsShort : AttrId → List ℕ → Type 0
  IsShort id os = (length os ≤ max_hidden_octets) ⊎ (length os ≤ max_octets id dictionary)

  vendor_holds : (n : ℕ) (os : List ℕ) (o : Option VendorFormat) → holds n o ≡ true → ((length os ≤ max_hidden_octets) ⊎ (length os ≤ option_map_or vendor_room (option_and_then unless_three o) 0))
      → IfSome (option_and_then usable_format (option_and_then unless_three o)) (FitsFormat n os)
  vendor_holds n os None h short = tt
  vendor_holds n os (Some f) h short = go f.third refl
    where
      sized : is_format f.t f.l ≡ true → is_held n f ≡ true → ((length os ≤ max_hidden_octets) ⊎ (length os ≤ 249 - f.t - f.l)) → FitsFormat n os (record { t = f.t; l = f.l })
      sized u k s = (held_below n f u k, room (format_of_size f.t f.l u).0 (format_of_size f.t f.l u).1 s)
        where
          room : ((f.t ≡ 1) ⊎ ((f.t ≡ 2) ⊎ (f.t ≡ 4))) → f.l ≤ 2 → ((length os ≤ max_hidden_octets) ⊎ (length os ≤ 249 - f.t - f.l)) → 6 + f.t + f.l + length os ≤ 255
          room (inl e) l (inl s) = omega arith
          room (inr (inl e)) l (inl s) = omega arith
          room (inr (inr e)) l (inl s) = omega arith
          room (inl e) l (inr s) = omega arith
          room (inr (inl e)) l (inr s) = omega arith
          room (inr (inr e)) l (inr s) = omega arith

      go : (third : Bool) → f.third ≡ third → IfSome (option_and_then usable_format (option_and_then unless_three (Some f))) (FitsFormat n os)
      go true e = rw e tt
      go false e =
          let short_by : (length os ≤ max_hidden_octets) ⊎ (length os ≤ 249 - f.t - f.l) = rw e at short in
          rw e (by_test (IfSome (usable_format (record { t = f.t; l = f.l })) (FitsFormat n os)) (is_format f.t f.l) (λ u. rw u (sized u (and_parts (not f.third) (is_held n f) h).1 short_by)) (λ u. rw u tt))

  can_hold : (id : AttrId) (os : List ℕ) → is_known id dictionary ≡ true → is_internal id ≡ false → IsShort id os → CanHold dictionary id os
  unfolding is_known max_octets known_format vendor_format is_in_format
  can_hold (Plain n) os known sent short = let small : n ≤ 255 = grind (arith, common_steps) in (small, go short)
    where
      go : ((length os ≤ max_hidden_octets) ⊎ (length os ≤ max_octets (Plain n) dictionary)) → length os ≤ 253
      go (inl s) = omega arith
      go (inr s) = grind (arith, common_steps)
  can_hold (Vendor v n) os known sent short = vendor_holds n os (format_of v dictionary.vendors) known short
  can_hold (Extended t n) os known sent short = λ low. go low short
    where
      go : t ≤ extended_type_4 → ((length os ≤ max_hidden_octets) ⊎ (length os ≤ extended_room t)) → length os ≤ 252
      go low (inl s) = omega arith
      go low (inr s) = let from : extended_type_1 ≤ t = grind (arith, common_steps) in grind (arith, common_steps)

  -- ---- octets of a fitting value

  greatest_most : (id : AttrId) (n : ℕ) → nat_le n (greatest_length id dictionary) ≡ true → n ≤ max_octets id dictionary
  unfolding greatest_length
  greatest_most id n h = by_test _ (is_hidden id dictionary) (λ e. let f : greatest_length id dictionary ≡ min max_hidden_octets (max_octets id dictionary) = rw e in grind (arith, common_steps)) (λ e. let f : greatest_length id dictionary ≡ max_octets id dictionary = rw e in grind (arith, common_steps))

  greatest_hidden : (id : AttrId) (n : ℕ) → is_hidden id dictionary ≡ true → nat_le n (greatest_length id dictionary) ≡ true → n ≤ max_hidden_octets
  unfolding greatest_length
  greatest_hidden id n e h = let f : greatest_length id dictionary ≡ min max_hidden_octets (max_octets id dictionary) = rw e in grind (arith, common_steps)

  within_most : (id : AttrId) (v : Value) → is_within id v dictionary ≡ true → length (octets id v dictionary) ≤ max_octets id dictionary
  unfolding octets
  within_most id (Raw os) h = grind (arith, common_steps)
  within_most id v h = greatest_most id (length (octets id v dictionary)) (and_parts _ _ h).0

  pub within_hideable : (id : AttrId) (v : Value) → is_hidden id dictionary ≡ true → is_raw v ≡ false → is_within id v dictionary ≡ true → is_hideable (octets id v dictionary) ≡ true
  unfolding octets
  within_hideable id (Raw os) e r h = absurd (cc)
  within_hideable id v e r h =
      let os : List ℕ = octets id v dictionary in
      let short : length os ≤ max_hidden_octets = greatest_hidden id (length os) e (and_parts _ _ h).0 in
      let low : nat_le (length os) max_hidden_octets ≡ true = grind (arith, common_steps) in
      let kept : not (is_hidden id dictionary && ends_in_nul os) ≡ true = (and_parts _ _ h).1 in
      let ends : not (ends_in_nul os) ≡ true = rw e at kept in
      rw (low, ends)

  pub fits_known : (p : Pair) → fits p dictionary ≡ true → is_known p.id dictionary ≡ true
  unfolding fits
  fits_known p h = (and_parts _ _ (and_parts _ _ h).0).0

  pub fits_typed : (p : Pair) → fits p dictionary ≡ true → is_typed p.id p.value dictionary ≡ true
  unfolding fits
  fits_typed p h = (and_parts _ _ (and_parts _ _ h).0).1

  pub fits_within : (p : Pair) → fits p dictionary ≡ true → is_within p.id p.value dictionary ≡ true
  unfolding fits
  fits_within p h = (and_parts _ _ h).1

  pub hidden_short : (p : Pair) → fits p dictionary ≡ true → is_hidden p.id dictionary ≡ true → is_raw p.value ≡ false → length (octets p.id p.value dictionary) ≤ max_hidden_octets
  hidden_short p h e r = short_of (octets p.id p.value dictionary) (within_hideable p.id p.value e r (fits_within p h))

  -- a fitting pair's attributes hold its octets, also hidden
  pub sent_held : (secret authenticator : List ℕ) (p : Pair) → fits p dictionary ≡ true → is_internal p.id ≡ false → CanHold dictionary p.id (sent_octets dictionary secret authenticator p)
  unfolding sent_octets
  sent_held secret authenticator p h sent =
      let os : List ℕ = octets p.id p.value dictionary in
      by_test (CanHold dictionary p.id (cond (is_hidden p.id dictionary && not (is_raw p.value)) (hidden secret authenticator os) os)) (is_hidden p.id dictionary && not (is_raw p.value))
      (λ e. let hides : is_hidden p.id dictionary ≡ true = (and_parts _ _ e).0 in
      let typed : is_raw p.value ≡ false = not-true (is_raw p.value) (and_parts _ _ e).1 in
      rw e (can_hold p.id (hidden secret authenticator os) (fits_known p h) sent (inl (length-hidden secret authenticator os (within_hideable p.id p.value hides typed (fits_within p h))))))
      (λ e. rw e (can_hold p.id os (fits_known p h) sent (inr (within_most p.id p.value (fits_within p h)))))

  most_octets : (id : AttrId) → max_octets id dictionary ≤ 4096
  unfolding max_octets
  most_octets (Plain n) = by_test (max_octets (Plain n) dictionary ≤ 4096) (nat_le n 255) (λ e. rw e (omega arith)) (λ e. rw e (omega arith))
  most_octets (Vendor v n) = go (vendor_format v dictionary)
    where
      go : (o : Option Format) → option_map_or vendor_room o 0 ≤ 4096
      go None = omega arith
      go (Some f) = omega arith
  most_octets (Extended t n) = grind (arith, common_steps)

  -- however many octets an attribute's value is sent in, they are few
  pub sent_short : (secret authenticator : List ℕ) (p : Pair) → fits p dictionary ≡ true → length (sent_octets dictionary secret authenticator p) ≤ 4096
  unfolding sent_octets
  sent_short secret authenticator p h =
      let os : List ℕ = octets p.id p.value dictionary in
      by_test (length (cond (is_hidden p.id dictionary && not (is_raw p.value)) (hidden secret authenticator os) os) ≤ 4096) (is_hidden p.id dictionary && not (is_raw p.value))
      (λ e. let hides : is_hidden p.id dictionary ≡ true = (and_parts (is_hidden p.id dictionary) (not (is_raw p.value)) e).0 in
      let typed : is_raw p.value ≡ false = not-true (is_raw p.value) (and_parts (is_hidden p.id dictionary) (not (is_raw p.value)) e).1 in
      let few : length (hidden secret authenticator os) ≤ max_hidden_octets = length-hidden secret authenticator os (within_hideable p.id p.value hides typed (fits_within p h)) in
      rw e (omega (arith, few)))
      (λ e. rw e (omega (arith, within_most p.id p.value (fits_within p h), most_octets p.id)))

  -- ---- a pair that is sent, and one that is not

  pub internal_unsent : (secret authenticator : List ℕ) (p : Pair) → is_internal p.id ≡ true → attribute_octets dictionary secret authenticator (p ∷ []) ≡ []
  unfolding parts_of sent
  internal_unsent secret authenticator p h = rw h

  pub sent_by : (secret authenticator : List ℕ) (p : Pair) → is_internal p.id ≡ false → is_sent dictionary p ≡ not (length (sent_octets dictionary secret authenticator p) == 0)
  unfolding sent_octets
  sent_by secret authenticator p h =
      let os : List ℕ = octets p.id p.value dictionary in
      by_test (is_sent dictionary p ≡ not (length (cond (is_hidden p.id dictionary && not (is_raw p.value)) (hidden secret authenticator os) os) == 0)) (is_hidden p.id dictionary && not (is_raw p.value))
      (λ e. let some = some_hidden secret authenticator os in
      let there : (length (hidden secret authenticator os) == 0) ≡ false = grind (arith, common_steps) in
      rw (h, e, there) (always (not (length os == 0))))
      (λ e. rw (h, e) (alone (not (length os == 0))))
    where
      always : (b : Bool) → (b || true) ≡ true
      always true = refl
      always false = refl

      alone : (b : Bool) → (b || false) ≡ b
      alone true = refl
      alone false = refl

  pub empty_unsent : (secret authenticator : List ℕ) (p : Pair) → is_internal p.id ≡ false → length (sent_octets dictionary secret authenticator p) ≡ 0 → attribute_octets dictionary secret authenticator (p ∷ []) ≡ []
  unfolding parts_of sent
  empty_unsent secret authenticator p h e = rw (sent_by secret authenticator p h, e)

  pub sent_alone : (secret authenticator : List ℕ) (p : Pair) → is_internal p.id ≡ false → 0 < length (sent_octets dictionary secret authenticator p)
      → attribute_octets dictionary secret authenticator (p ∷ []) ≡ flat_map part_octets (parts_holding dictionary p.id (sent_octets dictionary secret authenticator p))
  unfolding parts_of sent
  sent_alone secret authenticator p h some =
      let there : (length (sent_octets dictionary secret authenticator p) == 0) ≡ false = grind (arith, common_steps) in
      rw (sent_by secret authenticator p h, there, append-nil (parts_holding dictionary p.id (sent_octets dictionary secret authenticator p)))
