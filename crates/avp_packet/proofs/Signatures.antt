-- Message-Authenticators among attributes.
use Rattle.std.proofs.Common.{◌≡◌, ◌∙◌, ℕ, ◌-◌, ◌≤◌, Bool, true, false, List, [], ◌∷◌, ◌++◌, length, take, map, refl, sym, ap, arith, append-nil, append_assoc}
use Rattle.std.specs.List.{flat_map, list_any}
use Rattle.std.proofs.lemmas.Bool.{false≢true}
use Rattle.std.proofs.lemmas.Grind.{flat_map-append}
use Rattle.std.proofs.lemmas.List.{length-append, map-append, take_at}
use Rattle.std.proofs.lemmas.List.Elements.{filter-append}
use Rattle.avp_dict.specs.AttributeNumbers.{message_authenticator}
use Rattle.avp_packet.specs.AttributeOctets.{part}
use Rattle.avp_packet.specs.Packets.{zeros}
use Rattle.avp_packet.specs.Signed.{blanked, is_only, is_signature, signatures}
use Rattle.avp_packet.specs.Splitting.{Part, left, part_octets, parts}
use Rattle.avp_packet.proofs.Splits.{is_split, left-all, left-none, left-octets, parts-all, parts-none, parts-octets}
use Rattle.avp_packet.proofs.Tests.{by_test}

-- whole attributes' octets are all that there are
pub whole_octets : (os : List ℕ) → left os ≡ [] → os ≡ flat_map part_octets (parts os)
whole_octets os h = let split = is_split os in split.whole ∙ ap (λ (xs : List ℕ). flat_map part_octets (parts os) ++ xs) h ∙ append-nil (flat_map part_octets (parts os))

-- attributes after whole ones
pub parts_after_whole : (os rest : List ℕ) → left os ≡ [] → parts (os ++ rest) ≡ parts os ++ parts rest
parts_after_whole os rest h = ap (λ (xs : List ℕ). parts (xs ++ rest)) (whole_octets os h) ∙ parts-all (parts os) rest

pub parts_one : (p : Part) → parts (part_octets p) ≡ p ∷ []
parts_one p = ap parts (sym (append-nil (part_octets p))) ∙ parts-octets p [] ∙ ap (λ (ps : List Part). p ∷ ps) (parts-none [] refl)

-- attributes without a Message-Authenticator are not changed
pub unblanked : (ps : List Part) → signatures ps ≡ [] → map blanked ps ≡ ps
unblanked [] h = refl
unblanked (p ∷ ps) h = by_test (map blanked (p ∷ ps) ≡ p ∷ ps) (is_signature p)
    (λ e. absurd (let some = rw e at h in cc))
    (λ e. let none : signatures ps ≡ [] = rw e at h in rw (e, unblanked ps none))

-- ---- the attributes that were passed

abbrev pub passed : List ℕ → List ℕ → List ℕ
passed octets rest = take (length octets - length rest) octets

-- whole attributes were passed, none of them a Message-Authenticator
pub record IsPassed (octets rest : List ℕ) : Type 0 where
  pub within : length rest ≤ length octets
  pub split : octets ≡ passed octets rest ++ rest
  pub whole : left (passed octets rest) ≡ []
  pub none : signatures (parts (passed octets rest)) ≡ []

pub passed_none : (octets : List ℕ) → IsPassed octets octets
passed_none octets =
    let none : length octets - length octets ≡ 0 = omega arith in
    record {
      within = omega arith;
      split = rw none refl;
      whole = rw none (left-none [] refl);
      none = rw (none, parts-none [] refl) refl;
    }

passed_by : (octets before rest : List ℕ) → octets ≡ before ++ rest → passed octets rest ≡ before
passed_by octets before rest e =
    let long = ap length e ∙ length-append before rest in
    let same : length octets - length rest ≡ length before = omega arith in
    rw (same, e) (take_at before rest (length before) refl)

pub passed_more : (octets rest next : List ℕ) (p : Part) → IsPassed octets rest → rest ≡ part_octets p ++ next → is_signature p ≡ false → IsPassed octets next
passed_more octets rest next p h e other =
    let before : List ℕ = passed octets rest in
    let split : octets ≡ (before ++ part_octets p) ++ next = h.split ∙ ap (λ (xs : List ℕ). before ++ xs) e ∙ sym (append_assoc before (part_octets p) next) in
    let same = passed_by octets (before ++ part_octets p) next split in
    let listed : parts (before ++ part_octets p) ≡ parts before ++ p ∷ [] = parts_after_whole before (part_octets p) h.whole ∙ ap (λ (ps : List Part). parts before ++ ps) (parts_one p) in
    let long = ap length split ∙ length-append (before ++ part_octets p) next in
    record {
      within = omega arith;
      split = split ∙ ap (λ (xs : List ℕ). xs ++ next) (sym same);
      whole = ap left same ∙ left_after before p h.whole;
      none = ap (λ (xs : List ℕ). signatures (parts xs)) same ∙ ap signatures listed ∙ filter-append is_signature (parts before) (p ∷ []) ∙ rw (h.none, other) refl;
    }
  where
    left_after : (before : List ℕ) (p : Part) → left before ≡ [] → left (before ++ part_octets p) ≡ []
    left_after before p w =
        ap (λ (xs : List ℕ). left (xs ++ part_octets p)) (whole_octets before w) ∙ left-all (parts before) (part_octets p)
        ∙ ap left (sym (append-nil (part_octets p))) ∙ left-octets p [] ∙ left-none [] refl

-- ---- the first Message-Authenticator

module _ (octets before value after : List ℕ) (e : octets ≡ before ++ part_octets (part message_authenticator value) ++ after) (whole : left before ≡ []) (first : signatures (parts before) ≡ []) where
  listed : parts octets ≡ parts before ++ part message_authenticator value ∷ parts after
  listed =
      ap parts (e ∙ append_assoc before (part_octets (part message_authenticator value)) after)
      ∙ parts_after_whole before (part_octets (part message_authenticator value) ++ after) whole
      ∙ ap (λ (ps : List Part). parts before ++ ps) (parts-octets (part message_authenticator value) after)

  pub found_first : signatures (parts octets) ≡ part message_authenticator value ∷ signatures (parts after)
  found_first = ap signatures listed ∙ filter-append is_signature (parts before) (part message_authenticator value ∷ parts after) ∙ rw first refl

  -- the only one
  pub blanked_text : left octets ≡ [] → signatures (parts after) ≡ [] → flat_map part_octets (map blanked (parts octets)) ≡ before ++ part_octets (part message_authenticator zeros) ++ after
  blanked_text all none =
      let none_left : left after ≡ [] = sym (left_all_of) ∙ all in
      ap (λ (ps : List Part). flat_map part_octets (map blanked ps)) listed
      ∙ ap (flat_map part_octets) (map-append blanked (parts before) (part message_authenticator value ∷ parts after))
      ∙ flat_map-append part_octets (map blanked (parts before)) (map blanked (part message_authenticator value ∷ parts after))
      ∙ rw (unblanked (parts before) first, unblanked (parts after) none, ← whole_octets before whole, ← whole_octets after none_left)
      (sym (append_assoc before (part_octets (part message_authenticator zeros)) after))
    where
      left_all_of : left octets ≡ left after
      left_all_of =
          ap left (e ∙ append_assoc before (part_octets (part message_authenticator value)) after)
          ∙ ap (λ (xs : List ℕ). left (xs ++ (part_octets (part message_authenticator value) ++ after))) (whole_octets before whole)
          ∙ left-all (parts before) (part_octets (part message_authenticator value) ++ after) ∙ left-octets (part message_authenticator value) after

-- ---- how many there are

-- none where attributes end
pub none_found : (octets rest : List ℕ) → IsPassed octets rest → parts rest ≡ [] → signatures (parts octets) ≡ []
none_found octets rest h none =
    let all : parts octets ≡ parts (passed octets rest) ++ parts rest = ap parts h.split ∙ parts_after_whole (passed octets rest) rest h.whole in
    ap signatures (all ∙ ap (λ (ps : List Part). parts (passed octets rest) ++ ps) none ∙ append-nil (parts (passed octets rest))) ∙ h.none

abbrev are_some : List Part → Bool
are_some [] = false
are_some (p ∷ ps) = true

any_signature : (ps : List Part) → list_any is_signature ps ≡ are_some (signatures ps)
any_signature [] = refl
any_signature (p ∷ ps) = by_test (list_any is_signature (p ∷ ps) ≡ are_some (signatures (p ∷ ps))) (is_signature p) (λ e. rw e refl) (λ e. rw e (any_signature ps))

pub any_found : (ps qs : List Part) (p : Part) → signatures ps ≡ p ∷ qs → list_any is_signature ps ≡ true
any_found ps qs p e = any_signature ps ∙ ap are_some e

pub any_none : (ps : List Part) → signatures ps ≡ [] → list_any is_signature ps ≡ false
any_none ps e = any_signature ps ∙ ap are_some e

-- two are not one
pub not_only : (digest : List ℕ) (p : Part) (ps : List Part) → list_any is_signature ps ≡ true → is_only digest (p ∷ signatures ps) ≡ false
not_only digest p ps h = go (signatures ps) (sym (any_signature ps) ∙ h)
  where
    go : (qs : List Part) → are_some qs ≡ true → is_only digest (p ∷ qs) ≡ false
    go [] k = absurd (false≢true k)
    go (q ∷ qs) k = refl

pub no_more : (ps : List Part) → list_any is_signature ps ≡ false → signatures ps ≡ []
no_more ps h = go (signatures ps) (sym (any_signature ps) ∙ h)
  where
    go : (qs : List Part) → are_some qs ≡ false → qs ≡ []
    go [] k = refl
    go (q ∷ qs) k = absurd (false≢true (sym k))

pub regrouped : (head a b d : List ℕ) → head ++ a ++ b ++ d ≡ head ++ (a ++ b ++ d)
regrouped head a b d = simp append_assoc
