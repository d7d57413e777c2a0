-- What a divided list is sent as, and what its attributes mean.
use Rattle.std.proofs.Common.{◌≡◌, ◌∙◌, ℕ, ◌<◌, zero, suc, ◌-◌, ◌/◌, ◌≤◌, Bool, true, false, not, ◌==◌, cond, if◌then◌else◌, List, [], ◌∷◌, ◌++◌, length, drop, map, Option, Some, None, refl, sym, ap, arith, append-nil, append_assoc}
use Rattle.std.specs.List.{All, AllByRecursion, flat_map, list_all}
use Rattle.std.specs.Option.{option_map_or}
use Rattle.std.proofs.lemmas.Grind.{common_steps, flat_map-append}
use Rattle.std.proofs.lemmas.List.{length-append, map-append}
use Rattle.std.proofs.lemmas.List.Elements.{All-filter, All-from_recursion, filter-append, recursion_from_All}
use Rattle.std.proofs.lemmas.Bool.{and_parts}
use Rattle.avp_lists.specs.Instances.{is_other}
use Rattle.avp_lists.specs.Pairs.{id_eq}
use Rattle.avp_lists.specs.declared.pairs.AttrId.{AttrId}
use Rattle.avp_lists.specs.declared.pairs.AttrId.TheVariants.{Plain, Vendor, Extended}
use Rattle.avp_lists.specs.declared.pairs.Pair.{Pair}
use Rattle.avp_dict.specs.declared.entries.Format.{Format}
use Rattle.avp_dict.specs.Dictionary.{Dictionary}
use Rattle.avp_dict.specs.Limits.{fits, is_known}
use Rattle.avp_dict.specs.Octets.{is_hidden, octets}
use Rattle.avp_dict.specs.Sent.{is_clean, is_clean_pair, is_sent, sent}
use Rattle.avp_dict.specs.Soundness.{HasKnownFormats, IsSound}
use Rattle.avp_dict.specs.AttributeNumbers.{proxy_state, message_authenticator}
use Rattle.avp_packet.specs.declared.encoding.dividing.Division.{Division}
use Rattle.avp_packet.specs.AttributeOctets.{attribute_octets, fragments, is_long, part, parts_holding, parts_of, parts_of_pair, sent_octets, vendor_part}
use Rattle.avp_packet.specs.Hmac.{hmac}
use Rattle.avp_packet.specs.Meanings.{attribute_pairs, pair_meant, raw_pair}
use Rattle.avp_packet.specs.Packets.{attributes_signed, attributes_with, hiding_authenticator, octets_sent, packet, pairs_meant, signature_of, zeros}
use Rattle.avp_packet.specs.Sending.{Content, message_authenticator_id, pairs_sent, without_signatures}
use Rattle.avp_packet.specs.Signed.{blanked, is_signature, signatures}
use Rattle.avp_packet.specs.Splitting.{Part, left, part_octets, parts}
use Rattle.avp_packet.specs.VendorFormats.{known_format}
use Rattle.avp_packet.specs.internal.Filling.{IsDivided, KeepsAll, divided_octets, divided_signed, signature_if}
use Rattle.avp_packet.specs.internal.Ranges.{IsVendorInRange}
use Rattle.avp_packet.specs.ExtendedTypes.{extended_type_1, piece_octets}
use Rattle.avp_packet.proofs.ReadBack.{clean_read, nothing_read, plain_read}
use Rattle.avp_packet.proofs.AttributeRoom.{fits_known}
use Rattle.avp_packet.proofs.Filled.{length-hmac}
use Rattle.avp_packet.proofs.Signatures.{unblanked}
use Rattle.avp_packet.proofs.Splits.{left-all, left-none, parts-all, parts-none}
use Rattle.avp_packet.proofs.Tests.{by_test}

-- ---- attributes of other ids

unsigned_fragments : (n t number : ℕ) (os : List ℕ) → extended_type_1 ≤ t → signatures (fragments n t number os) ≡ []
unfolding fragments
unsigned_fragments zero t number os h = let other : (t == message_authenticator) ≡ false = grind (arith, common_steps) in rw other refl
unsigned_fragments (suc n) t number os h = let other : (t == message_authenticator) ≡ false = grind (arith, common_steps) in rw other (unsigned_fragments n t number (drop piece_octets os) h)

module _ (dictionary : Dictionary) where
  unsigned_id : (id : AttrId) (os : List ℕ) → is_known id dictionary ≡ true → id_eq id message_authenticator_id ≡ false → signatures (parts_holding dictionary id os) ≡ []
  unfolding parts_holding is_known
  unsigned_id (Plain n) os known other = rw other refl
  unsigned_id (Vendor v n) os known other = go (known_format v dictionary)
    where
      go : (o : Option Format) → signatures (option_map_or (vendor_part v n os) o []) ≡ []
      go None = refl
      go (Some f) = refl
  unsigned_id (Extended t n) os known other =
      let low : extended_type_1 ≤ t = grind (arith, common_steps) in
      let apart : (t == message_authenticator) ≡ false = grind (arith, common_steps) in
      by_test (signatures (cond (is_long t) (fragments ((length os - 1) / piece_octets) t n os) (part t (n ∷ os) ∷ [])) ≡ []) (is_long t)
      (λ e. rw e (unsigned_fragments ((length os - 1) / piece_octets) t n os low))
      (λ e. rw (e, apart) refl)

  module _ (secret hide_by : List ℕ) where
    unsigned_by : (pairs : List Pair) → AllByRecursion (λ p. fits p dictionary ≡ true) pairs → signatures (parts_of dictionary secret hide_by (without_signatures pairs)) ≡ []
    unfolding parts_of sent
    unsigned_by [] h = refl
    unsigned_by (p ∷ ps) h =
        let others = unsigned_by ps h.1 in
        by_test (signatures (parts_of dictionary secret hide_by (without_signatures (p ∷ ps))) ≡ []) (id_eq p.id message_authenticator_id)
        (λ e. rw e others)
        (λ e. by_test (signatures (parts_of dictionary secret hide_by (without_signatures (p ∷ ps))) ≡ []) (is_sent dictionary p)
        (λ s. rw (e, s) (filter-append is_signature (parts_of_pair dictionary secret hide_by p) (parts_of dictionary secret hide_by (without_signatures ps)) ∙ rw (unsigned_id p.id (sent_octets dictionary secret hide_by p) (fits_known dictionary p h.0) e, others) refl))
        (λ s. rw (e, s) others))

    pub unsigned_parts : (pairs : List Pair) → All (λ p. fits p dictionary ≡ true) pairs → signatures (parts_of dictionary secret hide_by (without_signatures pairs)) ≡ []
    unsigned_parts pairs h = unsigned_by pairs (recursion_from_All (λ (p : Pair). fits p dictionary ≡ true) pairs h)

    -- the attribute that signs
    signature_part : (os : List ℕ) → parts_of_pair dictionary secret hide_by (raw_pair (part message_authenticator os)) ≡ part message_authenticator os ∷ []
    unfolding parts_holding sent_octets octets
    signature_part os = by_test (parts_of_pair dictionary secret hide_by (raw_pair (part message_authenticator os)) ≡ part message_authenticator os ∷ []) (is_hidden message_authenticator_id dictionary) (λ e. rw e refl) (λ e. rw e refl)

-- ---- lists that pass a test

all_pass : (q : Pair → Bool) (xs : List Pair) → list_all q xs ≡ true → All (λ p. q p ≡ true) xs
all_pass q xs h = All-from_recursion (λ (p : Pair). q p ≡ true) xs (go xs h)
  where
    go : (ys : List Pair) → list_all q ys ≡ true → AllByRecursion (λ p. q p ≡ true) ys
    go [] k = tt
    go (y ∷ ys) k = let both = and_parts (q y) (list_all q ys) k in (both.0, go ys both.1)

pass_all : (q : Pair → Bool) (xs : List Pair) → All (λ p. q p ≡ true) xs → list_all q xs ≡ true
pass_all q xs h = go xs (recursion_from_All (λ (p : Pair). q p ≡ true) xs h)
  where
    go : (ys : List Pair) → AllByRecursion (λ p. q p ≡ true) ys → list_all q ys ≡ true
    go [] k = refl
    go (y ∷ ys) k = rw (k.0, go ys k.1) refl

-- the parts of a clean list are clean
module _ (dictionary : Dictionary) (pairs : List Pair) (division : Division) (clean : is_clean pairs dictionary ≡ true) (kept : (q : Pair → Bool) → All (λ p. q p ≡ true) pairs → KeepsAll q division) where
  pub before_clean : is_clean division.before.now dictionary ≡ true
  unfolding is_clean
  before_clean = let q : Pair → Bool = is_clean_pair dictionary in pass_all q division.before.now (kept q (all_pass q pairs clean)).before

  pub after_clean : is_clean (without_signatures division.after.now) dictionary ≡ true
  unfolding is_clean
  after_clean =
      let q : Pair → Bool = is_clean_pair dictionary in
      pass_all q (without_signatures division.after.now) (All-filter (is_other message_authenticator_id) (λ (p : Pair). q p ≡ true) division.after.now (kept q (all_pass q pairs clean)).after)

-- Proxy-States are no Message-Authenticators
pub proxies_unsigned : (pairs : List Pair) → All (λ p. p.id ≡ Plain proxy_state) pairs → without_signatures pairs ≡ pairs
proxies_unsigned pairs h = go pairs (recursion_from_All (λ (p : Pair). p.id ≡ Plain proxy_state) pairs h)
  where
    go : (ps : List Pair) → AllByRecursion (λ p. p.id ≡ Plain proxy_state) ps → without_signatures ps ≡ ps
    go [] k = refl
    go (p ∷ ps) k = let other : is_other message_authenticator_id p ≡ true = ap (λ (i : AttrId). not (id_eq i message_authenticator_id)) k.0 in rw other (ap (λ (qs : List Pair). p ∷ qs) (go ps k.1))

-- ---- attributes laid out

-- attributes before the one that signs, that one, those after it, and the Proxy-States'
abbrev laid : {A : Type 0} → List A → Bool → A → List A → List A → List A
laid before signed one after last = before ++ (if signed then one ∷ [] else []) ++ after ++ last

flat_laid : {A B : Type 0} (f : A → List B) (before : List A) (signed : Bool) (one : A) (after last : List A) → flat_map f (laid before signed one after last) ≡ flat_map f before ++ (if signed then f one else []) ++ flat_map f after ++ flat_map f last
flat_laid {B = B} f before signed one after last =
    let a = flat_map-append f (before ++ (if signed then one ∷ [] else []) ++ after) last in
    let b = flat_map-append f (before ++ (if signed then one ∷ [] else [])) after in
    let d = flat_map-append f before (if signed then one ∷ [] else []) in
    rw (a, b, d) (ap (λ (os : List B). flat_map f before ++ os ++ flat_map f after ++ flat_map f last) (alone signed))
  where
    alone : (t : Bool) → flat_map f (if t then one ∷ [] else []) ≡ (if t then f one else [])
    alone true = append-nil (f one)
    alone false = refl

pub parts_whole : (ps : List Part) → parts (flat_map part_octets ps) ≡ ps
parts_whole ps = ap parts (sym (append-nil (flat_map part_octets ps))) ∙ parts-all ps [] ∙ ap (λ (qs : List Part). ps ++ qs) (parts-none [] refl) ∙ append-nil ps

pub left_whole : (ps : List Part) → left (flat_map part_octets ps) ≡ []
left_whole ps = ap left (sym (append-nil (flat_map part_octets ps))) ∙ left-all ps [] ∙ left-none [] refl

module _ (dictionary : Dictionary) (secret : List ℕ) (code id : ℕ) (authenticator : List ℕ) (content : Content) (division : Division) (divided : IsDivided content.kind content.pairs division) where
  abbrev hide_by : List ℕ
  hide_by = hiding_authenticator code authenticator

  abbrev before : List Pair
  before = division.before.now

  abbrev after : List Pair
  after = without_signatures division.after.now

  abbrev laid_pairs : Pair → List Pair
  laid_pairs pair = laid (sent before dictionary) division.signed pair (sent after dictionary) (sent content.proxy_states dictionary)

  abbrev laid_parts : List ℕ → List Part
  laid_parts os = laid (parts_of dictionary secret hide_by before) division.signed (part message_authenticator os) (parts_of dictionary secret hide_by after) (parts_of dictionary secret hide_by content.proxy_states)

  abbrev laid_octets : List ℕ → List ℕ
  laid_octets os = divided_octets dictionary secret hide_by division content.proxy_states os

  pairs_are : (pair : Pair) → pairs_sent dictionary content pair ≡ laid_pairs pair
  unfolding pairs_sent
  pairs_are pair = rw (divided.before, divided.signed, divided.after) refl

  octets_laid : (os : List ℕ) → laid_octets os ≡ flat_map part_octets (laid_parts os)
  octets_laid os = sym (flat_laid part_octets (parts_of dictionary secret hide_by before) division.signed (part message_authenticator os) (parts_of dictionary secret hide_by after) (parts_of dictionary secret hide_by content.proxy_states))

  parts_laid : (os : List ℕ) → flat_map (parts_of_pair dictionary secret hide_by) (laid_pairs (raw_pair (part message_authenticator os))) ≡ laid_parts os
  unfolding parts_of
  parts_laid os =
      flat_laid (parts_of_pair dictionary secret hide_by) (sent before dictionary) division.signed (raw_pair (part message_authenticator os)) (sent after dictionary) (sent content.proxy_states dictionary)
      ∙ rw (signature_part dictionary secret hide_by os) refl

  octets_are : (os : List ℕ) → attributes_with dictionary secret code authenticator content os ≡ laid_octets os
  octets_are os = ap (octets_sent dictionary secret hide_by) (pairs_are (raw_pair (part message_authenticator os))) ∙ ap (flat_map part_octets) (parts_laid os) ∙ sym (octets_laid os)

  pub signed_octets : attributes_signed dictionary secret code id authenticator content ≡ divided_signed dictionary secret code id authenticator division content.proxy_states
  unfolding signature_of
  signed_octets =
      octets_are (signature_of dictionary secret code id authenticator content)
      ∙ ap (λ (os : List ℕ). laid_octets (hmac secret (packet code id authenticator os))) (octets_are zeros)

  pub laid_whole : (os : List ℕ) → left (laid_octets os) ≡ []
  laid_whole os = ap left (octets_laid os) ∙ left_whole (laid_parts os)

  -- it is as long, whatever the octets that sign are
  pub length-laid : (os : List ℕ) → length os ≡ 16 → length (laid_octets os) ≡ length (laid_octets zeros)
  length-laid os h = go division.signed
    where
      first : List ℕ
      first = attribute_octets dictionary secret hide_by before

      middle : List ℕ
      middle = attribute_octets dictionary secret hide_by after

      last : List ℕ
      last = attribute_octets dictionary secret hide_by content.proxy_states

      go : (t : Bool) → length (first ++ signature_if t os ++ middle ++ last) ≡ length (first ++ signature_if t zeros ++ middle ++ last)
      go true =
          let a = length-append first (part_octets (part message_authenticator os)) in
          let b = length-append (first ++ part_octets (part message_authenticator os)) middle in
          let d = length-append (first ++ part_octets (part message_authenticator os) ++ middle) last in
          let e = length-append first (part_octets (part message_authenticator zeros)) in
          let f = length-append (first ++ part_octets (part message_authenticator zeros)) middle in
          let g = length-append (first ++ part_octets (part message_authenticator zeros) ++ middle) last in
          omega arith
      go false = refl

  -- signed attributes are as long as with zeros
  pub length-signed : length (attributes_signed dictionary secret code id authenticator content) ≡ length (laid_octets zeros)
  length-signed =
      let text : List ℕ = packet code id authenticator (laid_octets zeros) in
      ap length signed_octets ∙ length-laid (hmac secret text) (length-hmac secret text)

  -- ---- signed, or not

  module _ (unsigned : without_signatures before ≡ before) (proxies : without_signatures content.proxy_states ≡ content.proxy_states) (before_fit : All (λ p. fits p dictionary ≡ true) before) (after_fit : All (λ p. fits p dictionary ≡ true) division.after.now) (proxies_fit : All (λ p. fits p dictionary ≡ true) content.proxy_states) where
    none_first : signatures (parts_of dictionary secret hide_by before) ≡ []
    none_first = ap (λ (ps : List Pair). signatures (parts_of dictionary secret hide_by ps)) (sym unsigned) ∙ unsigned_parts dictionary secret hide_by before before_fit

    none_middle : signatures (parts_of dictionary secret hide_by after) ≡ []
    none_middle = unsigned_parts dictionary secret hide_by division.after.now after_fit

    none_last : signatures (parts_of dictionary secret hide_by content.proxy_states) ≡ []
    none_last = ap (λ (ps : List Pair). signatures (parts_of dictionary secret hide_by ps)) (sym proxies) ∙ unsigned_parts dictionary secret hide_by content.proxy_states proxies_fit

    pub no_signature : division.signed ≡ false → (os : List ℕ) → signatures (parts (laid_octets os)) ≡ []
    no_signature plain os =
        let first : List Part = parts_of dictionary secret hide_by before in
        let middle : List Part = parts_of dictionary secret hide_by after in
        let last : List Part = parts_of dictionary secret hide_by content.proxy_states in
        ap (λ (ps : List ℕ). signatures (parts ps)) (octets_laid os) ∙ ap signatures (parts_whole (laid_parts os))
        ∙ rw plain
        (filter-append is_signature (first ++ [] ++ middle) last
        ∙ rw (filter-append is_signature (first ++ []) middle, filter-append is_signature first [], none_first, none_middle, none_last) refl)

    pub one_signature : division.signed ≡ true → (os : List ℕ) → signatures (parts (laid_octets os)) ≡ part message_authenticator os ∷ []
    one_signature signed os =
        let first : List Part = parts_of dictionary secret hide_by before in
        let middle : List Part = parts_of dictionary secret hide_by after in
        let last : List Part = parts_of dictionary secret hide_by content.proxy_states in
        ap (λ (ps : List ℕ). signatures (parts ps)) (octets_laid os) ∙ ap signatures (parts_whole (laid_parts os))
        ∙ rw signed
        (filter-append is_signature (first ++ part message_authenticator os ∷ [] ++ middle) last
        ∙ rw (filter-append is_signature (first ++ part message_authenticator os ∷ []) middle, filter-append is_signature first (part message_authenticator os ∷ []), none_first, none_middle, none_last) refl)

    pub blank_text : division.signed ≡ true → (os : List ℕ) → flat_map part_octets (map blanked (parts (laid_octets os))) ≡ laid_octets zeros
    blank_text signed os =
        let first : List Part = parts_of dictionary secret hide_by before in
        let middle : List Part = parts_of dictionary secret hide_by after in
        let last : List Part = parts_of dictionary secret hide_by content.proxy_states in
        ap (λ (ps : List ℕ). flat_map part_octets (map blanked (parts ps))) (octets_laid os)
        ∙ ap (λ (ps : List Part). flat_map part_octets (map blanked ps)) (parts_whole (laid_parts os))
        ∙ ap (flat_map part_octets) (rw signed
        (map-append blanked (first ++ part message_authenticator os ∷ [] ++ middle) last
        ∙ rw (map-append blanked (first ++ part message_authenticator os ∷ []) middle, map-append blanked first (part message_authenticator os ∷ []), unblanked first none_first, unblanked middle none_middle, unblanked last none_last) refl))
        ∙ sym (octets_laid zeros)

  -- ---- what it means

  module _ (sound : IsSound dictionary) (formats : HasKnownFormats dictionary) (keyed : 0 < length secret) (before_clean : is_clean before dictionary ≡ true) (after_clean : is_clean after dictionary ≡ true) (proxies_clean : is_clean content.proxy_states dictionary ≡ true) (before_ranged : All (λ p. IsVendorInRange p.id) before) (after_ranged : All (λ p. IsVendorInRange p.id) division.after.now) (proxies_ranged : All (λ p. IsVendorInRange p.id) content.proxy_states) where
    abbrev means : List Part → List Pair
    means ps = attribute_pairs dictionary secret hide_by ps

    last_means : means (parts_of dictionary secret hide_by content.proxy_states) ≡ sent content.proxy_states dictionary
    last_means =
        ap means (sym (append-nil (parts_of dictionary secret hide_by content.proxy_states)))
        ∙ clean_read dictionary sound formats secret hide_by keyed content.proxy_states [] proxies_clean proxies_ranged
        ∙ rw (nothing_read dictionary sound formats secret hide_by keyed) (append-nil (sent content.proxy_states dictionary))

    after_means : means (parts_of dictionary secret hide_by after ++ parts_of dictionary secret hide_by content.proxy_states) ≡ sent after dictionary ++ sent content.proxy_states dictionary
    after_means =
        clean_read dictionary sound formats secret hide_by keyed after (parts_of dictionary secret hide_by content.proxy_states) after_clean (All-filter (is_other message_authenticator_id) (λ (p : Pair). IsVendorInRange p.id) division.after.now after_ranged)
        ∙ rw last_means refl

    rest_means : (t : Bool) (os : List ℕ) → means ((if t then part message_authenticator os ∷ [] else []) ++ (parts_of dictionary secret hide_by after ++ parts_of dictionary secret hide_by content.proxy_states)) ≡ (if t then pair_meant dictionary secret hide_by message_authenticator_id os ∷ [] else []) ++ (sent after dictionary ++ sent content.proxy_states dictionary)
    rest_means true os = plain_read dictionary sound formats secret hide_by keyed message_authenticator os (parts_of dictionary secret hide_by after ++ parts_of dictionary secret hide_by content.proxy_states) refl ∙ ap (λ (ps : List Pair). pair_meant dictionary secret hide_by message_authenticator_id os ∷ ps) after_means
    rest_means false os = after_means

    regrouped : {A : Type 0} (a b d e : List A) → a ++ b ++ d ++ e ≡ a ++ (b ++ (d ++ e))
    regrouped a b d e = simp append_assoc

    laid_means : (os : List ℕ) → means (laid_parts os) ≡ laid_pairs (pair_meant dictionary secret hide_by message_authenticator_id os)
    laid_means os =
        let first : List Part = parts_of dictionary secret hide_by before in
        let middle : List Part = parts_of dictionary secret hide_by after in
        let last : List Part = parts_of dictionary secret hide_by content.proxy_states in
        let one : List Part = if division.signed then part message_authenticator os ∷ [] else [] in
        let own : List Pair = if division.signed then pair_meant dictionary secret hide_by message_authenticator_id os ∷ [] else [] in
        ap means (regrouped first one middle last)
        ∙ clean_read dictionary sound formats secret hide_by keyed before (one ++ (middle ++ last)) before_clean before_ranged
        ∙ ap (λ (ps : List Pair). sent before dictionary ++ ps) (rest_means division.signed os)
        ∙ sym (regrouped (sent before dictionary) own (sent after dictionary) (sent content.proxy_states dictionary))

    pub signed_means : means (parts (attributes_signed dictionary secret code id authenticator content)) ≡ pairs_meant dictionary secret code id authenticator content
    signed_means =
        let os : List ℕ = signature_of dictionary secret code id authenticator content in
        ap (λ (ps : List ℕ). means (parts ps)) (octets_are os ∙ octets_laid os)
        ∙ ap means (parts_whole (laid_parts os)) ∙ laid_means os
        ∙ sym (pairs_are (pair_meant dictionary secret hide_by message_authenticator_id os))
