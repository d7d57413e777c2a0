-- The pairs of a request fit the dictionary.
use Rattle.std.proofs.Common.{◌≡◌, ℕ, ◌+◌, ◌^◌, ◌<◌, ◌≤◌, suc, Bool, true, false, not, ◌&&◌, cond, List, [], ◌∷◌, Option, None, Some, Result, Ok, Err, length, refl, ◌∙◌, subst, arith, lit≤, ◌==◌, nat_le, IfSome, All, drop}
use Rattle.std.specs.Int.Digits.{AllBelowBase, number_from_digits}
use Rattle.std.specs.List.{list_all, slice_split}
use Rattle.std.specs.Option.{option_and_then, option_map, option_or, unwrap_or}
use Rattle.std.specs.Result.{result_ok}
use Rattle.std.proofs.lemmas.Bool.{and_parts, cond_both}
use Rattle.std.proofs.lemmas.Grind.{common_steps}
use Rattle.std.proofs.lemmas.Int.Digits.{number_lt}
use Rattle.std.proofs.lemmas.List.Sums.{AllPass-from_list_all}
use Rattle.hex.specs.Hex.{IsBytes, decode_of}
use Rattle.hex.specs.declared.error.FromHexError.{FromHexError}
use Rattle.hex.proofs.HexLemmas.{decode_of-ok}
use Rattle.avp_lists.specs.declared.pairs.AttrId.{AttrId}
use Rattle.avp_lists.specs.declared.pairs.AttrId.TheVariants as ids
use Rattle.avp_lists.specs.declared.pairs.Pair.{Pair}
use Rattle.avp_lists.specs.declared.pairs.Value.{Value}
use Rattle.avp_lists.specs.declared.pairs.Value.TheVariants as values
use Rattle.avp_lists.specs.States.{max_pairs}
use Rattle.avp_dict.specs.declared.entries.Named.{Named}
use Rattle.avp_dict.specs.declared.entries.Kind.{Kind}
use Rattle.avp_dict.specs.declared.entries.Kind.TheVariants as kinds
use Rattle.avp_dict.specs.declared.entries.Typing.{Typing}
use Rattle.avp_dict.specs.declared.value.faults.ValueFault.{ValueFault}
use Rattle.avp_dict.proofs.PrintedNames.{last_holds}
use Rattle.avp_dict.specs.AttributeNumbers.{greatest_number, greatest_value}
use Rattle.avp_dict.specs.Attributes.{is_extended_id}
use Rattle.avp_dict.specs.declared.entries.Format.{Format}
use Rattle.avp_dict.specs.declared.entries.AttributeLine.{AttributeLine}
use Rattle.avp_dict.specs.declared.entries.VendorFormat.{VendorFormat}
use Rattle.avp_dict.specs.Dictionary.{Dictionary, format_of, format_of_line, id_named, id_of_line, is_attribute_named, is_attribute_of, is_vendor_numbered, last_where, number_named, typing_of_id, typing_of_line}
use Rattle.avp_dict.specs.Vendors.{is_format}
use Rattle.avp_dict.specs.Letters.{begins_as_attr, is_dot}
use Rattle.avp_dict.specs.Limits.{fits, is_known, is_typed, is_within}
use Rattle.avp_dict.specs.Names.{Described, described, described_by, extended_numbered, id_numbered, is_vendor_specific, named, named_by, plain_numbered, unless_three, vendor_format, vendor_id_numbered}
use Rattle.avp_dict.specs.Octets.{is_hideable, kind_described, kind_of, number_value, read_by, read_value, signed_value, value_of_octets, value_read}
use Rattle.avp_dict.specs.RequestLines.{Assignment, assignments_of, joined}
use Rattle.avp_dict.specs.Requests.{each_pair, few_enough, pair_named, pair_spelled, pair_with, request_by, request_spelled}
use Rattle.avp_dict.specs.Settled.{is_in_format}
use Rattle.avp_dict.specs.Soundness.{IsSound, IsSoundAttribute, IsSoundVendor}
use Rattle.avp_dict.specs.Spellings.{address_spelled, bytes_spelled, ether_spelled, is_barred, number_spelled, signed_spelled, octets_spelled, octets_value, spelled, spelled_as, spelled_by, unless_long, up_to, value_spelled}
use Rattle.avp_dict.specs.Words.{digits, is_hexadecimal, number_of}

-- ---- what a test keeps

kept_by : {X : Type 0} (P : X → Type 0) (x : X) (b : Bool) → (b ≡ true → P x) → IfSome (cond b (Some x) None) P
kept_by P x true h = h refl
kept_by P x false h = tt

pub then_holds : {X Y : Type 0} (P : Y → Type 0) (f : X → Option Y) → ((x : X) → IfSome (f x) P) → (o : Option X) → IfSome (option_and_then f o) P
then_holds P f h None = tt
then_holds P f h (Some x) = h x

-- the same of a value of which something holds
pub then_keeps : {X Y : Type 0} (P : X → Type 0) (Q : Y → Type 0) (f : X → Option Y) → ((x : X) → P x → IfSome (f x) Q) → (o : Option X) → IfSome o P → IfSome (option_and_then f o) Q
then_keeps P Q f h None is = tt
then_keeps P Q f h (Some x) is = h x is

pub mapped_holds : {X Y : Type 0} (P : Y → Type 0) (f : X → Y) (o : Option X) → IfSome o (λ x. P (f x)) → IfSome (option_map f o) P
mapped_holds P f None h = tt
mapped_holds P f (Some x) h = h

pub always : {X : Type 0} (P : X → Type 0) → ((x : X) → P x) → (o : Option X) → IfSome o P
always P h None = tt
always P h (Some x) = h x

pub weaker : {X : Type 0} (P Q : X → Type 0) → ((x : X) → P x → Q x) → (o : Option X) → IfSome o P → IfSome o Q
weaker P Q f None h = tt
weaker P Q f (Some x) h = f x h

-- ---- requests

-- a test that each pair passes that is spelled is one that the pairs of a request pass
module _ (one : Assignment → Option Pair) (test : Pair → Bool) (passes : (a : Assignment) → IfSome (one a) (λ p. test p ≡ true)) where
  abbrev ArePassing : List Pair → Type 0
  ArePassing pairs = list_all test pairs ≡ true

  first_passes : (pair : Option Pair) (pairs : Option (List Pair)) → IfSome pair (λ p. test p ≡ true) → IfSome pairs ArePassing → IfSome (joined (option_map (λ p. p ∷ []) pair) pairs) ArePassing
  first_passes (Some pair) (Some pairs) h rest = rw (h, rest)
  first_passes _ _ h rest = tt

  pairs_pass : (as_ : List Assignment) → IfSome (each_pair one as_) ArePassing
  unfolding each_pair
  pairs_pass [] = refl
  pairs_pass (a ∷ as_) = first_passes (one a) (each_pair one as_) (passes a) (pairs_pass as_)

  few_pass : (pairs : List Pair) → ArePassing pairs → IfSome (few_enough pairs) ArePassing
  few_pass pairs h = cond_both (nat_le (length pairs) max_pairs) _ _ (λ o. IfSome o ArePassing) (λ few. h) (λ many. tt)

  pub request_passes : (text : List ℕ) (pairs : List Pair) → request_by one text ≡ Some pairs → list_all test pairs ≡ true
  unfolding request_by
  request_passes text pairs e =
      let P : Option (List Pair) → Type 0 = λ o. IfSome o ArePassing in
      let assigned = then_holds ArePassing (each_pair one) pairs_pass (assignments_of text) in
      subst P e (then_keeps ArePassing ArePassing few_enough few_pass (option_and_then (each_pair one) (assignments_of text)) assigned)

-- ---- lines

last_keeps : {X : Type 0} (P : X → Type 0) (test : X → Bool) (lines : List X) → All P lines → IfSome (last_where test lines) P
last_keeps {X} P test lines h = go (last_where test lines) refl
  where
    go : (found : Option X) → last_where test lines ≡ found → IfSome found P
    go None e = tt
    go (Some x) e = (last_holds P test lines x h e).0

-- the formats of vendors that are read are those that there are
module _ (d : Dictionary) where
  two_parts_of : (f : VendorFormat) → is_format f.t f.l ≡ true → IfSome (unless_three f) (λ g. is_format g.t g.l ≡ true)
  two_parts_of f h = cond_both f.third _ _ (λ (o : Option Format). IfSome o (λ g. is_format g.t g.l ≡ true)) (λ three. tt) (λ two. h)

  pub formats_known : IsSound d → (vendor : ℕ) → IfSome (vendor_format vendor d) (λ f. is_format f.t f.l ≡ true)
  unfolding vendor_format format_of
  formats_known sound vendor =
      then_keeps (λ (f : VendorFormat). is_format f.t f.l ≡ true) (λ (f : Format). is_format f.t f.l ≡ true) unless_three two_parts_of
      (option_map format_of_line (last_where (is_vendor_numbered vendor) d.vendors))
      (mapped_holds (λ f. is_format f.t f.l ≡ true) format_of_line (last_where (is_vendor_numbered vendor) d.vendors)
      (last_keeps IsSoundVendor (is_vendor_numbered vendor) d.vendors sound.vendors))

module _ (d : Dictionary) where
  known_plain : (n : Option ℕ) → IfSome (plain_numbered n) (λ id. is_known id d ≡ true)
  unfolding is_known
  known_plain None = tt
  known_plain (Some n) = kept_by (λ id. is_known id d ≡ true) (ids.Plain n) (nat_le n 255) (λ _. refl)

  known_extended : (t n : Option ℕ) → IfSome (extended_numbered t n) (λ id. is_known id d ≡ true)
  unfolding is_known
  known_extended (Some t) (Some n) =
      kept_by (λ id. is_known id d ≡ true) (ids.Extended t n) (is_extended_id 0 t n) (λ h.
      (and_parts (nat_le 241 t && nat_le t 246) (nat_le 0 n) (and_parts (nat_le 241 t && nat_le t 246 && nat_le 0 n) (nat_le n 255) h).0).0)
  known_extended _ _ = tt

  known_vendor : (v n : Option ℕ) → IfSome (vendor_id_numbered d.vendors v n) (λ id. is_known id d ≡ true)
  unfolding is_known
  known_vendor (Some v) (Some n) =
      kept_by (λ id. is_known id d ≡ true) (ids.Vendor v n) (nat_le v greatest_number && is_in_format v n d.vendors)
      (λ h. (and_parts (nat_le v greatest_number) (is_in_format v n d.vendors) h).1)
  known_vendor _ _ = tt

  known_numbered : (parts : List (List ℕ)) → IfSome (id_numbered d.vendors parts) (λ id. is_known id d ≡ true)
  known_numbered (n ∷ []) = known_plain (digits 10 n)
  known_numbered (t ∷ n ∷ []) = known_extended (digits 10 t) (digits 10 n)
  known_numbered (t ∷ v ∷ n ∷ []) =
      cond_both (is_vendor_specific (digits 10 t)) _ _ (λ o. IfSome o (λ id. is_known id d ≡ true)) (λ h. known_vendor (digits 10 v) (digits 10 n)) (λ other. tt)
  known_numbered _ = tt

  pub known_named : IsSound d → (name : List ℕ) → IfSome (named name d) (λ n. is_known n.id d ≡ true)
  unfolding named id_named
  known_named sound name =
      cond_both (begins_as_attr name) _ _ (λ (o : Option Named). IfSome o (λ n. is_known n.id d ≡ true))
      (λ h. mapped_holds (λ n. is_known n.id d ≡ true) (named_by true) (id_numbered d.vendors (slice_split is_dot (drop 5 name))) (known_numbered (slice_split is_dot (drop 5 name))))
      (λ h. mapped_holds (λ n. is_known n.id d ≡ true) (named_by false) (id_named name d.attributes)
      (mapped_holds (λ id. is_known id d ≡ true) id_of_line (last_where (is_attribute_named name) d.attributes)
      (weaker (IsSoundAttribute d) (λ (a : AttributeLine). is_known a.id d ≡ true) (λ a h. h.known) (last_where (is_attribute_named name) d.attributes)
      (last_keeps (IsSoundAttribute d) (is_attribute_named name) d.attributes sound.attributes))))

  -- ---- values

  typed_line : (o : Option AttributeLine) → option_map kind_described (option_map described_by o) ≡ option_map (λ (t : Typing). t.kind) (option_map typing_of_line o)
  typed_line None = refl
  typed_line (Some a) = refl

  kind_of_typing : (id : AttrId) → kind_of id d ≡ option_map (λ (t : Typing). t.kind) (typing_of_id id d.attributes)
  unfolding described typing_of_id
  kind_of_typing id = typed_line (last_where (is_attribute_of id) d.attributes)

  pub up_to_holds : (most : ℕ) (o : Option ℕ) → IfSome (up_to most o) (λ n. nat_le n most ≡ true)
  up_to_holds most None = tt
  up_to_holds most (Some n) = kept_by (λ k. nat_le k most ≡ true) n (nat_le n most) (λ h. h)

  number_typed : (id : AttrId) (most : ℕ) (o : Option ℕ) → ((n : ℕ) → nat_le n most ≡ true → is_typed id (values.Int n) d ≡ true) → IfSome (option_map values.Int (up_to most o)) (λ v. is_typed id v d ≡ true)
  number_typed id most o f =
      mapped_holds (λ v. is_typed id v d ≡ true) values.Int (up_to most o) (weaker (λ n. nat_le n most ≡ true) (λ n. is_typed id (values.Int n) d ≡ true) f (up_to most o) (up_to_holds most o))

  typed_as : (kind : Kind) (takes_text : Bool) (id : AttrId) (text : List ℕ) → kind_of id d ≡ Some kind → IfSome (spelled_as kind takes_text id text d) (λ v. is_typed id v d ≡ true)
  unfolding number_spelled
  typed_as kinds.Text takes_text id text k = rw k
  typed_as kinds.Bytes takes_text id text k = mapped_holds (λ v. is_typed id v d ≡ true) values.Bytes (bytes_spelled takes_text text) (always (λ os. is_typed id (values.Bytes os) d ≡ true) (λ os. rw k) (bytes_spelled takes_text text))
  typed_as kinds.Addr takes_text id text k = mapped_holds (λ v. is_typed id v d ≡ true) values.Addr (address_spelled text) (always (λ os. is_typed id (values.Addr os) d ≡ true) (λ os. rw k) (address_spelled text))
  typed_as kinds.Ether takes_text id text k = mapped_holds (λ v. is_typed id v d ≡ true) values.Ether (ether_spelled text) (always (λ os. is_typed id (values.Ether os) d ≡ true) (λ os. rw k) (ether_spelled text))
  typed_as kinds.Byte takes_text id text k = number_typed id 255 (option_or (number_of text) (number_named id text d.values)) (λ n h. rw (k, h))
  typed_as kinds.Short takes_text id text k = number_typed id 65535 (option_or (number_of text) (number_named id text d.values)) (λ n h. rw (k, h))
  typed_as kinds.Integer takes_text id text k = number_typed id greatest_number (option_or (number_of text) (number_named id text d.values)) (λ n h. rw (k, h))
  typed_as kinds.Integer64 takes_text id text k = number_typed id greatest_value (option_or (number_of text) (number_named id text d.values)) (λ n h. rw (k, h))
  typed_as kinds.Date takes_text id text k = number_typed id greatest_number (number_of text) (λ n h. rw (k, h))
  typed_as kinds.Signed takes_text id text k = mapped_holds (λ v. is_typed id v d ≡ true) values.Signed (signed_spelled text) (always (λ z. is_typed id (values.Signed z) d ≡ true) (λ z. rw k) (signed_spelled text))

  -- ---- octets

  octets_below : (os : List ℕ) → IsBytes os → AllBelowBase 256 os
  octets_below [] h = tt
  octets_below (o ∷ os) h = (h 0, octets_below os (λ i. h (suc i)))

  number_within : (os : List ℕ) (n most : ℕ) → IsBytes os → (length os == n) ≡ true → 256 ^ n ≤ most + 1 → nat_le (number_from_digits 256 os) most ≡ true
  number_within os n most bytes long room =
      let below = number_lt 256 os (octets_below os bytes) in
      let same : length os ≡ n = grind (arith, common_steps) in
      let small : number_from_digits 256 os < 256 ^ n = rw (← same) below in
      let le : number_from_digits 256 os ≤ most = omega arith in
      grind (arith, common_steps)

  typed_read : (kind : Kind) (id : AttrId) (os : List ℕ) → kind_of id d ≡ Some kind → IsBytes os → IfSome (value_read kind os) (λ v. is_typed id v d ≡ true)
  typed_read kinds.Text id os k bytes = rw k
  typed_read kinds.Bytes id os k bytes = rw k
  typed_read kinds.Addr id os k bytes = kept_by (λ v. is_typed id v d ≡ true) (values.Addr os) (length os == 4) (λ _. rw k)
  typed_read kinds.Ether id os k bytes = kept_by (λ v. is_typed id v d ≡ true) (values.Ether os) (length os == 6) (λ _. rw k)
  typed_read kinds.Byte id os k bytes = kept_by (λ v. is_typed id v d ≡ true) (number_value os) (length os == 1) (λ long. rw (k, number_within os 1 255 bytes long (lit≤ tt)))
  typed_read kinds.Short id os k bytes = kept_by (λ v. is_typed id v d ≡ true) (number_value os) (length os == 2) (λ long. rw (k, number_within os 2 65535 bytes long (lit≤ tt)))
  typed_read kinds.Integer id os k bytes = kept_by (λ v. is_typed id v d ≡ true) (number_value os) (length os == 4) (λ long. rw (k, number_within os 4 greatest_number bytes long (lit≤ tt)))
  typed_read kinds.Date id os k bytes = kept_by (λ v. is_typed id v d ≡ true) (number_value os) (length os == 4) (λ long. rw (k, number_within os 4 greatest_number bytes long (lit≤ tt)))
  typed_read kinds.Integer64 id os k bytes = kept_by (λ v. is_typed id v d ≡ true) (number_value os) (length os == 8) (λ long. rw (k, number_within os 8 greatest_value bytes long (lit≤ tt)))
  typed_read kinds.Signed id os k bytes = kept_by (λ v. is_typed id v d ≡ true) (signed_value os) (length os == 4) (λ _. rw k)

  pub read_by_typed : (id : AttrId) (os : List ℕ) → IsBytes os → (o : Option Described) → described id d ≡ o → IfSome (option_and_then (read_by os) o) (λ v. is_typed id v d ≡ true)
  read_by_typed id os bytes None e = tt
  read_by_typed id os bytes (Some known) e =
      cond_both (known.hidden && not (is_hideable os)) _ _ (λ o. IfSome o (λ v. is_typed id v d ≡ true)) (λ h. tt) (λ shown. typed_read known.kind id os (rw e) bytes)

  octets_typed : (id : AttrId) (os : List ℕ) → IsBytes os → is_typed id (value_of_octets id os d) d ≡ true
  unfolding value_of_octets read_value
  octets_typed id os bytes = go (option_and_then (read_by os) (described id d)) (read_by_typed id os bytes (described id d) refl)
    where
      go : (o : Option Value) → IfSome o (λ v. is_typed id v d ≡ true) → is_typed id (unwrap_or o (values.Raw os)) d ≡ true
      go None h = refl
      go (Some v) h = h

  octets_are_bytes : (text : List ℕ) → IfSome (octets_spelled text) IsBytes
  unfolding octets_spelled
  octets_are_bytes text = elim (is_hexadecimal text) as (λ b. IfSome (cond b (result_ok (decode_of (drop 2 text))) None) IsBytes) [ true ↦ go (decode_of (drop 2 text)) refl | false ↦ tt ]
    where
      go : (r : Result (List ℕ) FromHexError) → decode_of (drop 2 text) ≡ r → IfSome (result_ok r) IsBytes
      go (Ok os) e = (decode_of-ok (drop 2 text) os e).3
      go (Err fault) e = tt

  -- ---- texts

  named_typed : (id : AttrId) (text : List ℕ) (typing : Option Typing) → typing_of_id id d.attributes ≡ typing → IfSome (option_and_then (spelled_by id text d) typing) (λ v. is_typed id v d ≡ true)
  named_typed id text None e = tt
  named_typed id text (Some typing) e = typed_as typing.kind typing.takes_text id text (kind_of_typing id ∙ rw e)

  spelled_typed : (n : Named) (text : List ℕ) → IfSome (spelled n text d) (λ v. is_typed n.id v d ≡ true)
  unfolding spelled
  spelled_typed n text =
      cond_both n.raw _ _ (λ o. IfSome o (λ v. is_typed n.id v d ≡ true))
      (λ raw. mapped_holds (λ v. is_typed n.id v d ≡ true) (octets_value n.id d) (octets_spelled text)
      (weaker IsBytes (λ os. is_typed n.id (value_of_octets n.id os d) d ≡ true) (octets_typed n.id) (octets_spelled text) (octets_are_bytes text)))
      (λ typed. named_typed n.id text (typing_of_id n.id d.attributes) refl)

  unless_long_holds : (id : AttrId) (o : Option Value) → IfSome o (λ v. is_typed id v d ≡ true) → IfSome (result_ok (unless_long id d o)) (λ v. (is_typed id v d && is_within id v d) ≡ true)
  unless_long_holds id None h = tt
  unless_long_holds id (Some v) h =
      cond_both (is_within id v d) _ _ (λ r. IfSome (result_ok r) (λ x. (is_typed id x d && is_within id x d) ≡ true)) (λ within. rw (h, within)) (λ long. tt)

  pub value_holds : (n : Named) (text : List ℕ) → IfSome (result_ok (value_spelled n text d)) (λ v. (is_typed n.id v d && is_within n.id v d) ≡ true)
  unfolding value_spelled
  value_holds n text =
      cond_both (is_barred n d) _ _ (λ (r : Result Value ValueFault). IfSome (result_ok r) (λ v. (is_typed n.id v d && is_within n.id v d) ≡ true))
      (λ barred. tt) (λ free. unless_long_holds n.id (spelled n text d) (spelled_typed n text))

  -- ---- pairs

  pub fits_by : (n : Named) (v : Value) → is_known n.id d ≡ true → (is_typed n.id v d && is_within n.id v d) ≡ true → fits (pair_with n v) d ≡ true
  unfolding fits
  fits_by n v known h =
      let parts = and_parts (is_typed n.id v d) (is_within n.id v d) h in
      rw (known, parts.0, parts.1)

  named_fits : (text : List ℕ) (n : Option Named) → IfSome n (λ x. is_known x.id d ≡ true) → IfSome (option_and_then (pair_named d text) n) (λ p. fits p d ≡ true)
  named_fits text None h = tt
  named_fits text (Some n) h =
      mapped_holds (λ p. fits p d ≡ true) (pair_with n) (result_ok (value_spelled n text d))
      (weaker (λ v. (is_typed n.id v d && is_within n.id v d) ≡ true) (λ v. fits (pair_with n v) d ≡ true) (λ v. fits_by n v h) (result_ok (value_spelled n text d)) (value_holds n text))

  pair_fits : IsSound d → (a : Assignment) → IfSome (pair_spelled d a) (λ p. fits p d ≡ true)
  unfolding pair_spelled
  pair_fits sound a = named_fits a.text (named a.name d) (known_named sound a.name)

  pub of_found : {X : Type 0} (P : X → Type 0) (o : Option X) (x : X) → o ≡ Some x → IfSome o P → P x
  of_found P o x e h = subst (λ found. IfSome found P) e h

  -- what a text spells under a name fits
  pub spelled_fits : IsSound d → (name text : List ℕ) (pair : Pair) → option_and_then (pair_named d text) (named name d) ≡ Some pair → fits pair d ≡ true
  spelled_fits sound name text pair e =
      of_found (λ p. fits p d ≡ true) (option_and_then (pair_named d text) (named name d)) pair e (named_fits text (named name d) (known_named sound name))

  -- a name stands for a known attribute
  pub names_known : IsSound d → (name : List ℕ) (found : Named) → named name d ≡ Some found → is_known found.id d ≡ true
  names_known sound name found e = of_found (λ n. is_known n.id d ≡ true) (named name d) found e (known_named sound name)

  -- the pairs of a request fit
  pub request_fits : IsSound d → (text : List ℕ) (pairs : List Pair) → request_spelled text d ≡ Some pairs → All (λ pair. fits pair d ≡ true) pairs
  unfolding request_spelled
  request_fits sound text pairs e = AllPass-from_list_all (λ pair. fits pair d) pairs (request_passes (pair_spelled d) (λ pair. fits pair d) (pair_fits sound) text pairs e)
