-- What texts spell under a dictionary's names is read back as it was written.
use Rattle.std.proofs.Common.{◌≡◌, ◌∙◌, ℕ, zero, suc, ◌+◌, ◌≤◌, pos, Bool, ℤ, true, false, ◌&&◌, List, [], ◌∷◌, Option, None, Some, Result, Ok, Err, length, refl, ap, arith, FitsSigned, ◌==◌, nat_le, IfSome, drop, w32, option_and_then, option_map, unwrap_or}
use Rattle.std.specs.List.{slice_split}
use Rattle.std.specs.Result.{result_ok}
use Rattle.std.proofs.lemmas.Bool.{cond_both, or_parts}
use Rattle.std.proofs.lemmas.Grind.{common_steps}
use Rattle.avp_lists.specs.declared.pairs.AttrId.{AttrId}
use Rattle.avp_lists.specs.declared.pairs.Pair.{Pair}
use Rattle.avp_lists.specs.declared.pairs.Value.{Value}
use Rattle.avp_lists.specs.declared.pairs.Value.TheVariants as values
use Rattle.avp_dict.specs.declared.entries.Named.{Named}
use Rattle.avp_dict.specs.declared.entries.Kind.{Kind}
use Rattle.avp_dict.specs.declared.entries.Kind.TheVariants as kinds
use Rattle.avp_dict.specs.AttributeNumbers.{greatest_number, greatest_signed, greatest_value}
use Rattle.avp_dict.specs.Dictionary.{Dictionary, typing_of_id}
use Rattle.avp_dict.specs.declared.entries.Typing.{Typing}
use Rattle.avp_dict.specs.declared.value.faults.ValueFault.{ValueFault}
use Rattle.avp_dict.specs.Letters.{is_dot}
use Rattle.avp_dict.specs.Limits.{fits, is_known, is_within}
use Rattle.avp_dict.specs.Octets.{is_hidden, read_value, value_of_octets}
use Rattle.avp_dict.specs.RequestLines.{Assignment}
use Rattle.avp_dict.specs.Requests.{pair_named, pair_spelled, pair_with, request_spelled}
use Rattle.avp_dict.specs.Names.{named}
use Rattle.avp_dict.specs.Soundness.{IsSound}
use Rattle.avp_dict.specs.Sent.{is_canonical, is_clean, is_clean_pair, is_container, is_raw}
use Rattle.avp_dict.specs.Spellings.{address_spelled, bytes_spelled, decimal_octet, digit_pair, each_number, ether_spelled, in_parts, is_barred, is_colon, is_negative, negated, number_spelled, octets_spelled, octets_value, signed_spelled, spelled, spelled_as, spelled_by, unless_long, up_to, value_spelled}
use Rattle.avp_dict.specs.Words.{digits, number_of}
use Rattle.avp_dict.proofs.Fitting.{always, fits_by, known_named, mapped_holds, of_found, request_passes, then_holds, up_to_holds, value_holds, weaker}
use Rattle.avp_dict.proofs.OwnValues.{IsSized, read_value_sized, typed_canonical, unread_canonical}

-- ---- what the types' texts spell

-- a value of its type's size, and no raw octets
abbrev IsWhole : Value → Type 0
IsWhole v = (is_raw v ≡ false) × IsSized v

each_number-length : (number : List ℕ → Option ℕ) (parts : List (List ℕ)) → IfSome (each_number number parts) (λ os. length os ≡ length parts)
unfolding each_number
each_number-length number [] = refl
each_number-length number (part ∷ parts) =
    then_holds (λ os. length os ≡ suc (length parts)) (λ n. option_map (λ ns. n ∷ ns) (each_number number parts))
    (λ n. mapped_holds (λ os. length os ≡ suc (length parts)) (λ ns. n ∷ ns) (each_number number parts)
    (weaker (λ ns. length ns ≡ length parts) (λ ns. suc (length ns) ≡ suc (length parts)) (λ ns h. ap suc h) (each_number number parts) (each_number-length number parts)))
    (number part)

in_parts-length : (n : ℕ) (number : List ℕ → Option ℕ) (parts : List (List ℕ)) → IfSome (in_parts n number parts) (λ os. length os ≡ n)
in_parts-length n number parts =
    cond_both (length parts == n) _ _ (λ o. IfSome o (λ os. length os ≡ n))
    (λ e.
    let same : length parts ≡ n = grind (arith, common_steps) in
    weaker (λ os. length os ≡ length parts) (λ os. length os ≡ n) (λ os h. h ∙ same) (each_number number parts) (each_number-length number parts))
    (λ other. tt)

negated_ranged : (n : ℕ) → nat_le n (greatest_signed + 1) ≡ true → FitsSigned w32 (negated n)
negated_ranged zero h = record { sfits = omega arith }
negated_ranged (suc n) h = let low : suc n ≤ (greatest_signed + 1) = grind (arith, common_steps) in record { sfits = omega arith }

plain_ranged : (n : ℕ) → nat_le n greatest_signed ≡ true → FitsSigned w32 (pos n)
plain_ranged n h = let low : n ≤ greatest_signed = grind (arith, common_steps) in record { sfits = omega arith }

signed_ranged : (d : Dictionary) (text : List ℕ) → IfSome (signed_spelled text) (λ z. FitsSigned w32 z)
unfolding signed_spelled
signed_ranged d text =
    let IsRanged : ℤ → Type 0 = λ z. FitsSigned w32 z in
    let low : (most : ℕ) (f : ℕ → ℤ) (digits : Option ℕ) → ((n : ℕ) → nat_le n most ≡ true → IsRanged (f n)) → IfSome (option_map f (up_to most digits)) IsRanged =
    λ most f digits h. mapped_holds IsRanged f (up_to most digits) (weaker (λ n. nat_le n most ≡ true) (λ n. IsRanged (f n)) h (up_to most digits) (up_to_holds d most digits)) in
    cond_both (is_negative text) _ _ (λ o. IfSome o IsRanged)
    (λ negative. low (greatest_signed + 1) negated (digits 10 (drop 1 text)) negated_ranged) (λ positive. low greatest_signed pos (digits 10 text) plain_ranged)

number_whole : (o : Option ℕ) → IfSome (option_map values.Int o) IsWhole
number_whole o = mapped_holds IsWhole values.Int o (always (λ n. IsWhole (values.Int n)) (λ n. (refl, tt)) o)

module _ (d : Dictionary) where
  whole_as : (kind : Kind) (takes_text : Bool) (id : AttrId) (text : List ℕ) → IfSome (spelled_as kind takes_text id text d) IsWhole
  whole_as kinds.Text takes_text id text = (refl, tt)
  whole_as kinds.Bytes takes_text id text = mapped_holds IsWhole values.Bytes (bytes_spelled takes_text text) (always (λ os. IsWhole (values.Bytes os)) (λ os. (refl, tt)) (bytes_spelled takes_text text))
  whole_as kinds.Addr takes_text id text =
      mapped_holds IsWhole values.Addr (address_spelled text) (weaker (λ os. length os ≡ 4) (λ os. IsWhole (values.Addr os)) (λ os h. (refl, h)) (address_spelled text) (in_parts-length 4 decimal_octet (slice_split is_dot text)))
  whole_as kinds.Ether takes_text id text =
      mapped_holds IsWhole values.Ether (ether_spelled text) (weaker (λ os. length os ≡ 6) (λ os. IsWhole (values.Ether os)) (λ os h. (refl, h)) (ether_spelled text) (in_parts-length 6 digit_pair (slice_split is_colon text)))
  whole_as kinds.Byte takes_text id text = number_whole (number_spelled 255 id text d)
  whole_as kinds.Short takes_text id text = number_whole (number_spelled 65535 id text d)
  whole_as kinds.Integer takes_text id text = number_whole (number_spelled greatest_number id text d)
  whole_as kinds.Integer64 takes_text id text = number_whole (number_spelled greatest_value id text d)
  whole_as kinds.Date takes_text id text = number_whole (up_to greatest_number (number_of text))
  whole_as kinds.Signed takes_text id text =
      mapped_holds IsWhole values.Signed (signed_spelled text) (weaker (λ z. FitsSigned w32 z) (λ z. IsWhole (values.Signed z)) (λ z h. (refl, h)) (signed_spelled text) (signed_ranged d text))

  named_whole : (id : AttrId) (text : List ℕ) (typing : Option Typing) → IfSome (option_and_then (spelled_by id text d) typing) IsWhole
  named_whole id text None = tt
  named_whole id text (Some typing) = whole_as typing.kind typing.takes_text id text

  -- ---- their pairs

  -- a value that is its own octets' where its pair fits
  abbrev IsOwn : AttrId → Value → Type 0
  IsOwn id v = fits (record { id = id; value = v }) d ≡ true → is_canonical (record { id = id; value = v }) d ≡ true

  -- octets under a name by number
  octets_own : (id : AttrId) → is_hidden id d ≡ false → (os : List ℕ) → IsOwn id (value_of_octets id os d)
  unfolding value_of_octets
  octets_own id plain os = go (read_value id os d) refl
    where
      go : (o : Option Value) → read_value id os d ≡ o → IsOwn id (unwrap_or o (values.Raw os))
      go None e fit = unread_canonical d id os plain (ap (λ (o : Option Value). unwrap_or o (values.Raw os)) e) fit
      go (Some v) e fit = let is = read_value_sized d id os v e in typed_canonical d id v is.0 is.1 fit

  spelled_own : (n : Named) (text : List ℕ) → is_barred n d ≡ false → IfSome (spelled n text d) (IsOwn n.id)
  unfolding spelled
  spelled_own n text free =
      cond_both n.raw _ _ (λ o. IfSome o (IsOwn n.id))
      (λ raw.
      let shown : is_hidden n.id d ≡ false = (or_parts (is_container n.id) (is_hidden n.id d) (rw raw at free)).1 in
      mapped_holds (IsOwn n.id) (octets_value n.id d) (octets_spelled text)
      (always (λ os. IsOwn n.id (value_of_octets n.id os d)) (octets_own n.id shown) (octets_spelled text)))
      (λ typed.
      weaker IsWhole (IsOwn n.id) (λ v is fit. typed_canonical d n.id v is.0 is.1 fit)
      (option_and_then (spelled_by n.id text d) (typing_of_id n.id d.attributes)) (named_whole n.id text (typing_of_id n.id d.attributes)))

  unless_long_own : (id : AttrId) (o : Option Value) → IfSome o (IsOwn id) → IfSome (result_ok (unless_long id d o)) (IsOwn id)
  unless_long_own id None h = tt
  unless_long_own id (Some v) h = cond_both (is_within id v d) _ _ (λ r. IfSome (result_ok r) (IsOwn id)) (λ within. h) (λ long. tt)

  -- a value that is spelled is its own octets', and its id no container
  abbrev IsSpelledOwn : AttrId → Value → Type 0
  IsSpelledOwn id v = (is_container id ≡ false) × IsOwn id v

  value_own : (n : Named) (text : List ℕ) → IfSome (result_ok (value_spelled n text d)) (IsSpelledOwn n.id)
  unfolding value_spelled
  value_own n text =
      cond_both (is_barred n d) _ _ (λ (r : Result Value ValueFault). IfSome (result_ok r) (IsSpelledOwn n.id)) (λ barred. tt)
      (λ free.
      let alone = (or_parts (is_container n.id) (n.raw && is_hidden n.id d) free).0 in
      weaker (IsOwn n.id) (IsSpelledOwn n.id) (λ v h. (alone, h)) (result_ok (unless_long n.id d (spelled n text d))) (unless_long_own n.id (spelled n text d) (spelled_own n text free)))

  -- a text's value under the name of a known id
  pub spelled_clean : (n : Named) (text : List ℕ) (v : Value) → is_known n.id d ≡ true → value_spelled n text d ≡ Ok v → is_clean_pair d (pair_with n v) ≡ true
  spelled_clean n text v known e =
      let found : result_ok (value_spelled n text d) ≡ Some v = ap result_ok e in
      let held = of_found d _ (result_ok (value_spelled n text d)) v found (value_holds d n text) in
      let own = of_found d (IsSpelledOwn n.id) (result_ok (value_spelled n text d)) v found (value_own n text) in
      let canonical = own.1 (fits_by d n v known held) in
      let alone = own.0 in
      rw (canonical, alone)

  -- ---- requests

  named_clean : (text : List ℕ) (n : Option Named) → IfSome n (λ x. is_known x.id d ≡ true) → IfSome (option_and_then (pair_named d text) n) (λ p. is_clean_pair d p ≡ true)
  named_clean text None h = tt
  named_clean text (Some n) h = go (value_spelled n text d) refl
    where
      go : (r : Result Value ValueFault) → value_spelled n text d ≡ r → IfSome (option_map (pair_with n) (result_ok r)) (λ p. is_clean_pair d p ≡ true)
      go (Ok v) e = spelled_clean n text v h e
      go (Err fault) e = tt

  pair_clean : IsSound d → (a : Assignment) → IfSome (pair_spelled d a) (λ p. is_clean_pair d p ≡ true)
  unfolding pair_spelled
  pair_clean sound a = named_clean a.text (named a.name d) (known_named d sound a.name)

  -- the list of a request is clean
  pub request_clean : IsSound d → (text : List ℕ) (pairs : List Pair) → request_spelled text d ≡ Some pairs → is_clean pairs d ≡ true
  unfolding is_clean request_spelled
  request_clean sound text pairs e = request_passes (pair_spelled d) (is_clean_pair d) (pair_clean sound) text pairs e
