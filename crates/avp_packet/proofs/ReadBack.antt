-- What is written of clean lists means the pairs that were sent.
use Rattle.std.proofs.Common.{◌≡◌, ◌∙◌, ℕ, zero, suc, ◌+◌, ◌-◌, ◌*◌, ◌/◌, ◌^◌, ◌<◌, ◌≤◌, true, false, not, ◌==◌, nat_le, cond, List, [], ◌∷◌, ◌++◌, length, take, drop, Option, Some, None, refl, sym, ap, arith, append-nil, append_assoc, ◌⊎◌, inl, inr}
use Rattle.std.specs.Prelude.{IfSome}
use Rattle.std.specs.Int.{bytes_high_first}
use Rattle.std.specs.Int.Digits.{number_from_digits}
use Rattle.std.specs.List.{All, AllByRecursion, flat_map, list_all}
use Rattle.std.proofs.lemmas.List.Elements.{recursion_from_All}
use Rattle.std.specs.Option.{option_and_then}
use Rattle.std.proofs.lemmas.Bool.{and_parts, false≢true, not-true}
use Rattle.std.proofs.lemmas.Grind.{common_steps}
use Rattle.std.proofs.lemmas.List.{drop_all, drop_at, length-append, length-drop, length-take-le, take_at, take_all, take-append-drop}
use Rattle.avp_lists.specs.declared.pairs.AttrId.{AttrId}
use Rattle.avp_lists.specs.declared.pairs.AttrId.TheVariants.{Plain, Vendor, Extended}
use Rattle.avp_lists.specs.declared.pairs.Pair.{Pair}
use Rattle.avp_lists.specs.declared.pairs.Value.{Value}
use Rattle.avp_dict.specs.declared.entries.Format.{Format}
use Rattle.avp_dict.specs.Dictionary.{Dictionary}
use Rattle.avp_dict.specs.declared.entries.VendorFormat.{VendorFormat}
use Rattle.avp_dict.specs.Dictionary.{format_of}
use Rattle.avp_dict.specs.Limits.{fits, is_known}
use Rattle.avp_dict.specs.Names.{unless_three, vendor_format}
use Rattle.avp_dict.specs.Sent.{is_canonical, is_clean, is_clean_pair, is_container, is_internal, is_sent, sent}
use Rattle.avp_dict.specs.Settled.{holds, is_in_format}
use Rattle.avp_dict.specs.Soundness.{HasKnownFormats, IsSound}
use Rattle.avp_dict.specs.Vendors.{is_format}
use Rattle.avp_dict.specs.AttributeNumbers.{vendor_specific}
use Rattle.avp_packet.specs.AttributeOctets.{attribute_octets, fragments, is_long, part, parts_holding, parts_of, parts_of_pair, sent_octets, vendor_value}
use Rattle.avp_packet.specs.Meanings.{Run, are_subattributes, are_subattributes_after, begins_subattribute, extended_type, first_run, first_subattribute, attribute_pairs, pair_meant, piece_of, run, subattribute_length, subattributes, subattributes_after, vendor_of, vendor_subattributes}
use Rattle.avp_packet.specs.Splitting.{Part, left, part_octets, parts}
use Rattle.avp_packet.specs.VendorFormats.{known_format, usable_format}
use Rattle.avp_packet.specs.internal.Holding.{CanHold, FitsFormat}
use Rattle.avp_packet.specs.internal.Ranges.{IsVendorInRange}
use Rattle.avp_packet.specs.ExtendedTypes.{extended_type_1, extended_type_4, long_extended_type_1, long_extended_type_2, piece_octets, more_flag, holds_one, holds_long}
use Rattle.avp_packet.proofs.Means.{attribute_pairs-cons, attribute_pairs-nil}
use Rattle.avp_packet.proofs.AttributeRoom.{fits_known, format_of_size, sent_by, sent_held}
use Rattle.avp_packet.proofs.PieceRuns.{run-some, run_rest}
use Rattle.avp_packet.proofs.Splits.{left-all, left-none, parts-all, parts-none}
use Rattle.avp_packet.proofs.VendorAttributes.{are_subattributes_more, subattributes_more}
use Rattle.avp_packet.proofs.ValuesReadBack.{value_back}
use Rattle.avp_packet.proofs.Written.{length-bytes_high_first, length-vendor_value}
use Rattle.avp_packet.proofs.Tests.{by_test}

-- ---- numbers

number_back : (k n : ℕ) → k ≤ 4 → n < 256 ^ k → number_from_digits 256 (bytes_high_first k n) ≡ n
number_back zero n h lt = omega arith
number_back (suc zero) n h lt = omega arith
number_back (suc (suc zero)) n h lt = omega arith
number_back (suc (suc (suc zero))) n h lt = omega arith
number_back (suc (suc (suc (suc zero)))) n h lt = omega arith
number_back (suc (suc (suc (suc (suc k))))) n h lt = absurd (omega arith)

test_same : (n : ℕ) → (n == n) ≡ true
test_same n = grind (arith, common_steps)

-- ---- a vendor's attribute

format_small : (f : Format) → is_format f.t f.l ≡ true → (1 ≤ f.t) × (f.t ≤ 4) × (f.l ≤ 2)
format_small f h = go (format_of_size f.t f.l h).0 (format_of_size f.t f.l h).1
  where
    go : ((f.t ≡ 1) ⊎ ((f.t ≡ 2) ⊎ (f.t ≡ 4))) → f.l ≤ 2 → (1 ≤ f.t) × (f.t ≤ 4) × (f.l ≤ 2)
    go (inl e) l = (omega arith, omega arith, l)
    go (inr (inl e)) l = (omega arith, omega arith, l)
    go (inr (inr e)) l = (omega arith, omega arith, l)

module _ (f : Format) (good : is_format f.t f.l ≡ true) (number : ℕ) (os : List ℕ) (held : FitsFormat number os f) where
  abbrev size : ℕ
  size = f.t + f.l + length os

  abbrev subattribute_octets : List ℕ
  subattribute_octets = bytes_high_first f.t number ++ bytes_high_first f.l size ++ os

  length-subattribute_octets : length subattribute_octets ≡ size
  length-subattribute_octets =
      let a = length-append (bytes_high_first f.t number ++ bytes_high_first f.l size) os in
      let b = length-append (bytes_high_first f.t number) (bytes_high_first f.l size) in
      let d = length-bytes_high_first f.t number in
      let e = length-bytes_high_first f.l size in
      omega arith

  size_fits : 1 ≤ f.l → size < 256 ^ f.l
  size_fits some = go f.l refl (format_small f good).2
    where
      go : (l : ℕ) → f.l ≡ l → l ≤ 2 → size < 256 ^ l
      go zero e h = absurd (omega arith)
      go (suc zero) e h = omega (arith, held.1)
      go (suc (suc zero)) e h = omega (arith, held.1)
      go (suc (suc (suc l))) e h = absurd (omega arith)

  type_first : take f.t subattribute_octets ≡ bytes_high_first f.t number
  type_first = rw append_assoc (take_at (bytes_high_first f.t number) (bytes_high_first f.l size ++ os) f.t (length-bytes_high_first f.t number))

  length_after : drop f.t subattribute_octets ≡ bytes_high_first f.l size ++ os
  length_after = rw append_assoc (drop_at (bytes_high_first f.t number) (bytes_high_first f.l size ++ os) f.t (length-bytes_high_first f.t number))

  value_after : drop (f.t + f.l) subattribute_octets ≡ os
  value_after =
      let a = length-append (bytes_high_first f.t number) (bytes_high_first f.l size) in
      let d = length-bytes_high_first f.t number in
      let e = length-bytes_high_first f.l size in
      drop_at (bytes_high_first f.t number ++ bytes_high_first f.l size) os (f.t + f.l) (omega arith)

  subattribute_length_is : subattribute_length f subattribute_octets ≡ size
  subattribute_length_is =
      by_test (subattribute_length f subattribute_octets ≡ size) (f.l == 0)
      (λ e. rw e length-subattribute_octets)
      (λ e. let some : 1 ≤ f.l = grind (arith, common_steps) in
      let small = format_small f good in
      rw (e, length_after, take_at (bytes_high_first f.l size) os f.l (length-bytes_high_first f.l size)) (number_back f.l size (omega (arith, small.2)) (size_fits some)))

  begins : begins_subattribute f subattribute_octets ≡ true
  begins =
      let long = length-subattribute_octets in
      let told = subattribute_length_is in
      let a : nat_le (f.t + f.l) (length subattribute_octets) ≡ true = grind (arith, common_steps) in
      let b : nat_le (f.t + f.l) (subattribute_length f subattribute_octets) ≡ true = grind (arith, common_steps) in
      let d : nat_le (subattribute_length f subattribute_octets) (length subattribute_octets) ≡ true = grind (arith, common_steps) in
      rw (a, b, d)

  first_is : first_subattribute f subattribute_octets ≡ record { number = number; value = os }
  first_is =
      let small = format_small f good in
      let n : number_from_digits 256 (take f.t subattribute_octets) ≡ number = rw type_first (number_back f.t number (omega (arith, small.1)) held.0) in
      let told = subattribute_length_is in
      let rest : subattribute_length f subattribute_octets - (f.t + f.l) ≡ length os = omega arith in
      rw (n, rest, value_after, take_all (length os) os (omega arith))

  none_after : drop (subattribute_length f subattribute_octets) subattribute_octets ≡ []
  none_after = drop_all (subattribute_length f subattribute_octets) subattribute_octets (omega (arith, subattribute_length_is, length-subattribute_octets))

  some_octets : 0 < length subattribute_octets
  some_octets = let small = format_small f good in omega (arith, length-subattribute_octets, small.0)

  subattributes_is : subattributes f subattribute_octets ≡ record { number = number; value = os } ∷ []
  unfolding subattributes_after
  subattributes_is = subattributes_more f subattribute_octets good some_octets begins ∙ rw (first_is, none_after)

  are_subattributes_is : are_subattributes f subattribute_octets ≡ true
  unfolding are_subattributes_after
  are_subattributes_is =
      let some = some_octets in
      let there : (length subattribute_octets == 0) ≡ false = grind (arith, common_steps) in
      rw there (are_subattributes_more f subattribute_octets good some_octets begins ∙ rw none_after)

-- ---- the format of a known vendor

known_by : (n : ℕ) (o : Option VendorFormat) → holds n o ≡ true → IfSome (option_and_then unless_three o) (λ f. is_format f.t f.l ≡ true) → (f : Format) × (option_and_then usable_format (option_and_then unless_three o) ≡ Some f) × (is_format f.t f.l ≡ true)
known_by n None h formats = absurd (false≢true h)
known_by n (Some f) h formats =
    let two : f.third ≡ false = not-true f.third (and_parts (not f.third) _ h).0 in
    let good : is_format f.t f.l ≡ true = rw two at formats in
    (record { t = f.t; l = f.l }, rw (two, good), good)

-- ---- the attributes of an id

module _ (dictionary : Dictionary) (sound : IsSound dictionary) (formats : HasKnownFormats dictionary) (secret authenticator : List ℕ) (keyed : 0 < length secret) where
  abbrev means : List Part → List Pair
  means ps = attribute_pairs dictionary secret authenticator ps

  abbrev pair_from : AttrId → List ℕ → Pair
  pair_from id os = pair_meant dictionary secret authenticator id os

  known_format_of : (v n : ℕ) → is_in_format v n dictionary.vendors ≡ true → (f : Format) × (known_format v dictionary ≡ Some f) × (is_format f.t f.l ≡ true)
  unfolding is_in_format known_format vendor_format
  known_format_of v n h = known_by n (format_of v dictionary.vendors) h (formats v)

  -- a plain attribute
  pub plain_read : (n : ℕ) (os : List ℕ) (rest : List Part) → is_container (Plain n) ≡ false → means (part n os ∷ rest) ≡ pair_from (Plain n) os ∷ means rest
  plain_read n os rest h =
      let a : (n == vendor_specific) ≡ false = grind (arith, common_steps) in
      let b : holds_one n ≡ false = grind (arith, common_steps) in
      let d : holds_long n ≡ false = grind (arith, common_steps) in
      attribute_pairs-cons dictionary secret authenticator (part n os) rest ∙ rw (a, b, d)

  -- an extended attribute
  extended_read : (t n o : ℕ) (os : List ℕ) (rest : List Part) → extended_type_1 ≤ t → t ≤ extended_type_4 → means (part t (n ∷ o ∷ os) ∷ rest) ≡ pair_from (Extended t n) (o ∷ os) ∷ means rest
  extended_read t n o os rest low high =
      let a : (t == vendor_specific) ≡ false = grind (arith, common_steps) in
      let b : holds_one t ≡ true = grind (arith, common_steps) in
      let d : holds_long t ≡ false = grind (arith, common_steps) in
      attribute_pairs-cons dictionary secret authenticator (part t (n ∷ o ∷ os)) rest ∙ rw (a, b, d)

  -- a long one
  long_read : (p : Part) (ps : List Part) (r : Run) → long_extended_type_1 ≤ p.number → p.number ≤ long_extended_type_2 → first_run p ps ≡ Some r → means (p ∷ ps) ≡ pair_from (Extended p.number (extended_type p)) r.os ∷ means r.rest
  long_read p ps r low high h =
      let t : ℕ = p.number in
      let a : (t == vendor_specific) ≡ false = grind (arith, common_steps) in
      let b : holds_one t ≡ false = grind (arith, common_steps) in
      let d : holds_long t ≡ true = grind (arith, common_steps) in
      let rest = run_rest p.number (extended_type p) p ps r h in
      attribute_pairs-cons dictionary secret authenticator p ps ∙ rw (a, b, d, h) (ap (λ (qs : List Part). pair_from (Extended p.number (extended_type p)) r.os ∷ means qs) (sym rest))

  -- a vendor's
  vendor_subattributes_is : (v n : ℕ) (os : List ℕ) (f : Format) → v < 2 ^ 32 → known_format v dictionary ≡ Some f → is_format f.t f.l ≡ true → FitsFormat n os f → vendor_subattributes dictionary (vendor_value v n os f) ≡ Some (record { number = n; value = os } ∷ [])
  unfolding vendor_subattributes
  vendor_subattributes_is v n os f small known good held =
      let long = length-vendor_value v n os f in
      let four : nat_le 4 (length (vendor_value v n os f)) ≡ true = grind (arith, common_steps) in
      let vendor : vendor_of (vendor_value v n os f) ≡ v = number_back 4 v (omega arith) (omega arith) in
      rw (four, vendor, known, are_subattributes_is f good n os held, subattributes_is f good n os held)

  vendor_read : (v n : ℕ) (os : List ℕ) (f : Format) (rest : List Part) → v < 2 ^ 32 → known_format v dictionary ≡ Some f → is_format f.t f.l ≡ true → FitsFormat n os f → means (part vendor_specific (vendor_value v n os f) ∷ rest) ≡ pair_from (Vendor v n) os ∷ means rest
  vendor_read v n os f rest small known good held =
      let vendor : vendor_of (vendor_value v n os f) ≡ v = number_back 4 v (omega arith) (omega arith) in
      attribute_pairs-cons dictionary secret authenticator (part vendor_specific (vendor_value v n os f)) rest ∙ rw (vendor_subattributes_is v n os f small known good held, vendor)

  -- ---- pieces

  run_fragments : (k t n : ℕ) (os : List ℕ) (rest : List Part) → piece_octets * k < length os → run t n (fragments k t n os ++ rest) ≡ Some (record { os = os; rest = rest })
  unfolding fragments
  run_fragments zero t n [] rest h = absurd (omega arith)
  run_fragments zero t n (o ∷ os) rest h =
      let piece : piece_of t n (part t (n ∷ 0 ∷ o ∷ os)) ≡ Some (record { more = false; os = o ∷ os }) = rw (test_same t, test_same n) in
      run-some t n (part t (n ∷ 0 ∷ o ∷ os)) rest (record { more = false; os = o ∷ os }) piece
  run_fragments (suc k) t n [] rest h = absurd (omega arith)
  run_fragments (suc k) t n (o ∷ os) rest h =
      let all : List ℕ = o ∷ os in
      let first : List ℕ = take piece_octets all in
      let full : length first ≡ piece_octets = length-take-le piece_octets all (omega arith) in
      let whole : (length first == piece_octets) ≡ true = grind (arith, common_steps) in
      let e = length-drop piece_octets all in
      let piece : piece_of t n (part t (n ∷ more_flag ∷ first)) ≡ Some (record { more = true; os = first }) = rw (test_same t, test_same n) in
      let others = run_fragments k t n (drop piece_octets all) rest (omega arith) in
      run-some t n (part t (n ∷ more_flag ∷ first)) (fragments k t n (drop piece_octets all) ++ rest) (record { more = true; os = first }) piece
      ∙ rw (whole, others) (ap (λ (xs : List ℕ). Some (record { os = xs; rest = rest })) (take-append-drop piece_octets all))

  fragments_read : (k t n : ℕ) (os : List ℕ) (rest : List Part) → long_extended_type_1 ≤ t → t ≤ long_extended_type_2 → piece_octets * k < length os → means (fragments k t n os ++ rest) ≡ pair_from (Extended t n) os ∷ means rest
  unfolding fragments
  fragments_read zero t n os rest low high h = long_read (part t (n ∷ 0 ∷ os)) rest (record { os = os; rest = rest }) low high (run_fragments zero t n os rest h)
  fragments_read (suc k) t n os rest low high h = long_read (part t (n ∷ more_flag ∷ take piece_octets os)) (fragments k t n (drop piece_octets os) ++ rest) (record { os = os; rest = rest }) low high (run_fragments (suc k) t n os rest h)

  -- ---- the attributes of any id

  id_read : (id : AttrId) (os : List ℕ) (rest : List Part) → is_known id dictionary ≡ true → is_container id ≡ false → IsVendorInRange id → CanHold dictionary id os → 0 < length os → means (parts_holding dictionary id os ++ rest) ≡ pair_from id os ∷ means rest
  unfolding parts_holding is_known
  id_read (Plain n) os rest known plain ranged held some = plain_read n os rest plain
  id_read (Vendor v n) os rest known plain ranged held some =
      let f = known_format_of v n known in
      let fitting : FitsFormat n os f.0 = rw f.1 at held in
      rw f.1 (vendor_read v n os f.0 rest ranged f.1 f.2 fitting)
  id_read (Extended t n) os rest known plain ranged held some =
      let low : extended_type_1 ≤ t = grind (arith, common_steps) in
      let high : t ≤ long_extended_type_2 = grind (arith, common_steps) in
      by_test (means (cond (is_long t) (fragments ((length os - 1) / piece_octets) t n os) (part t (n ∷ os) ∷ []) ++ rest) ≡ pair_from (Extended t n) os ∷ means rest) (is_long t)
      (λ e. let long : long_extended_type_1 ≤ t = grind (arith, common_steps) in rw e (fragments_read ((length os - 1) / piece_octets) t n os rest long high (omega arith)))
      (λ e. let short : t ≤ extended_type_4 = grind (arith, common_steps) in rw e (one os some low short))
    where
      one : (xs : List ℕ) → 0 < length xs → extended_type_1 ≤ t → t ≤ extended_type_4 → means (part t (n ∷ xs) ∷ rest) ≡ pair_from (Extended t n) xs ∷ means rest
      one [] h low short = absurd (omega arith)
      one (o ∷ xs) h low short = extended_read t n o xs rest low short

  -- ---- pairs and lists

  canonical_fits : (p : Pair) → is_canonical p dictionary ≡ true → fits p dictionary ≡ true
  unfolding is_canonical
  canonical_fits p h = (and_parts (fits p dictionary) _ h).0

  pair_read : (p : Pair) (rest : List Part) → is_clean_pair dictionary p ≡ true → IsVendorInRange p.id → is_sent dictionary p ≡ true → means (parts_of_pair dictionary secret authenticator p ++ rest) ≡ p ∷ means rest
  pair_read p rest clean ranged is =
      let both = and_parts (is_canonical p dictionary) (not (is_container p.id)) clean in
      let canonical = both.0 in
      let plain : is_container p.id ≡ false = not-true (is_container p.id) both.1 in
      let fitting = canonical_fits p canonical in
      let outside : is_internal p.id ≡ false = not-true (is_internal p.id) (and_parts (not (is_internal p.id)) _ is).0 in
      let os : List ℕ = sent_octets dictionary secret authenticator p in
      let there : not (length os == 0) ≡ true = sym (sent_by dictionary secret authenticator p outside) ∙ is in
      let some : 0 < length os = grind (arith, common_steps) in
      id_read p.id os rest (fits_known dictionary p fitting) plain ranged (sent_held dictionary secret authenticator p fitting outside) some
      ∙ ap (λ (v : Value). record { id = p.id; value = v } ∷ means rest) (value_back dictionary sound secret authenticator keyed p canonical)

  abbrev AreInRange : List Pair → Type 0
  AreInRange pairs = AllByRecursion (λ p. IsVendorInRange p.id) pairs

  -- what is written of a clean list means the pairs that are sent, whatever follows
  list_read : (pairs : List Pair) (rest : List Part) → list_all (is_clean_pair dictionary) pairs ≡ true → AreInRange pairs → means (parts_of dictionary secret authenticator pairs ++ rest) ≡ sent pairs dictionary ++ means rest
  unfolding parts_of sent
  list_read [] rest clean ranged = refl
  list_read (p ∷ ps) rest clean ranged =
      let both = and_parts (is_clean_pair dictionary p) (list_all (is_clean_pair dictionary) ps) clean in
      let others = list_read ps rest both.1 ranged.1 in
      let this = both.0 in
      by_test (means (parts_of dictionary secret authenticator (p ∷ ps) ++ rest) ≡ sent (p ∷ ps) dictionary ++ means rest) (is_sent dictionary p)
      (λ e. rw (e, append_assoc (parts_of_pair dictionary secret authenticator p) (parts_of dictionary secret authenticator ps) rest)
      (pair_read p (parts_of dictionary secret authenticator ps ++ rest) this ranged.0 e ∙ ap (λ (xs : List Pair). p ∷ xs) others))
      (λ e. rw e others)

  pub clean_read : (pairs : List Pair) (rest : List Part) → is_clean pairs dictionary ≡ true → All (λ p. IsVendorInRange p.id) pairs → means (parts_of dictionary secret authenticator pairs ++ rest) ≡ sent pairs dictionary ++ means rest
  unfolding is_clean
  clean_read pairs rest clean ranged = list_read pairs rest clean (recursion_from_All (λ (p : Pair). IsVendorInRange p.id) pairs ranged)

  pub nothing_read : means [] ≡ []
  nothing_read = attribute_pairs-nil dictionary secret authenticator

  -- ---- octets

  -- no octets are left after the attributes
  pub written_whole : (pairs : List Pair) → left (attribute_octets dictionary secret authenticator pairs) ≡ []
  written_whole pairs =
      let ps : List Part = parts_of dictionary secret authenticator pairs in
      ap left (sym (append-nil (flat_map part_octets ps))) ∙ left-all ps [] ∙ left-none [] refl

  pub both_whole : (pairs others : List Pair) → left (attribute_octets dictionary secret authenticator pairs ++ attribute_octets dictionary secret authenticator others) ≡ []
  both_whole pairs others = left-all (parts_of dictionary secret authenticator pairs) (attribute_octets dictionary secret authenticator others) ∙ written_whole others

  pub written_means : (pairs : List Pair) → is_clean pairs dictionary ≡ true → All (λ p. IsVendorInRange p.id) pairs → means (parts (attribute_octets dictionary secret authenticator pairs)) ≡ sent pairs dictionary
  written_means pairs clean ranged =
      let ps : List Part = parts_of dictionary secret authenticator pairs in
      ap (λ (os : List ℕ). means (parts os)) (sym (append-nil (flat_map part_octets ps)))
      ∙ ap means (parts-all ps []) ∙ clean_read pairs (parts []) clean ranged ∙ ap (λ (xs : List Pair). sent pairs dictionary ++ xs) (ap means (parts-none [] refl) ∙ nothing_read) ∙ append-nil (sent pairs dictionary)

  pub both_mean : (pairs others : List Pair) → is_clean pairs dictionary ≡ true → is_clean others dictionary ≡ true → All (λ p. IsVendorInRange p.id) pairs → All (λ p. IsVendorInRange p.id) others
      → means (parts (attribute_octets dictionary secret authenticator pairs ++ attribute_octets dictionary secret authenticator others)) ≡ sent pairs dictionary ++ sent others dictionary
  both_mean pairs others clean too ranged also =
      let ps : List Part = parts_of dictionary secret authenticator pairs in
      let os : List ℕ = attribute_octets dictionary secret authenticator others in
      ap means (parts-all ps os) ∙ clean_read pairs (parts os) clean ranged ∙ ap (λ (xs : List Pair). sent pairs dictionary ++ xs) (written_means others too also)
