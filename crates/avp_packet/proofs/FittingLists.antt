-- What holds of each pair that is read holds of the pairs of whole attributes: they fit the dictionary.
use Rattle.std.proofs.Common.{◌≡◌, ℕ, zero, suc, ◌+◌, ◌-◌, ◌*◌, ◌^◌, ◌<◌, ◌≤◌, Bool, true, false, ◌&&◌, ◌==◌, nat_le, cond, List, [], ◌∷◌, ◌++◌, length, take, drop, map, Option, Some, None, refl, ap, subst, arith, ◌⊎◌, inl, inr}
use Rattle.std.specs.Prelude.{IfSome}
use Rattle.std.specs.List.{All, AllByRecursion}
use Rattle.std.specs.Option.{option_and_then, option_map, option_map_or}
use Rattle.std.proofs.lemmas.Grind.{common_steps}
use Rattle.std.proofs.lemmas.Int.Digits.{number_lt}
use Rattle.std.proofs.lemmas.List.{length-append, length-drop, length-take, length-take-le}
use Rattle.std.proofs.lemmas.List.Elements.{All-from_recursion}
use Rattle.std.proofs.lemmas.Bool.{and_parts}
use Rattle.avp_lists.specs.declared.pairs.AttrId.{AttrId}
use Rattle.avp_lists.specs.declared.pairs.AttrId.TheVariants.{Plain, Vendor, Extended}
use Rattle.avp_lists.specs.declared.pairs.Pair.{Pair}
use Rattle.avp_dict.specs.declared.entries.Format.{Format}
use Rattle.avp_dict.specs.Dictionary.{Dictionary}
use Rattle.avp_dict.specs.declared.entries.VendorFormat.{VendorFormat}
use Rattle.avp_dict.specs.Attributes.{is_held}
use Rattle.avp_dict.specs.Dictionary.{format_of}
use Rattle.avp_dict.specs.Limits.{fits, is_known, max_octets, vendor_room}
use Rattle.avp_dict.specs.Names.{unless_three, vendor_format}
use Rattle.avp_dict.specs.Sent.{is_container}
use Rattle.avp_dict.specs.Settled.{holds, is_in_format}
use Rattle.avp_dict.specs.Vendors.{is_format}
use Rattle.avp_dict.specs.AttributeNumbers.{vendor_specific}
use Rattle.avp_packet.specs.Meanings.{Piece, Run, Subattribute, are_subattributes, begins_subattribute, extended_pair, extended_type, first_pairs, first_run, first_subattribute, joined, long_pair, attribute_pairs, meaning_after, continued, pair_meant, piece_in, piece_of, raw_pair, run, run_with, subattribute_length, subattribute_pair, subattributes, subattributes_after, subattributes_by, vendor_of, vendor_pairs, vendor_subattributes}
use Rattle.avp_packet.specs.Splitting.{Part, is_whole_attribute, parts, parts_after}
use Rattle.avp_packet.specs.VendorFormats.{known_format, usable_format}
use Rattle.avp_packet.specs.ExtendedTypes.{extended_type_1, extended_type_4, long_extended_type_1, long_extended_type_2, piece_octets, more_flag, holds_one, holds_long}
use Rattle.avp_packet.proofs.FittingPairs.{pair_fits}
use Rattle.avp_packet.proofs.OctetRanges.{AreBytes, bytes-append, bytes-drop, bytes-take}
use Rattle.avp_packet.proofs.AttributeRoom.{format_of_size}
use Rattle.avp_packet.proofs.Tests.{by_test}

-- ---- whole attributes

pub record IsGood (p : Part) : Type 0 where
  pub number : p.number < 256
  pub short : length p.value ≤ 253
  pub bytes : AreBytes p.value

abbrev pub AreGood : List Part → Type 0
AreGood ps = AllByRecursion IsGood ps

-- the octets of attributes
abbrev pub size : List Part → ℕ
size [] = 0
size (p ∷ ps) = 2 + length p.value + size ps

pub good_after : (k : ℕ) (os : List ℕ) → AreBytes os → AreGood (parts_after k os)
unfolding parts_after
good_after zero [] h = tt
good_after (suc k) [] h = tt
good_after (suc k) (o ∷ os) h = good_after k os h.1
good_after zero (t ∷ []) h = tt
good_after zero (t ∷ n ∷ os) h =
    by_test (AreGood (cond (is_whole_attribute n os) (record { number = t; value = take (n - 2) os } ∷ parts_after (n - 2) os) [])) (is_whole_attribute n os)
    (λ e. rw e (record { number = h.0; short = let few = length-take (n - 2) os in let low : n < 256 = h.1.0 in omega arith; bytes = bytes-take (n - 2) os h.1.1 }, good_after (n - 2) os h.1.1))
    (λ e. rw e tt)

pub size_after : (k : ℕ) (os : List ℕ) → size (parts_after k os) ≤ length (drop k os)
unfolding parts_after
size_after zero [] = omega arith
size_after (suc k) [] = omega arith
size_after (suc k) (o ∷ os) = size_after k os
size_after zero (t ∷ []) = omega arith
size_after zero (t ∷ n ∷ os) =
    by_test (size (cond (is_whole_attribute n os) (record { number = t; value = take (n - 2) os } ∷ parts_after (n - 2) os) []) ≤ length (t ∷ n ∷ os)) (is_whole_attribute n os)
    (λ e. let others = size_after (n - 2) os in
    let long : n - 2 ≤ length os = grind (arith, common_steps) in
    let few = length-take-le (n - 2) os long in
    let rest = length-drop (n - 2) os in
    rw e (omega arith))
    (λ e. rw e (omega arith))

-- ---- runs

-- so many full pieces and a last one, in attributes of at least so many octets
pub record IsRun (ps : List Part) (r : Run) : Type 0 where
  pub full : ℕ
  pub last : ℕ
  pub long : length r.os ≡ piece_octets * full + last
  pub short : last ≤ piece_octets
  pub room : 255 * full + 4 + last ≤ size ps
  pub bytes : AreBytes r.os

piece_good : (t number : ℕ) (p : Part) → IsGood p → IfSome (piece_of t number p) (λ piece. (length piece.os + 2 ≡ length p.value) × AreBytes piece.os)
piece_good t number p good =
    by_test (IfSome (cond (p.number == t) (piece_in number p.value) None) (λ piece. (length piece.os + 2 ≡ length p.value) × AreBytes piece.os)) (p.number == t)
    (λ e. rw e (go p.value good.bytes))
    (λ e. rw e tt)
  where
    go : (value : List ℕ) → AreBytes value → IfSome (piece_in number value) (λ piece. (length piece.os + 2 ≡ length value) × AreBytes piece.os)
    go [] h = tt
    go (n ∷ []) h = tt
    go (n ∷ f ∷ []) h = tt
    go (n ∷ f ∷ o ∷ os) h =
        by_test (IfSome (cond (n == number) (Some (record { more = nat_le more_flag f; os = o ∷ os })) None) (λ piece. (length piece.os + 2 ≡ length (n ∷ f ∷ o ∷ os)) × AreBytes piece.os)) (n == number)
        (λ e. rw e (omega arith, h.1.1))
        (λ e. rw e tt)

with_good : (p : Part) (ps : List Part) (piece : Piece) (following : Option Run) → IsGood p → length piece.os + 2 ≡ length p.value → AreBytes piece.os → IfSome following (IsRun ps) → IfSome (run_with piece ps following) (IsRun (p ∷ ps))
with_good p ps piece following good long bytes rest =
    by_test (IfSome (cond piece.more (cond (length piece.os == piece_octets) (option_map (joined piece.os) following) None) (Some (record { os = piece.os; rest = ps }))) (IsRun (p ∷ ps))) piece.more
    (λ e. rw e (by_test (IfSome (cond (length piece.os == piece_octets) (option_map (joined piece.os) following) None) (IsRun (p ∷ ps))) (length piece.os == piece_octets)
    (λ f. let same : length piece.os ≡ piece_octets = grind (arith, common_steps) in rw f (go following rest same))
    (λ f. rw f tt)))
    (λ e. rw e (record { full = 0; last = length piece.os; long = omega arith; short = let few = good.short in omega arith; room = omega arith; bytes = bytes }))
  where
    go : (o : Option Run) → IfSome o (IsRun ps) → length piece.os ≡ piece_octets → IfSome (option_map (joined piece.os) o) (IsRun (p ∷ ps))
    go None h same = tt
    go (Some r) h same =
        let all = length-append piece.os r.os in
        let k = h.full in
        let m = h.last in
        let a : length r.os ≡ piece_octets * k + m = h.long in
        let b : 255 * k + 4 + m ≤ size ps = h.room in
        record { full = suc k; last = m; long = omega arith; short = h.short; room = omega arith; bytes = bytes-append piece.os r.os bytes h.bytes }

run_good : (t number : ℕ) (ps : List Part) → AreGood ps → IfSome (run t number ps) (IsRun ps)
unfolding run
run_good t number [] good = tt
run_good t number (p ∷ ps) good = go (piece_of t number p) (piece_good t number p good.0) (run_good t number ps good.1)
  where
    go : (o : Option Piece) → IfSome o (λ piece. (length piece.os + 2 ≡ length p.value) × AreBytes piece.os) → IfSome (run t number ps) (IsRun ps) → IfSome (option_and_then (λ piece. run_with piece ps (run t number ps)) o) (IsRun (p ∷ ps))
    go None h rest = tt
    go (Some piece) h rest = with_good p ps piece (run t number ps) good.0 h.0 h.1 rest

-- a packet's attributes hold no longer run
pub run_short : (ps : List Part) (r : Run) → IsRun ps r → size ps ≤ 4076 → length r.os ≤ 4012
run_short ps r h few =
    let k = h.full in
    let m = h.last in
    let a : length r.os ≡ piece_octets * k + m = h.long in
    let b : 255 * k + 4 + m ≤ size ps = h.room in
    let d : m ≤ piece_octets = h.short in
    omega arith

-- ---- vendors

number_held : (n t : ℕ) → ((t ≡ 1) ⊎ ((t ≡ 2) ⊎ (t ≡ 4))) → n < 256 ^ t → (third : Bool) (l : ℕ) → is_held n (record { t = t; l = l; third = third }) ≡ true
number_held n t (inl e) lt third l = let small : n < 256 ^ 1 = rw e at lt in let low : n ≤ 255 = omega arith in let ok : nat_le n 255 ≡ true = grind (arith, common_steps) in rw (e, ok)
number_held n t (inr (inl e)) lt third l = let small : n < 256 ^ 2 = rw e at lt in let low : n ≤ 65535 = omega arith in let ok : nat_le n 65535 ≡ true = grind (arith, common_steps) in rw (e, ok)
number_held n t (inr (inr e)) lt third l = let small : n < 256 ^ 4 = rw e at lt in let low : n ≤ 4294967295 = omega arith in let ok : nat_le n 4294967295 ≡ true = grind (arith, common_steps) in rw (e, ok)

-- what is known of a vendor with this format
pub record IsKnownFormat (n : ℕ) (f : Format) (o : Option VendorFormat) : Type 0 where
  pub holds : n < 256 ^ f.t → holds n o ≡ true
  pub room : option_map_or vendor_room (option_and_then unless_three o) 0 ≡ 249 - f.t - f.l
  pub good : is_format f.t f.l ≡ true

known_own : (n : ℕ) (v : VendorFormat) → v.third ≡ false → is_format v.t v.l ≡ true → IsKnownFormat n (record { t = v.t; l = v.l }) (Some v)
known_own n v two good = record {
  holds = λ lt. rw two (number_held n v.t (format_of_size v.t v.l good).0 lt v.third v.l);
  room = rw two refl;
  good = good;
}

known_of : (n : ℕ) (f : Format) (o : Option VendorFormat) → option_and_then usable_format (option_and_then unless_three o) ≡ Some f → IsKnownFormat n f o
known_of n f None e = absurd (cc)
known_of n f (Some v) e =
    by_test (IsKnownFormat n f (Some v)) v.third
    (λ three. let none : None ≡ Some f = rw three at e in absurd (cc))
    (λ two.
    let some : usable_format (record { t = v.t; l = v.l }) ≡ Some f = rw two at e in
    by_test (IsKnownFormat n f (Some v)) (is_format v.t v.l)
    (λ good.
    let is : Some (record { t = v.t; l = v.l }) ≡ Some f = rw good at some in
    let same : record { t = v.t; l = v.l } ≡ f = cc in
    subst (λ (g : Format). IsKnownFormat n g (Some v)) same (known_own n v two good))
    (λ bad. let none : None ≡ Some f = rw bad at some in absurd (cc)))

-- a vendor's attribute with no more octets, and its type and length, than these
pub record IsSub (f : Format) (most : ℕ) (s : Subattribute) : Type 0 where
  pub number : s.number < 256 ^ f.t
  pub short : length s.value + (f.t + f.l) ≤ most
  pub bytes : AreBytes s.value

first_good : (f : Format) (os : List ℕ) (most : ℕ) → AreBytes os → length os ≤ most → begins_subattribute f os ≡ true → IsSub f most (first_subattribute f os)
first_good f os most bytes few b =
    let n : ℕ = subattribute_length f os in
    let h : ℕ = f.t + f.l in
    let whole = and_parts (nat_le h (length os) && nat_le h n) (nat_le n (length os)) b in
    let counts = and_parts (nat_le h (length os)) (nat_le h n) whole.0 in
    let a : n ≤ length os = le_of n (length os) whole.1 in
    let c : h ≤ n = le_of h n counts.1 in
    let d : h ≤ length os = le_of h (length os) counts.0 in
    let t : length (take f.t os) ≡ f.t = length-take-le f.t os (omega arith) in
    let below = number_lt 256 (take f.t os) (bytes-take f.t os bytes) in
    let value = length-take (n - h) (drop h os) in
    record {
      number = rw t at below;
      short = omega arith;
      bytes = bytes-take (n - h) (drop h os) (bytes-drop h os bytes);
    }
  where
    le_of : (x y : ℕ) → nat_le x y ≡ true → x ≤ y
    le_of x y e = grind (arith, common_steps)

subattributes_good : (f : Format) (most k : ℕ) (os : List ℕ) → AreBytes os → length os ≤ most → AllByRecursion (IsSub f most) (subattributes_after f k os)
unfolding subattributes_after
subattributes_good f most k [] bytes few = tt
subattributes_good f most (suc k) (o ∷ os) bytes few = subattributes_good f most k os bytes.1 (omega arith)
subattributes_good f most zero (o ∷ os) bytes few =
    by_test (AllByRecursion (IsSub f most) (cond (begins_subattribute f (o ∷ os)) (first_subattribute f (o ∷ os) ∷ subattributes_after f (subattribute_length f (o ∷ os) - 1) os) [])) (begins_subattribute f (o ∷ os))
    (λ e. rw e (first_good f (o ∷ os) most bytes few e, subattributes_good f most (subattribute_length f (o ∷ os) - 1) os bytes.1 (omega arith)))
    (λ e. rw e tt)

-- ---- pairs

-- P holds of each pair of a known id and octets that the id's attributes hold
abbrev pub HoldsOfMade : Dictionary → List ℕ → List ℕ → (Pair → Type 0) → Type 0
HoldsOfMade dictionary secret authenticator P = (id : AttrId) (os : List ℕ) → is_known id dictionary ≡ true → AreBytes os → length os ≤ max_octets id dictionary → P (pair_meant dictionary secret authenticator id os)

-- P holds of each attribute that holds others and is not looked into
abbrev pub HoldsOfKept : (Pair → Type 0) → Type 0
HoldsOfKept P = (p : Part) → IsGood p → is_container (Plain p.number) ≡ true → P (raw_pair p)

extended_held : (n : ℕ) → extended_type_1 ≤ n → n ≤ long_extended_type_2 → is_container (Plain n) ≡ true
extended_held n low high =
    let a : (n == vendor_specific) ≡ false = grind (arith, common_steps) in
    let b : nat_le extended_type_1 n ≡ true = grind (arith, common_steps) in
    let d : nat_le n long_extended_type_2 ≡ true = grind (arith, common_steps) in
    rw (a, b, d) refl

module _ (dictionary : Dictionary) (secret authenticator : List ℕ) (P : Pair → Type 0) (made : HoldsOfMade dictionary secret authenticator P) (kept : HoldsOfKept P) where
  abbrev AllHold : List Pair → Type 0
  AllHold pairs = AllByRecursion P pairs

  holds-append : (xs ys : List Pair) → AllHold xs → AllHold ys → AllHold (xs ++ ys)
  holds-append [] ys h k = k
  holds-append (x ∷ xs) ys h k = (h.0, holds-append xs ys h.1 k)

  plain_good : (p : Part) → IsGood p → P (pair_meant dictionary secret authenticator (Plain p.number) p.value)
  unfolding is_known max_octets
  plain_good p good =
      let number : nat_le p.number 255 ≡ true = let low = good.number in grind (arith, common_steps) in
      made (Plain p.number) p.value refl good.bytes (rw number good.short)

  extended_good : (p : Part) → IsGood p → extended_type_1 ≤ p.number → p.number ≤ extended_type_4 → P (extended_pair dictionary secret authenticator p)
  unfolding is_known max_octets
  extended_good p good low high = go p.value refl
    where
      held : is_container (Plain p.number) ≡ true
      held = extended_held p.number low (omega arith)

      go : (value : List ℕ) → p.value ≡ value → P (extended_pair dictionary secret authenticator (record { number = p.number; value = value }))
      go [] e = kept (record { number = p.number; value = [] }) (record { number = good.number; short = omega arith; bytes = tt }) held
      go (n ∷ []) e = kept (record { number = p.number; value = n ∷ [] }) (record { number = good.number; short = omega arith; bytes = rw e at good.bytes }) held
      go (n ∷ o ∷ os) e =
          let few = good.short in
          let same = ap length e in
          let bytes : AreBytes (n ∷ o ∷ os) = rw e at good.bytes in
          let a : nat_le extended_type_1 p.number ≡ true = grind (arith, common_steps) in
          let b : nat_le p.number long_extended_type_2 ≡ true = grind (arith, common_steps) in
          let d : nat_le p.number extended_type_4 ≡ true = grind (arith, common_steps) in
          let short : length (o ∷ os) ≤ 252 = omega arith in
          made (Extended p.number n) (o ∷ os) (rw (a, b)) bytes.1 (rw (a, d) short)

  long_good : (p : Part) (ps : List Part) → AreGood (p ∷ ps) → size (p ∷ ps) ≤ 4076 → long_extended_type_1 ≤ p.number → p.number ≤ long_extended_type_2 → P (long_pair dictionary secret authenticator p (first_run p ps))
  unfolding is_known max_octets
  long_good p ps good few low high = go (first_run p ps) (run_good p.number (extended_type p) (p ∷ ps) good)
    where
      go : (o : Option Run) → IfSome o (IsRun (p ∷ ps)) → P (long_pair dictionary secret authenticator p o)
      go None h = kept p good.0 (extended_held p.number (omega arith) high)
      go (Some r) h =
          let short : length r.os ≤ 4012 = run_short (p ∷ ps) r h few in
          let a : nat_le extended_type_1 p.number ≡ true = grind (arith, common_steps) in
          let b : nat_le p.number long_extended_type_2 ≡ true = grind (arith, common_steps) in
          let d : nat_le p.number extended_type_4 ≡ false = grind (arith, common_steps) in
          let e : nat_le long_extended_type_1 p.number ≡ true = grind (arith, common_steps) in
          made (Extended p.number (extended_type p)) r.os (rw (a, b)) h.bytes (rw (a, d, e, b) short)

  -- the pairs of a vendor's attributes
  subattribute_good : (v : ℕ) (f : Format) (s : Subattribute) → known_format v dictionary ≡ Some f → IsSub f 249 s → P (subattribute_pair dictionary secret authenticator v s)
  unfolding is_known max_octets known_format vendor_format is_in_format
  subattribute_good v f s known is =
      let x = known_of s.number f (format_of v dictionary.vendors) known in
      let few = is.short in
      made (Vendor v s.number) s.value (x.holds is.number) is.bytes (rw x.room (omega arith))

  subattributes_hold : (v : ℕ) (f : Format) (ss : List Subattribute) → known_format v dictionary ≡ Some f → AllByRecursion (IsSub f 249) ss → AllHold (map (subattribute_pair dictionary secret authenticator v) ss)
  subattributes_hold v f [] known h = tt
  subattributes_hold v f (s ∷ ss) known h = (subattribute_good v f s known h.0, subattributes_hold v f ss known h.1)

  vendor_good : (p : Part) → IsGood p → is_container (Plain p.number) ≡ true → AllHold (vendor_pairs dictionary secret authenticator p (vendor_subattributes dictionary p.value))
  unfolding vendor_subattributes
  vendor_good p good held =
      by_test (AllHold (vendor_pairs dictionary secret authenticator p (cond (nat_le 4 (length p.value)) (option_and_then (subattributes_by p.value) (known_format (vendor_of p.value) dictionary)) None))) (nat_le 4 (length p.value))
      (λ e. let long : 4 ≤ length p.value = grind (arith, common_steps) in rw e (go (known_format (vendor_of p.value) dictionary) refl long))
      (λ e. rw e (kept p good held, tt))
    where
      go : (o : Option Format) → known_format (vendor_of p.value) dictionary ≡ o → 4 ≤ length p.value → AllHold (vendor_pairs dictionary secret authenticator p (option_and_then (subattributes_by p.value) o))
      go None known long = (kept p good held, tt)
      go (Some f) known long =
          let rest = length-drop 4 p.value in
          let few = good.short in
          let short : length (drop 4 p.value) ≤ 249 = omega arith in
          by_test (AllHold (vendor_pairs dictionary secret authenticator p (subattributes_by p.value f))) (are_subattributes f (drop 4 p.value))
          (λ e. rw e (subattributes_hold (vendor_of p.value) f (subattributes f (drop 4 p.value)) known (subattributes_good f 249 0 (drop 4 p.value) (bytes-drop 4 p.value good.bytes) short)))
          (λ e. rw e (kept p good held, tt))

  first_good_pairs : (p : Part) (ps : List Part) → AreGood (p ∷ ps) → size (p ∷ ps) ≤ 4076 → AllHold (first_pairs dictionary secret authenticator p ps)
  first_good_pairs p ps good few =
      by_test (AllHold (first_pairs dictionary secret authenticator p ps)) (p.number == vendor_specific)
      (λ e. let held : is_container (Plain p.number) ≡ true = rw e refl in rw e (vendor_good p good.0 held))
      (λ e. by_test (AllHold (first_pairs dictionary secret authenticator p ps)) (holds_one p.number)
      (λ f. let low : extended_type_1 ≤ p.number = grind (arith, common_steps) in
      let high : p.number ≤ extended_type_4 = grind (arith, common_steps) in
      rw (e, f) (extended_good p good.0 low high, tt))
      (λ f. by_test (AllHold (first_pairs dictionary secret authenticator p ps)) (holds_long p.number)
      (λ g. let low : long_extended_type_1 ≤ p.number = grind (arith, common_steps) in
      let high : p.number ≤ long_extended_type_2 = grind (arith, common_steps) in
      rw (e, f, g) (long_good p ps good few low high, tt))
      (λ g. rw (e, f, g) (plain_good p good.0, tt))))

  meaning_holds : (k : ℕ) (ps : List Part) → AreGood ps → size ps ≤ 4076 → AllHold (meaning_after dictionary secret authenticator k ps)
  unfolding meaning_after
  meaning_holds k [] good few = tt
  meaning_holds (suc k) (p ∷ ps) good few = meaning_holds k ps good.1 (omega arith)
  meaning_holds zero (p ∷ ps) good few =
      holds-append (first_pairs dictionary secret authenticator p ps) (meaning_after dictionary secret authenticator (continued p ps) ps) (first_good_pairs p ps good few) (meaning_holds (continued p ps) ps good.1 (omega arith))

  -- it holds of the pairs of a packet's attributes
  pub octets_hold : (os : List ℕ) → AreBytes os → length os ≤ 4076 → All P (attribute_pairs dictionary secret authenticator (parts os))
  octets_hold os bytes short =
      let few = size_after 0 os in
      All-from_recursion P (attribute_pairs dictionary secret authenticator (parts os)) (meaning_holds 0 (parts os) (good_after 0 os bytes) (omega arith))

-- ---- pairs that fit

module _ (dictionary : Dictionary) (secret authenticator : List ℕ) where
  abbrev Fits : Pair → Type 0
  Fits p = fits p dictionary ≡ true

  raw_fits : (p : Part) → IsGood p → is_container (Plain p.number) ≡ true → Fits (raw_pair p)
  unfolding fits is_known max_octets
  raw_fits p good held =
      let number : nat_le p.number 255 ≡ true = let low = good.number in grind (arith, common_steps) in
      let short : nat_le (length p.value) 253 ≡ true = let few = good.short in grind (arith, common_steps) in
      rw (number, short)

  -- the pairs of a packet's attributes fit
  pub octets_fit : (os : List ℕ) → AreBytes os → length os ≤ 4076 → All Fits (attribute_pairs dictionary secret authenticator (parts os))
  octets_fit os bytes short = octets_hold dictionary secret authenticator Fits (pair_fits dictionary secret authenticator) raw_fits os bytes short
