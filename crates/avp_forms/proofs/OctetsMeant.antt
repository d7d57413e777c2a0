-- What octets mean has the form, is within its bounds, and is sent as the same octets where they are the form's own.
use Rattle.std.proofs.Common.{◌≡◌, ◌∙◌, ℕ, zero, suc, ◌-◌, ◌^◌, ◌<◌, ◌≤◌, true, false, ◌&&◌, leb, ◌==◌, List, [], ◌∷◌, ◌++◌, drop, length, get_or, replicate, Some, refl, ap, subst, arith, inl, inr, append-nil, eq-eqb, ne_eqb, eqb-true, le-leb, leb-true, length-append}
use Rattle.std.specs.Str.{bytes_eq}
use Rattle.std.specs.Int.{to_be_bytes, w32}
use Rattle.std.specs.Int.Digits.{number_from_digits}
use Rattle.std.proofs.lemmas.Bool.{and_parts, cases_eq, cases_lt, false_from_ne_true}
use Rattle.std.proofs.lemmas.Nat.{be_bytes_4}
use Rattle.std.proofs.NetLemmas.Options.{cond_some}
use Rattle.avp_dict.specs.declared.forms.Form.{Form}
use Rattle.avp_dict.specs.declared.forms.Form.TheVariants as forms
use Rattle.avp_forms.specs.Laws.{form_of_value}
use Rattle.avp_forms.specs.Prefixes.{first_bits, masked}
use Rattle.avp_forms.specs.Values.{date_of, is_own, is_proper, max_tag, max_tagged_number, meaning, octets_of, padded, tagged_text_meant}
use Rattle.avp_forms.specs.internal.Ranges.{IsInRange}
use Rattle.avp_forms.specs.declared.values.FormValue.{FormValue}
use Rattle.avp_forms.specs.declared.values.FormValue.TheVariants.{InterfaceId, Ipv4Prefix, Ipv6Address, Ipv6Prefix, TaggedNumber}
use Rattle.avp_forms.proofs.PrefixTexts.{same_octets}
use Rattle.avp_forms.proofs.Segments.{AreOctets}

-- ---- equal octets

pub bytes_same : (xs : List ℕ) → bytes_eq xs xs ≡ true
bytes_same [] = refl
bytes_same (x ∷ xs) = rw (eq-eqb x x refl, bytes_same xs)

bytes_differ : (xs ys : List ℕ) → (length xs ≡ length ys → ⊥) → bytes_eq xs ys ≡ false
bytes_differ xs ys other = false_from_ne_true (bytes_eq xs ys) (λ e. other (ap (λ (zs : List ℕ). length zs) (same_octets xs ys e)))

-- ---- bits

first_twice : (n o : ℕ) → first_bits n (first_bits n o) ≡ first_bits n o
first_twice zero o = omega arith
first_twice (suc zero) o = omega arith
first_twice (suc (suc zero)) o = omega arith
first_twice (suc (suc (suc zero))) o = omega arith
first_twice (suc (suc (suc (suc zero)))) o = omega arith
first_twice (suc (suc (suc (suc (suc zero))))) o = omega arith
first_twice (suc (suc (suc (suc (suc (suc zero)))))) o = omega arith
first_twice (suc (suc (suc (suc (suc (suc (suc zero))))))) o = omega arith
first_twice (suc (suc (suc (suc (suc (suc (suc (suc n)))))))) o =
    let none : 8 - suc (suc (suc (suc (suc (suc (suc (suc n))))))) ≡ 0 = omega arith in
    rw none (omega arith)

masked_twice : (n : ℕ) (os : List ℕ) → masked n (masked n os) ≡ masked n os
masked_twice n [] = refl
masked_twice n (o ∷ os) = rw (first_twice n o, masked_twice (n - 8) os)

length-masked : (n : ℕ) (os : List ℕ) → length (masked n os) ≡ length os
length-masked n [] = refl
length-masked n (o ∷ os) = ap (λ (k : ℕ). suc k) (length-masked (n - 8) os)

padded_full : (os : List ℕ) → length os ≡ 16 → padded 16 os ≡ os
padded_full os e = rw e (append-nil os)

length_zeros : (n : ℕ) → length {A = ℕ} (replicate n 0) ≡ n
length_zeros zero = refl
length_zeros (suc n) = ap (λ (k : ℕ). suc k) (length_zeros n)

zeros_fit : (n : ℕ) → AreOctets (replicate n 0)
zeros_fit zero i = omega arith
zeros_fit (suc n) zero = omega arith
zeros_fit (suc n) (suc i) = zeros_fit n i

padded_fit : (n : ℕ) (os : List ℕ) → AreOctets os → AreOctets (os ++ replicate n 0)
padded_fit n [] h i = zeros_fit n i
padded_fit n (o ∷ os) h zero = h 0
padded_fit n (o ∷ os) h (suc i) = padded_fit n os (λ j. h (suc j)) i

masked_fit : (n : ℕ) (os : List ℕ) → AreOctets os → AreOctets (masked n os)
masked_fit n [] h i = omega arith
masked_fit n (o ∷ os) h zero =
    let fits : o < 256 = h 0 in
    omega arith
masked_fit n (o ∷ os) h (suc i) = masked_fit (n - 8) os (λ j. h (suc j)) i

length-padded : (os : List ℕ) → length os ≤ 16 → length (padded 16 os) ≡ 16
length-padded os h =
    let zeros = length_zeros (16 - length os) in
    length-append os (replicate (16 - length os) 0) ∙ omega arith

-- ---- one form after the other

pub record IsMeant (form : Form) (os : List ℕ) (value : FormValue) : Type 0 where
  pub of_form : form_of_value value ≡ form
  pub range : IsInRange value
  pub proper : is_proper value ≡ true
  pub own : bytes_eq (octets_of value) os ≡ is_own form os

moved : (form : Form) (os : List ℕ) (value other : FormValue) → IsMeant form os value → value ≡ other → IsMeant form os other
moved form os value other is e = subst (IsMeant form os) e is

zero_first : (r : ℕ) → (0 == r) ≡ (r == 0)
zero_first r = grind arith

ipv6_prefix_own : (r n : ℕ) (os : List ℕ) → length os ≤ 16 → bytes_eq (0 ∷ n ∷ masked n (padded 16 os)) (r ∷ n ∷ os) ≡ is_own forms.Ipv6Prefix (r ∷ n ∷ os)
unfolding is_own
ipv6_prefix_own r n os h = elim (cases_eq (length os) 16) [
  | inl full ↦
      let whole : (length (r ∷ n ∷ os) == 18) ≡ true = eq-eqb (length (r ∷ n ∷ os)) 18 (omega arith) in
      rw (padded_full os full, whole, eq-eqb n n refl, zero_first r)
  | inr short ↦
      let part : (length (r ∷ n ∷ os) == 18) ≡ false = ne_eqb (length (r ∷ n ∷ os)) 18 (omega arith) in
      rw part (bytes_differ (0 ∷ n ∷ masked n (padded 16 os)) (r ∷ n ∷ os)
      (λ e. omega (arith, length-masked n (padded 16 os), length-padded os h)))
]

ipv6_prefix_is : (r n : ℕ) (os : List ℕ) → AreOctets os → (leb n 128 && leb (length os) 16) ≡ true → IsMeant forms.Ipv6Prefix (r ∷ n ∷ os) (Ipv6Prefix (masked n (padded 16 os)) n)
unfolding is_proper octets_of
ipv6_prefix_is r n os h test =
    let parts = and_parts (leb n 128) (leb (length os) 16) test in record {
      of_form = refl;
      range = (length-masked n (padded 16 os) ∙ length-padded os (leb-true (length os) 16 parts.1), masked_fit n (padded 16 os) (padded_fit (16 - length os) os h));
      proper = rw (parts.0, masked_twice n (padded 16 os), bytes_same (masked n (padded 16 os)));
      own = ipv6_prefix_own r n os (leb-true (length os) 16 parts.1);
    }

ipv4_prefix_is : (r n : ℕ) (os : List ℕ) → AreOctets os → (leb n 32 && (length os == 4)) ≡ true → IsMeant forms.Ipv4Prefix (r ∷ n ∷ os) (Ipv4Prefix (masked n os) n)
unfolding is_proper octets_of is_own
ipv4_prefix_is r n os h test =
    let parts = and_parts (leb n 32) (length os == 4) test in record {
      of_form = refl;
      range = (length-masked n os ∙ eqb-true (length os) 4 parts.1, masked_fit n os h);
      proper = rw (parts.0, masked_twice n os, bytes_same (masked n os));
      own = rw (eq-eqb n n refl, zero_first r);
    }

ipv6_prefix_of : (os : List ℕ) (value : FormValue) → AreOctets os → meaning forms.Ipv6Prefix os ≡ Some value → IsMeant forms.Ipv6Prefix os value
unfolding meaning
ipv6_prefix_of [] value h e = absurd (cc)
ipv6_prefix_of (r ∷ []) value h e = absurd (cc)
ipv6_prefix_of (r ∷ n ∷ os) value h e =
    let some = cond_some (leb n 128 && leb (length os) 16) (Ipv6Prefix (masked n (padded 16 os)) n) value e in
    moved forms.Ipv6Prefix (r ∷ n ∷ os) _ value (ipv6_prefix_is r n os (λ i. h (suc (suc i))) some.0) some.1

ipv4_prefix_of : (os : List ℕ) (value : FormValue) → AreOctets os → meaning forms.Ipv4Prefix os ≡ Some value → IsMeant forms.Ipv4Prefix os value
unfolding meaning
ipv4_prefix_of [] value h e = absurd (cc)
ipv4_prefix_of (r ∷ []) value h e = absurd (cc)
ipv4_prefix_of (r ∷ n ∷ os) value h e =
    let some = cond_some (leb n 32 && (length os == 4)) (Ipv4Prefix (masked n os) n) value e in
    moved forms.Ipv4Prefix (r ∷ n ∷ os) _ value (ipv4_prefix_is r n os (λ i. h (suc (suc i))) some.0) some.1

four_octets : (os : List ℕ) → length os ≡ 4 → AreOctets os → to_be_bytes w32 (number_from_digits 256 os) ≡ os
four_octets (a ∷ b ∷ c ∷ d ∷ []) e h = be_bytes_4 (a ∷ b ∷ c ∷ d ∷ []) (number_from_digits 256 (a ∷ b ∷ c ∷ d ∷ [])) refl h (omega arith)
four_octets _ e h = absurd (omega arith)

date_fits : (os : List ℕ) → length os ≡ 4 → AreOctets os → number_from_digits 256 os < 2 ^ 32
date_fits (a ∷ b ∷ c ∷ d ∷ []) e h =
    let ha : a < 256 = h 0 in
    let hb : b < 256 = h 1 in
    let hc : c < 256 = h 2 in
    let hd : d < 256 = h 3 in
    omega arith
date_fits _ e h = absurd (omega arith)

date_is : (os : List ℕ) → length os ≡ 4 → AreOctets os → IsMeant forms.Date os (date_of os)
unfolding is_proper octets_of is_own
date_is os e h = record {
  of_form = refl;
  range = date_fits os e h;
  proper = refl;
  own = ap (λ (xs : List ℕ). bytes_eq xs os) (four_octets os e h) ∙ bytes_same os;
}

tagged_number_is : (tag : ℕ) (os : List ℕ) → leb tag max_tag ≡ true → length os ≡ 3 → AreOctets os → IsMeant forms.TaggedInteger (tag ∷ os) (TaggedNumber tag (number_from_digits 256 os))
unfolding is_proper octets_of is_own
tagged_number_is tag (a ∷ b ∷ c ∷ []) low e h =
    let ha : a < 256 = h 0 in
    let hb : b < 256 = h 1 in
    let hc : c < 256 = h 2 in
    let fits : (i : ℕ) → get_or (0 ∷ a ∷ b ∷ c ∷ []) i 0 < 256 = λ i. elim i as (λ j. get_or (0 ∷ a ∷ b ∷ c ∷ []) j 0 < 256) [ zero ↦ omega arith | suc j ↦ h j ] in
    let n = number_from_digits 256 (a ∷ b ∷ c ∷ []) in
    let same : to_be_bytes w32 n ≡ 0 ∷ a ∷ b ∷ c ∷ [] = be_bytes_4 (0 ∷ a ∷ b ∷ c ∷ []) n refl fits (omega arith) in
    let rest : drop 1 (to_be_bytes w32 n) ≡ a ∷ b ∷ c ∷ [] = ap (λ (xs : List ℕ). drop 1 xs) same in record {
      of_form = refl;
      range = omega arith;
      proper = rw (low, le-leb n max_tagged_number (omega arith));
      own = ap (λ (xs : List ℕ). bytes_eq (tag ∷ xs) (tag ∷ a ∷ b ∷ c ∷ [])) rest ∙ bytes_same (tag ∷ a ∷ b ∷ c ∷ []);
    }
tagged_number_is tag _ low e h = absurd (omega arith)

tagged_number_of : (os : List ℕ) (value : FormValue) → AreOctets os → meaning forms.TaggedInteger os ≡ Some value → IsMeant forms.TaggedInteger os value
unfolding meaning
tagged_number_of [] value h e = absurd (cc)
tagged_number_of (tag ∷ os) value h e =
    let some = cond_some (leb tag max_tag && (length os == 3)) (TaggedNumber tag (number_from_digits 256 os)) value e in
    let parts = and_parts (leb tag max_tag) (length os == 3) some.0 in
    moved forms.TaggedInteger (tag ∷ os) _ value (tagged_number_is tag os parts.0 (eqb-true (length os) 3 parts.1) (λ i. h (suc i))) some.1

tagged_text_is : (os : List ℕ) → AreOctets os → IsMeant forms.TaggedString os (tagged_text_meant os)
unfolding is_proper octets_of is_own
tagged_text_is [] h = record { of_form = refl; range = h; proper = refl; own = refl }
tagged_text_is (tag ∷ os) h = elim (cases_lt 31 tag) [
  | inl high ↦ rw (false_from_ne_true (leb tag 31) (λ e. omega (arith, leb-true tag 31 e))) (record {
    of_form = refl;
    range = h;
    proper = refl;
    own = rw (ne_eqb tag 0 (omega arith)) (bytes_same (tag ∷ os));
  })
  | inr low ↦ elim (cases_eq tag 0) [
    | inl none ↦ rw none (record {
      of_form = refl;
      range = λ i. h (suc i);
      proper = refl;
      own = bytes_differ os (0 ∷ os) (λ e. omega arith);
    })
    | inr some ↦ rw (le-leb tag 31 low) (record {
      of_form = refl;
      range = λ i. h (suc i);
      proper = le-leb tag 31 low;
      own = rw (ne_eqb tag 0 some) (bytes_same (tag ∷ os));
    })
  ]
]

-- ---- together

pub is_meant : (form : Form) (os : List ℕ) (value : FormValue) → AreOctets os → meaning form os ≡ Some value → IsMeant form os value
unfolding meaning is_proper octets_of is_own
is_meant forms.AsTyped os value h e = absurd (cc)
is_meant forms.Ipv6Address os value h e =
    let some = cond_some (length os == 16) (Ipv6Address os) value e in
    moved forms.Ipv6Address os (Ipv6Address os) value (record { of_form = refl; range = (eqb-true (length os) 16 some.0, h); proper = refl; own = bytes_same os }) some.1
is_meant forms.Ipv6Prefix os value h e = ipv6_prefix_of os value h e
is_meant forms.Ipv4Prefix os value h e = ipv4_prefix_of os value h e
is_meant forms.InterfaceId os value h e =
    let some = cond_some (length os == 8) (InterfaceId os) value e in
    moved forms.InterfaceId os (InterfaceId os) value (record { of_form = refl; range = (eqb-true (length os) 8 some.0, h); proper = refl; own = bytes_same os }) some.1
is_meant forms.Date os value h e =
    let some = cond_some (length os == 4) (date_of os) value e in
    moved forms.Date os (date_of os) value (date_is os (eqb-true (length os) 4 some.0) h) some.1
is_meant forms.TaggedInteger os value h e = tagged_number_of os value h e
is_meant forms.TaggedString os value h e =
    let same : tagged_text_meant os ≡ value = cc in
    moved forms.TaggedString os (tagged_text_meant os) value (tagged_text_is os h) same
