-- Printed interface ids are read back.
use Rattle.std.proofs.Common.{◌≡◌, ◌∙◌, ℕ, suc, ◌+◌, ◌*◌, ◌/◌, ◌%◌, ◌<◌, ◌≤◌, true, false, ltb, leb, ◌==◌, List, [], ◌∷◌, ◌++◌, length, map, Some, option_map, refl, sym, ap, subst, arith, ne_eqb, eq-eqb, le-leb, inl, inr}
use Rattle.std.specs.List.{All, flat_map, join_by, slice_split}
use Rattle.std.specs.Char.{digit_char, digit_value}
use Rattle.std.specs.Fmt.{digit_glyph, digits as printed_digits, digits_onto}
use Rattle.std.specs.Net.Addr.{octets_of, segments_of}
use Rattle.std.specs.Net.Text.{hex}
use Rattle.std.proofs.lemmas.Bool.{cases_lt, lt-leb}
use Rattle.std.proofs.lemmas.Bool.Decides.{nat_tests}
use Rattle.std.proofs.lemmas.Fmt.{hex_one_digit, hex_two_digits}
use Rattle.std.proofs.lemmas.List.{append-nil, length-map}
use Rattle.std.proofs.lemmas.List.Elements.{All-nil, All-cons, All-head, All-tail, All-from_get_or}
use Rattle.std.proofs.lemmas.List.Splits.{slice_split_at, slice_split_none}
use Rattle.avp_dict.specs.Spellings.{each_number, in_parts, is_colon}
use Rattle.avp_dict.specs.Words.{digits, number_after}
use Rattle.avp_forms.specs.InterfaceIds.{group, group_text, interface_id_spelled, interface_id_text}
use Rattle.avp_forms.specs.Numerals.{number_within, short_number}
use Rattle.avp_forms.proofs.Segments.{AreOctets, length-segments_of, segments_back, segments_fit}

-- ---- one group

glyph_value : (d : ℕ) → d < 16 → digit_value (digit_glyph false d) ≡ d
glyph_value d h = grind (arith, nat_tests)

glyph_plain : (d : ℕ) → d < 16 → is_colon (digit_glyph false d) ≡ false
glyph_plain d h = grind (arith, nat_tests)

next : (m d : ℕ) (rest : List ℕ) → d < 16 → number_after 16 m (digit_glyph false d ∷ rest) ≡ number_after 16 (m * 16 + d) rest
next m d rest h =
    let below : ltb d 16 ≡ true = grind arith in
    rw (glyph_value d h, below)

-- a text of one to four digits, which are the number's
record IsHex (n : ℕ) (text : List ℕ) : Type 0 where
  value : digits 16 text ≡ Some n
  short : length text ≤ 4
  plain : All (λ x. is_colon x ≡ false) text

plain_more : (d : ℕ) (rest : List ℕ) → d < 16 → All (λ x. is_colon x ≡ false) rest → All (λ x. is_colon x ≡ false) (digit_glyph false d ∷ rest)
plain_more d rest h all = All-cons (λ x. is_colon x ≡ false) (digit_glyph false d) rest (glyph_plain d h) all

plain_none : All (λ x. is_colon x ≡ false) []
plain_none = All-nil (λ x. is_colon x ≡ false)

hex_1 : (a : ℕ) → a < 16 → IsHex (0 * 16 + a) (digit_glyph false a ∷ [])
hex_1 a ha = record {
  value = next 0 a [] ha;
  short = omega arith;
  plain = plain_more a [] ha plain_none;
}

hex_2 : (a b : ℕ) → a < 16 → b < 16 → IsHex ((0 * 16 + a) * 16 + b) (digit_glyph false a ∷ digit_glyph false b ∷ [])
hex_2 a b ha hb = record {
  value = next 0 a (digit_glyph false b ∷ []) ha ∙ next (0 * 16 + a) b [] hb;
  short = omega arith;
  plain = plain_more a (digit_glyph false b ∷ []) ha (plain_more b [] hb plain_none);
}

hex_3 : (a b c : ℕ) → a < 16 → b < 16 → c < 16 → IsHex (((0 * 16 + a) * 16 + b) * 16 + c) (digit_glyph false a ∷ digit_glyph false b ∷ digit_glyph false c ∷ [])
hex_3 a b c ha hb hc = record {
  value = next 0 a (digit_glyph false b ∷ digit_glyph false c ∷ []) ha ∙ next (0 * 16 + a) b (digit_glyph false c ∷ []) hb ∙ next ((0 * 16 + a) * 16 + b) c [] hc;
  short = omega arith;
  plain = plain_more a (digit_glyph false b ∷ digit_glyph false c ∷ []) ha (plain_more b (digit_glyph false c ∷ []) hb (plain_more c [] hc plain_none));
}

hex_4 : (a b c d : ℕ) → a < 16 → b < 16 → c < 16 → d < 16 → IsHex ((((0 * 16 + a) * 16 + b) * 16 + c) * 16 + d) (digit_glyph false a ∷ digit_glyph false b ∷ digit_glyph false c ∷ digit_glyph false d ∷ [])
hex_4 a b c d ha hb hc hd = record {
  value = next 0 a (digit_glyph false b ∷ digit_glyph false c ∷ digit_glyph false d ∷ []) ha ∙ next (0 * 16 + a) b (digit_glyph false c ∷ digit_glyph false d ∷ []) hb ∙ next ((0 * 16 + a) * 16 + b) c (digit_glyph false d ∷ []) hc ∙ next (((0 * 16 + a) * 16 + b) * 16 + c) d [] hd;
  short = omega arith;
  plain = plain_more a (digit_glyph false b ∷ digit_glyph false c ∷ digit_glyph false d ∷ []) ha (plain_more b (digit_glyph false c ∷ digit_glyph false d ∷ []) hb (plain_more c (digit_glyph false d ∷ []) hc (plain_more d [] hd plain_none)));
}

step : (k n : ℕ) (acc : List ℕ) → 16 ≤ n → digits_onto (suc k) 16 false n acc ≡ digits_onto k 16 false (n / 16) (digit_glyph false (n % 16) ∷ acc)
step k n acc h = rw (ne_eqb (n / 16) 0 (omega arith))

last : (k n : ℕ) (acc : List ℕ) → n < 16 → digits_onto (suc k) 16 false n acc ≡ digit_glyph false n ∷ acc
last k n acc h =
    let same : n % 16 ≡ n = omega arith in
    rw (eq-eqb (n / 16) 0 (omega arith), same)

three : (n : ℕ) → 256 ≤ n → n < 4096 → printed_digits 16 false n ≡ digit_glyph false (n / 16 / 16) ∷ digit_glyph false (n / 16 % 16) ∷ digit_glyph false (n % 16) ∷ []
unfolding printed_digits
three n low high =
    let c = digit_glyph false (n % 16) ∷ [] in
    let b = digit_glyph false (n / 16 % 16) ∷ c in
    step 63 n [] (omega arith) ∙ step 62 (n / 16) c (omega arith) ∙ last 61 (n / 16 / 16) b (omega arith)

four : (n : ℕ) → 4096 ≤ n → n < 65536 → printed_digits 16 false n ≡ digit_glyph false (n / 16 / 16 / 16) ∷ digit_glyph false (n / 16 / 16 % 16) ∷ digit_glyph false (n / 16 % 16) ∷ digit_glyph false (n % 16) ∷ []
unfolding printed_digits
four n low high =
    let d = digit_glyph false (n % 16) ∷ [] in
    let c = digit_glyph false (n / 16 % 16) ∷ d in
    let b = digit_glyph false (n / 16 / 16 % 16) ∷ c in
    step 63 n [] (omega arith) ∙ step 62 (n / 16) d (omega arith) ∙ step 61 (n / 16 / 16) c (omega arith) ∙ last 60 (n / 16 / 16 / 16) b (omega arith)

-- the text that a server prints for a group of an address
pub hex_is_group : (n : ℕ) → n < 65536 → hex n ≡ group_text n
unfolding hex
hex_is_group n h = elim (cases_lt n 16) [
  | inl one ↦
      let same : n % 16 ≡ n = omega arith in
      rw (lt-leb 0x1000 n (omega arith), lt-leb 0x100 n (omega arith), lt-leb 0x10 n one) ((λ i. digit_char (same i) ∷ []) ∙ sym (hex_one_digit false n one))
  | inr more₁ ↦ elim (cases_lt n 256) [
    | inl two ↦
        let high : n / 0x10 % 16 ≡ n / 16 = omega arith in
        rw (lt-leb 0x1000 n (omega arith), lt-leb 0x100 n two, le-leb 0x10 n more₁) ((λ i. digit_char (high i) ∷ digit_char (n % 16) ∷ []) ∙ sym (hex_two_digits false n more₁ two))
    | inr more₂ ↦ elim (cases_lt n 4096) [
      | inl low ↦
          let high : n / 0x100 % 16 ≡ n / 16 / 16 = omega arith in
          rw (lt-leb 0x1000 n low, le-leb 0x100 n more₂) ((λ i. digit_char (high i) ∷ digit_char (n / 0x10 % 16) ∷ digit_char (n % 16) ∷ []) ∙ sym (three n more₂ low))
      | inr more₃ ↦
          let high : n / 0x1000 ≡ n / 16 / 16 / 16 = omega arith in
          let next : n / 0x100 % 16 ≡ n / 16 / 16 % 16 = omega arith in
          rw (le-leb 0x1000 n more₃) ((λ i. digit_char (high i) ∷ digit_char (next i) ∷ digit_char (n / 0x10 % 16) ∷ digit_char (n % 16) ∷ []) ∙ sym (four n more₃ h))
    ]
  ]
]

-- the same text of the same number
moved : (m n : ℕ) (text shown : List ℕ) → IsHex m text → m ≡ n → shown ≡ text → IsHex n shown
moved m n text shown is e same = subst (λ t. IsHex n t) (sym same) (subst (λ k. IsHex k text) e is)

is_hex : (n : ℕ) → n < 65536 → IsHex n (group_text n)
is_hex n h = elim (cases_lt n 16) [
  | inl one ↦ moved _ n _ _ (hex_1 n one) (omega arith) (hex_one_digit false n one)
  | inr more₁ ↦ elim (cases_lt n 256) [
    | inl two ↦ moved _ n _ _ (hex_2 (n / 16) (n % 16) (omega arith) (omega arith)) (omega arith) (hex_two_digits false n more₁ two)
    | inr more₂ ↦ elim (cases_lt n 4096) [
      | inl low ↦ moved _ n _ _ (hex_3 (n / 16 / 16) (n / 16 % 16) (n % 16) (omega arith) (omega arith) (omega arith)) (omega arith) (three n more₂ low)
      | inr more₃ ↦ moved _ n _ _ (hex_4 (n / 16 / 16 / 16) (n / 16 / 16 % 16) (n / 16 % 16) (n % 16) (omega arith) (omega arith) (omega arith) (omega arith)) (omega arith) (four n more₃ h)
    ]
  ]
]

group_back : (n : ℕ) → n < 65536 → group (group_text n) ≡ Some n
unfolding number_within short_number
group_back n h =
    let is = is_hex n h in
    let short : leb (length (group_text n)) 4 ≡ true = grind (arith, is.short) in
    let low : leb n 65535 ≡ true = grind arith in
    rw (short, is.value, low)

-- ---- four groups

split_joined : (x : ℕ) (xs : List ℕ) → All (λ n. n < 65536) (x ∷ xs) → slice_split is_colon (group_text x ++ flat_map (λ y. 58 ∷ group_text y) xs) ≡ map group_text (x ∷ xs)
split_joined x [] all = rw (append-nil (group_text x)) (slice_split_none is_colon (group_text x) (is_hex x (All-head (λ n. n < 65536) x [] all)).plain)
split_joined x (y ∷ ys) all =
    slice_split_at is_colon (group_text x) 58 (group_text y ++ flat_map (λ z. 58 ∷ group_text z) ys) (is_hex x (All-head (λ n. n < 65536) x (y ∷ ys) all)).plain refl
    ∙ ap (λ (parts : List (List ℕ)). group_text x ∷ parts) (split_joined y ys (All-tail (λ n. n < 65536) x (y ∷ ys) all))

numbers_back : (xs : List ℕ) → All (λ n. n < 65536) xs → each_number group (map group_text xs) ≡ Some xs
unfolding each_number
numbers_back [] all = refl
numbers_back (x ∷ xs) all = rw (group_back x (All-head (λ n. n < 65536) x xs all), numbers_back xs (All-tail (λ n. n < 65536) x xs all))

groups_back : (x : ℕ) (xs : List ℕ) → length (x ∷ xs) ≡ 4 → All (λ n. n < 65536) (x ∷ xs) → in_parts 4 group (slice_split is_colon (group_text x ++ flat_map (λ y. 58 ∷ group_text y) xs)) ≡ Some (x ∷ xs)
groups_back x xs e all =
    let long : length (map group_text (x ∷ xs)) ≡ 4 = length-map (x ∷ xs) group_text ∙ e in
    let same : (length (map group_text (x ∷ xs)) == 4) ≡ true = grind (arith, long) in
    rw (split_joined x xs all, same) (numbers_back (x ∷ xs) all)

joined_back : (xs : List ℕ) → length xs ≡ 4 → All (λ n. n < 65536) xs → in_parts 4 group (slice_split is_colon (join_by group_text (58 ∷ []) xs)) ≡ Some xs
joined_back [] e all = absurd (omega arith)
joined_back (x ∷ xs) e all = groups_back x xs e all

pub interface_id_back : (os : List ℕ) → length os ≡ 8 → AreOctets os → interface_id_spelled (interface_id_text os) ≡ Some os
unfolding interface_id_spelled interface_id_text
interface_id_back os e h =
    let xs = segments_of os in
    let fit = segments_fit 4 os e h in
    let all : All (λ n. n < 65536) xs = All-from_get_or (λ n. n < 65536) xs 0 (λ i lt. omega (arith, fit i)) in
    ap (option_map octets_of) (joined_back xs (length-segments_of 4 os e) all) ∙ ap (λ (ys : List ℕ). Some ys) (segments_back 4 os e h)
