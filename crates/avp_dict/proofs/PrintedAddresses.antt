-- Printed octets and addresses are read back.
use Rattle.std.proofs.Common.{◌≡◌, ◌∙◌, ℕ, ◌+◌, ◌*◌, ◌/◌, ◌%◌, ◌<◌, Bool, true, false, not, ◌&&◌, ◌==◌, ltb, leb, List, [], ◌∷◌, ◌++◌, length, map, get_or, slice_index, Option, Some, refl, ap, arith, decimal}
use Rattle.std.specs.List.{All, flat_map, slice_split}
use Rattle.std.specs.Char.{digit_value}
use Rattle.std.specs.Result.{result_ok}
use Rattle.std.proofs.Math.Bool.{and-false}
use Rattle.std.proofs.lemmas.Bool.{agree_below_at, and_parts, not-true}
use Rattle.std.proofs.lemmas.Fmt.{length-decimal-le}
use Rattle.std.proofs.lemmas.List.{append-nil, length-map}
use Rattle.std.proofs.lemmas.List.Elements.{All-nil, All-cons, All-head, All-tail, All-from_get_or}
use Rattle.std.proofs.lemmas.List.Splits.{slice_split_at, slice_split_none}
use Rattle.hex.specs.Hex.{encode_with, lower_digits}
use Rattle.hex.proofs.HexLemmas.{decode_of-encode_lower}
use Rattle.avp_dict.proofs.Numerals.{decimal_numeral, digits_numeral, numeral_without}
use Rattle.avp_dict.specs.Letters.{is_dot}
use Rattle.avp_dict.specs.Printing.{address_text, digit_pair_text, ether_text, hexadecimal}
use Rattle.avp_dict.specs.Spellings.{address_spelled, bytes_spelled, decimal_octet, digit_pair, each_number, ether_spelled, in_parts, is_colon, octets_spelled}
use Rattle.avp_dict.specs.Words.{digits}

abbrev pub IsOctet : ℕ → Type 0
IsOctet o = o < 256

pub all_octets : (os : List ℕ) → ((i : ℕ) → get_or os i 0 < 256) → All IsOctet os
all_octets os h = All-from_get_or IsOctet os 0 (λ i lt. h i)

-- ---- 0x and digits

pub octets_back : (os : List ℕ) → ((i : ℕ) → get_or os i 0 < 256) → octets_spelled (hexadecimal os) ≡ Some os
unfolding octets_spelled
octets_back os h = ap result_ok (decode_of-encode_lower os h)

pub bytes_back : (takes_text : Bool) (os : List ℕ) → ((i : ℕ) → get_or os i 0 < 256) → bytes_spelled takes_text (hexadecimal os) ≡ Some os
unfolding bytes_spelled
bytes_back takes_text os h = rw (and-false takes_text) (octets_back os h)

-- ---- parts with an octet between

-- the parts have no separator, and are read as their numbers
pub record IsPrinted (test : ℕ → Bool) (text : ℕ → List ℕ) (number : List ℕ → Option ℕ) : Type 0 where
  pub plain : (o : ℕ) → o < 256 → All (λ x. test x ≡ false) (text o)
  pub back : (o : ℕ) → o < 256 → number (text o) ≡ Some o

module _ (test : ℕ → Bool) (text : ℕ → List ℕ) (number : List ℕ → Option ℕ) (are : IsPrinted test text number) (c : ℕ) (cuts : test c ≡ true) where
  split_joined : (x : ℕ) (xs : List ℕ) → All IsOctet (x ∷ xs) → slice_split test (text x ++ flat_map (λ y. c ∷ text y) xs) ≡ map text (x ∷ xs)
  split_joined x [] all = rw (append-nil (text x)) (slice_split_none test (text x) (are.plain x (All-head IsOctet x [] all)))
  split_joined x (y ∷ ys) all =
      slice_split_at test (text x) c (text y ++ flat_map (λ z. c ∷ text z) ys) (are.plain x (All-head IsOctet x (y ∷ ys) all)) cuts
      ∙ ap (λ (parts : List (List ℕ)). text x ∷ parts) (split_joined y ys (All-tail IsOctet x (y ∷ ys) all))

  numbers_back : (xs : List ℕ) → All IsOctet xs → each_number number (map text xs) ≡ Some xs
  unfolding each_number
  numbers_back [] all = refl
  numbers_back (x ∷ xs) all = rw (are.back x (All-head IsOctet x xs all), numbers_back xs (All-tail IsOctet x xs all))

  parts_back : (n : ℕ) (xs : List ℕ) → length xs ≡ n → All IsOctet xs → in_parts n number (map text xs) ≡ Some xs
  parts_back n xs e all =
      let long : length (map text xs) ≡ n = length-map xs text ∙ e in
      let same : (length (map text xs) == n) ≡ true = grind (arith, long) in
      rw same (numbers_back xs all)

  pub joined_back : (n : ℕ) (x : ℕ) (xs : List ℕ) → length (x ∷ xs) ≡ n → All IsOctet (x ∷ xs) → in_parts n number (slice_split test (text x ++ flat_map (λ y. c ∷ text y) xs)) ≡ Some (x ∷ xs)
  joined_back n x xs e all = rw (split_joined x xs all) (parts_back n (x ∷ xs) e all)

-- ---- decimal octets

octet_back : (o : ℕ) → o < 256 → decimal_octet (decimal o) ≡ Some o
unfolding decimal_octet
octet_back o h =
    let short : leb (length (decimal o)) 3 ≡ true = grind (arith, length-decimal-le 3 o (omega arith) (omega arith) (omega arith)) in
    let numeral = decimal_numeral o (omega arith) in
    let low : leb o 255 ≡ true = grind arith in
    rw (short, digits_numeral o (decimal o) numeral, low)

pub decimal_printed : IsPrinted is_dot decimal decimal_octet
decimal_printed = record {
  plain = λ o h. numeral_without 46 o (decimal o) (omega arith) (decimal_numeral o (omega arith));
  back = octet_back;
}

pub address_back : (os : List ℕ) → length os ≡ 4 → ((i : ℕ) → get_or os i 0 < 256) → address_spelled (address_text os) ≡ Some os
address_back [] e h = absurd (omega arith)
address_back (o ∷ os) e h = joined_back is_dot decimal decimal_octet decimal_printed 46 refl 4 o os e (all_octets (o ∷ os) h)

-- ---- pairs of digits

-- a glyph gives its digit back, and is no colon
abbrev is_glyph : ℕ → Bool
is_glyph d = (digit_value (slice_index lower_digits d) == d) && not (slice_index lower_digits d == 58)

record IsGlyph (d o : ℕ) : Type 0 where
  value : digit_value o ≡ d
  plain : (o == 58) ≡ false

glyph_by : (d o : ℕ) → ((digit_value o == d) && not (o == 58)) ≡ true → IsGlyph d o
glyph_by d o h = let parts = and_parts (digit_value o == d) (not (o == 58)) h in record { value = grind (arith, parts.0); plain = not-true (o == 58) parts.1 }

glyph : (d : ℕ) → d < 16 → IsGlyph d (slice_index lower_digits d)
glyph d h = glyph_by d (slice_index lower_digits d) (agree_below_at is_glyph (λ _. true) 16 d refl h)

pair_text : (o : ℕ) → digit_pair_text o ≡ slice_index lower_digits (o / 16) ∷ slice_index lower_digits (o % 16) ∷ []
unfolding encode_with
pair_text o = refl

pair_number : (a b : ℕ) → a < 16 → b < 16 → (x y : ℕ) → IsGlyph a x → IsGlyph b y → digits 16 (x ∷ y ∷ []) ≡ Some (a * 16 + b)
pair_number a b ha hb x y p q =
    let la : ltb a 16 ≡ true = grind arith in
    let lb : ltb b 16 ≡ true = grind arith in
    rw (p.value, q.value, la, lb) (ap (λ (n : ℕ). Some n) (omega arith))

pair_back : (o : ℕ) → o < 256 → digit_pair (digit_pair_text o) ≡ Some o
unfolding digit_pair
pair_back o h =
    rw (pair_text o) (pair_number (o / 16) (o % 16) (omega arith) (omega arith) _ _ (glyph (o / 16) (omega arith)) (glyph (o % 16) (omega arith)) ∙ ap (λ (n : ℕ). Some n) (omega arith))

pair_plain : (o : ℕ) → o < 256 → All (λ x. is_colon x ≡ false) (digit_pair_text o)
pair_plain o h =
    let P : ℕ → Type 0 = λ x. is_colon x ≡ false in
    let high = slice_index lower_digits (o / 16) in
    let low = slice_index lower_digits (o % 16) in
    rw (pair_text o) (All-cons P high (low ∷ []) (glyph (o / 16) (omega arith)).plain (All-cons P low [] (glyph (o % 16) (omega arith)).plain (All-nil P)))

pub pair_printed : IsPrinted is_colon digit_pair_text digit_pair
pair_printed = record { plain = pair_plain; back = pair_back }

pub ether_back : (os : List ℕ) → length os ≡ 6 → ((i : ℕ) → get_or os i 0 < 256) → ether_spelled (ether_text os) ≡ Some os
ether_back [] e h = absurd (omega arith)
ether_back (o ∷ os) e h = joined_back is_colon digit_pair_text digit_pair pair_printed 58 refl 6 o os e (all_octets (o ∷ os) h)
