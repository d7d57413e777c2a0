-- What is written as JSON is UTF-8, and what is written for markup has no markup.
use Rattle.std.proofs.Common.{◌≡◌, ◌∙◌, ℕ, zero, suc, ◌/◌, ◌%◌, ◌<◌, ◌≤◌, Bool, true, false, not, ◌==◌, ◌&&◌, ◌||◌, if◌then◌else◌, List, [], ◌∷◌, ◌++◌, length, get_or, codes, drop, slice_index, nat_lt, Result, Ok, Err, OnOk, IsUtf8, refl, sym, ap, subst, arith, append-nil, inl, inr}
use Rattle.std.specs.declared.alloc.AllocError.{AllocError}
use Rattle.std.specs.Char.{IsScalar, encode_utf8}
use Rattle.std.specs.List.{flat_map, list_all}
use Rattle.std.specs.Str.{IsAscii, chars}
use Rattle.std.proofs.lemmas.Bool.{and_parts, cases_lt, ltb-true}
use Rattle.std.proofs.lemmas.Bool.Decides.{nat_tests}
use Rattle.std.proofs.lemmas.List.{drop_at}
use Rattle.std.proofs.lemmas.List.Folds.{list_all-append}
use Rattle.std.proofs.lemmas.Str.{IsAscii-append, encode_ascii, inside_one, scalars-chars}
use Rattle.std.proofs.lemmas.Str.Ascii.{IsAscii-cons, IsAscii-nil}
use Rattle.json.specs.Print.{quoted}
use Rattle.hex.specs.Hex.{encode_with, lower_digits}
use Rattle.hex.proofs.HexLemmas.{IsAscii-encode_with}
use Rattle.json.proofs.Printed.Utf8.{IsUtf8-quoted}
use Rattle.radpolicy_common.specs.declared.json_strings.Escaping.{Escaping}
use Rattle.radpolicy_common.specs.declared.json_strings.Escaping.TheVariants.{ForMarkup, Plain}
use Rattle.radpolicy_common.specs.JsonStrings.{char_text, is_late_control, is_no_markup, is_no_separator, json_octets, json_string, markup_text, short_escape}
use Rattle.radpolicy_common.proofs.TextsOf.{IsTextOf, text-ascii, text-char, text-flat_map}

-- ---- a text

-- the test of what is written
abbrev pub passing : Escaping → ℕ → Bool
passing Plain c = true
passing ForMarkup c = is_no_separator c

below_passes : (escaping : Escaping) (c : ℕ) → c < 128 → passing escaping c ≡ true
below_passes Plain c small = refl
below_passes ForMarkup c small = grind (arith, nat_tests)

ascii_passes : (escaping : Escaping) (xs : List ℕ) → IsAscii xs → list_all (passing escaping) xs ≡ true
ascii_passes escaping [] ascii = refl
ascii_passes escaping (x ∷ xs) ascii =
    rw (below_passes escaping x (ascii 0), ascii_passes escaping xs (λ i. ascii (suc i)))

ascii_is_text : (escaping : Escaping) (xs : List ℕ) → IsAscii xs → IsTextOf (passing escaping) xs
ascii_is_text escaping xs ascii = text-ascii (passing escaping) xs ascii (ascii_passes escaping xs ascii)

are_ascii : (xs : List ℕ) → list_all (λ o. nat_lt o 128) xs ≡ true → IsAscii xs
are_ascii [] small = IsAscii-nil
are_ascii (x ∷ xs) small =
    let parts = and_parts (nat_lt x 128) (list_all (λ o. nat_lt o 128) xs) small in
    IsAscii-cons x xs (ltb-true x 128 parts.0) (are_ascii xs parts.1)

literal : (escaping : Escaping) (xs : List ℕ) → list_all (λ o. nat_lt o 128) xs ≡ true → IsTextOf (passing escaping) xs
literal escaping xs small = ascii_is_text escaping xs (are_ascii xs small)

-- by the tests for < > & and the separators
by_tests : (a b c d e : Bool) (o : ℕ) → IsScalar o → is_no_separator o ≡ not (d || e)
    → IsTextOf (passing ForMarkup) (if a then codes "\\u003c" else if b then codes "\\u003e" else if c then codes "\\u0026" else if d then codes "\\u2028" else if e then codes "\\u2029" else encode_utf8 o)
by_tests true b c d e o scalar test = literal ForMarkup (codes "\\u003c") refl
by_tests false true c d e o scalar test = literal ForMarkup (codes "\\u003e") refl
by_tests false false true d e o scalar test = literal ForMarkup (codes "\\u0026") refl
by_tests false false false true e o scalar test = literal ForMarkup (codes "\\u2028") refl
by_tests false false false false true o scalar test = literal ForMarkup (codes "\\u2029") refl
by_tests false false false false false o scalar test = text-char (passing ForMarkup) o scalar test

short_is_ascii : (c : ℕ) → IsAscii (short_escape c)
short_is_ascii c =
    IsAscii-append (codes "\\u00") (encode_with lower_digits (c ∷ [])) (are_ascii (codes "\\u00") refl) (IsAscii-encode_with lower_digits (c ∷ []) (are_ascii lower_digits refl))

short_is_text : (escaping : Escaping) (c : ℕ) → IsTextOf (passing escaping) (short_escape c)
short_is_text escaping c = ascii_is_text escaping (short_escape c) (short_is_ascii c)

char_is_text : (escaping : Escaping) (c : ℕ) → IsScalar c → IsTextOf (passing escaping) (char_text escaping c)
char_is_text Plain c scalar =
    elim (is_late_control c) as (λ b. IsTextOf (passing Plain) (if b then short_escape c else encode_utf8 c)) [
      | true ↦ short_is_text Plain c
      | false ↦ text-char (passing Plain) c scalar refl
    ]
char_is_text ForMarkup c scalar =
    elim (is_late_control c) as (λ b. IsTextOf (passing ForMarkup) (if b then short_escape c else markup_text c)) [
      | true ↦ short_is_text ForMarkup c
      | false ↦ by_tests (c == 60) (c == 62) (c == 38) (c == 0x2028) (c == 0x2029) c scalar refl
    ]

pub string_is_text : (escaping : Escaping) (text : List ℕ) → IsUtf8 text → IsTextOf (passing escaping) (json_string escaping text)
unfolding json_string
string_is_text escaping text utf8 =
    text-flat_map (passing escaping) (char_text escaping) (char_is_text escaping) (chars (quoted text)) (scalars-chars (quoted text) (IsUtf8-quoted text utf8))

pub octets_are_text : (escaping : Escaping) (os : List ℕ) → IsTextOf (passing escaping) (json_octets os)
unfolding json_octets
octets_are_text escaping os =
    let digits = IsAscii-encode_with lower_digits os (are_ascii lower_digits refl) in
    let begun = IsAscii-append (codes "{\"octets\":\"") (encode_with lower_digits os) (are_ascii (codes "{\"octets\":\"") refl) digits in
    ascii_is_text escaping (json_octets os) (IsAscii-append (codes "{\"octets\":\"" ++ encode_with lower_digits os) (codes "\"}") begun (are_ascii (codes "\"}") refl))

-- ---- no markup

-- what is joined of two that have none has none
both : (xs ys : List ℕ) → list_all is_no_markup xs ≡ true → list_all is_no_markup ys ≡ true → list_all is_no_markup (xs ++ ys) ≡ true
both xs ys a b = rw (list_all-append, a, b)

above_has_none : (o : ℕ) → 128 ≤ o → is_no_markup o ≡ true
above_has_none o high = grind (arith, nat_tests)

high_has_none : (xs : List ℕ) → ((k : ℕ) → k < length xs → 128 ≤ get_or xs k 0) → list_all is_no_markup xs ≡ true
high_has_none [] high = refl
high_has_none (x ∷ xs) high =
    rw (above_has_none x (high 0 (omega arith)), high_has_none xs (λ k below. high (suc k) (omega arith)))

char_has_none : (c : ℕ) → is_no_markup c ≡ true → list_all is_no_markup (encode_utf8 c) ≡ true
char_has_none c passes = elim (cases_lt c 128) [
  | inl small ↦ rw (encode_ascii c small, passes)
  | inr big ↦ high_has_none (encode_utf8 c) (λ k below. elim (cases_lt (get_or (encode_utf8 c) k 0) 128) [
    | inl low ↦ absurd (omega (arith, inside_one c [] (encode_utf8 c) k (sym (append-nil (encode_utf8 c))) below low))
    | inr high ↦ high
  ])
]

none_by_tests : (a b c d e : Bool) (o : ℕ) → is_no_markup o ≡ not (a || b || c)
    → list_all is_no_markup (if a then codes "\\u003c" else if b then codes "\\u003e" else if c then codes "\\u0026" else if d then codes "\\u2028" else if e then codes "\\u2029" else encode_utf8 o) ≡ true
none_by_tests true b c d e o test = refl
none_by_tests false true c d e o test = refl
none_by_tests false false true d e o test = refl
none_by_tests false false false true e o test = refl
none_by_tests false false false false true o test = refl
none_by_tests false false false false false o test = char_has_none o test

parts : (a b : Bool) → (a && b) ≡ true → (a ≡ true) × (b ≡ true)
parts true b h = (refl, h)
parts false b h = cc

-- a place of a list that has none
place_has_none : (ds : List ℕ) → list_all is_no_markup ds ≡ true → (k : ℕ) → is_no_markup (slice_index ds k) ≡ true
place_has_none [] h k = refl
place_has_none (d ∷ ds) h zero = (parts _ _ h).0
place_has_none (d ∷ ds) h (suc k) = place_has_none ds (parts _ _ h).1 k

digits_have_none : (os : List ℕ) → list_all is_no_markup (encode_with lower_digits os) ≡ true
unfolding encode_with
digits_have_none [] = refl
digits_have_none (o ∷ os) =
    rw (place_has_none lower_digits refl (o / 16), place_has_none lower_digits refl (o % 16), digits_have_none os)

short_has_none : (c : ℕ) → list_all is_no_markup (short_escape c) ≡ true
short_has_none c = both (codes "\\u00") (encode_with lower_digits (c ∷ [])) refl (digits_have_none (c ∷ []))

escaped_has_none : (cs : List ℕ) → list_all is_no_markup (flat_map (char_text ForMarkup) cs) ≡ true
escaped_has_none [] = refl
escaped_has_none (c ∷ cs) =
    let first = elim (is_late_control c) as (λ b. list_all is_no_markup (if b then short_escape c else markup_text c) ≡ true) [
      | true ↦ short_has_none c
      | false ↦ none_by_tests (c == 60) (c == 62) (c == 38) (c == 0x2028) (c == 0x2029) c refl
    ] in
    both (char_text ForMarkup c) (flat_map (char_text ForMarkup) cs) first (escaped_has_none cs)

pub string_has_none : (escaping : Escaping) (text : List ℕ) → escaping ≡ ForMarkup → list_all is_no_markup (json_string escaping text) ≡ true
unfolding json_string
string_has_none Plain text e = cc
string_has_none ForMarkup text e = escaped_has_none (chars (quoted text))

pub octets_have_none : (os : List ℕ) → list_all is_no_markup (json_octets os) ≡ true
unfolding json_octets
octets_have_none os =
    both (codes "{\"octets\":\"" ++ encode_with lower_digits os) (codes "\"}") (both (codes "{\"octets\":\"") (encode_with lower_digits os) refl (digits_have_none os)) refl

-- ---- what was added

-- what was added is what follows
following : (old new added : List ℕ) → new ≡ old ++ added → drop (length old) new ≡ added
following old new added same = ap (drop (length old)) same ∙ drop_at old added (length old) refl

pub added_has_none : (r : Result (Unit {0}) AllocError) (old new added : List ℕ) → list_all is_no_markup added ≡ true → OnOk r (new ≡ old ++ added) → OnOk r (list_all is_no_markup (drop (length old) new) ≡ true)
added_has_none (Ok done) old new added h e = rw (following old new added e) h
added_has_none (Err error) old new added h e = tt

pub added_is_utf8 : (escaping : Escaping) (r : Result (Unit {0}) AllocError) (old new added : List ℕ) → IsTextOf (passing escaping) added → OnOk r (new ≡ old ++ added) → OnOk r (IsUtf8 (drop (length old) new))
added_is_utf8 escaping (Ok done) old new added text e = subst IsUtf8 (sym (following old new added e)) text.utf8
added_is_utf8 escaping (Err error) old new added text e = tt

pub added_has_no_separator : (escaping : Escaping) (r : Result (Unit {0}) AllocError) (old new added : List ℕ) → escaping ≡ ForMarkup → IsTextOf (passing escaping) added → OnOk r (new ≡ old ++ added)
    → OnOk r (list_all is_no_separator (chars (drop (length old) new)) ≡ true)
added_has_no_separator Plain r old new added e text same = cc
added_has_no_separator ForMarkup (Ok done) old new added e text same = rw (following old new added same) text.passes
added_has_no_separator ForMarkup (Err error) old new added e text same = tt
