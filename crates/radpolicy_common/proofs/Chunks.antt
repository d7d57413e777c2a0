-- What is shown of a chunk of octets: of the text at the front, and of the octets after it that are no UTF-8.
use Rattle.std.proofs.Common.{◌≡◌, ◌∙◌, ℕ, zero, suc, ◌+◌, ◌<◌, ◌≤◌, true, false, if◌then◌else◌, List, [], ◌∷◌, ◌++◌, length, take, drop, slice_index, nat_lt, Option, Some, None, IsUtf8, sym, ap, subst, refl, arith, append_assoc, length-append}
use Rattle.std.proofs.lemmas.Bool.{and_parts, ltb-true, ne_eqb}
use Rattle.std.proofs.lemmas.Bool.Decides.{nat_tests}
use Rattle.std.proofs.lemmas.List.{drop_at, get_or_append_left, take_at}
use Rattle.std.proofs.lemmas.Str.{IsCharBoundary-start, IsUtf8-append, IsUtf8-encode, encodes-chars, is_utf8-from_IsUtf8, len_utf8_bounds, length-encode, scalars-chars}
use Rattle.std.specs.Char.{encode_utf8}
use Rattle.std.specs.Int.{is_in_range}
use Rattle.std.specs.List.{flat_map}
use Rattle.std.specs.Option.{unwrap_or}
use Rattle.std.specs.Str.{StartsWithNoChar, all_scalars, chars, encode_utf8_all, is_utf8}
use Rattle.std.specs.Str.Lossy.{error_len_after_one, error_len_after_two, error_len_of_some, second_byte_max, second_byte_min, utf8_error_len, utf8_invalid_len, utf8_valid_len, valid_len_up_to}
use Rattle.radpolicy_common.specs.declared.terminals.LineBreaks.{LineBreaks}
use Rattle.radpolicy_common.specs.VisibleText.{IsVisibleText, char_shown, octal_text, text_shown}
use Rattle.radpolicy_common.specs.VisibleText.IsVisibleText.{character, octet}

-- ---- texts

text_before : (breaks : LineBreaks) (cs octets text : List ℕ) → all_scalars cs ≡ true → IsVisibleText breaks octets text → IsVisibleText breaks (encode_utf8_all cs ++ octets) (flat_map (char_shown breaks) cs ++ text)
text_before breaks [] octets text scalars later = later
text_before breaks (c ∷ cs) octets text scalars later =
    let parts = and_parts _ _ scalars in
    rw (append_assoc, append_assoc) (character c _ _ parts.0 (text_before breaks cs octets text parts.1 later))

valid_before : (breaks : LineBreaks) (valid octets text : List ℕ) → IsUtf8 valid → IsVisibleText breaks octets text → IsVisibleText breaks (valid ++ octets) (text_shown breaks valid ++ text)
valid_before breaks valid octets text utf8 later =
    subst (λ (xs : List ℕ). IsVisibleText breaks (xs ++ octets) (text_shown breaks valid ++ text)) (encodes-chars valid utf8) (text_before breaks (chars valid) octets text (scalars-chars valid utf8) later)

-- ---- octets with which no character begins

-- with no octet of the first list, as it is followed by the others, a character begins
abbrev BeginNone : List ℕ → List ℕ → Type 0
BeginNone [] after = Unit {0}
BeginNone (o ∷ os) after = StartsWithNoChar (o ∷ (os ++ after)) × BeginNone os after

invalid_before : (breaks : LineBreaks) (os after text : List ℕ) → BeginNone os after → IsVisibleText breaks after text → IsVisibleText breaks (os ++ after) (octal_text os ++ text)
invalid_before breaks [] after text none later = later
invalid_before breaks (o ∷ os) after text none later =
    octet o (os ++ after) (octal_text os ++ text) none.0 (invalid_before breaks os after text none.1 later)

-- an octet that can only go on a character
abbrev GoesOn : ℕ → Type 0
GoesOn o = (128 ≤ o) × (o < 192)

one_begins_none : (o : ℕ) (os : List ℕ) → GoesOn o → StartsWithNoChar (o ∷ os)
one_begins_none o os goes_on = λ c rest scalar same. (
    let some : 0 < length (encode_utf8 c) = omega (arith, length-encode c, (len_utf8_bounds c).0) in
    let first : o ≡ slice_index (encode_utf8 c) 0 = ap (λ xs. slice_index xs 0) same ∙ get_or_append_left (encode_utf8 c) rest 0 0 some in
    let lead = (IsCharBoundary-start (encode_utf8 c) (IsUtf8-encode c scalar)).1 some in
    omega (arith, lead (omega arith)))

begin_none : (os after : List ℕ) → ((k : ℕ) → k < length os → GoesOn (slice_index os k)) → BeginNone os after
begin_none [] after each = tt
begin_none (o ∷ os) after each =
    (one_begins_none o (os ++ after) (each 0 (omega arith)), begin_none os after (λ k below. each (suc k) (omega arith)))

-- ---- how long the text at the front is

at_most_valid : (bs : List ℕ) (m k : ℕ) → k ≤ m → IsUtf8 (take k bs) → k ≤ valid_len_up_to bs m
at_most_valid bs zero k within utf8 = within
at_most_valid bs (suc m) k within utf8 =
    elim (is_utf8 (take (suc m) bs)) as (λ b. is_utf8 (take (suc m) bs) ≡ b → k ≤ (if b then suc m else valid_len_up_to bs m)) [
      | true ↦ λ e. within
      | false ↦ λ e. (
          let other : k ≡ suc m → ⊥ = λ same. absurd (cc (e, is_utf8-from_IsUtf8 (take (suc m) bs) (subst (λ (n : ℕ). IsUtf8 (take n bs)) same utf8))) in
          at_most_valid bs m k (omega arith) utf8)
    ] refl

front_at_most_valid : (octets front rest : List ℕ) → octets ≡ front ++ rest → IsUtf8 front → length front ≤ utf8_valid_len octets
unfolding utf8_valid_len
front_at_most_valid octets front rest same utf8 =
    let all : length octets ≡ length front + length rest = ap length same ∙ length-append front rest in
    let taken : take (length front) octets ≡ front = ap (take (length front)) same ∙ take_at front rest (length front) refl in
    at_most_valid octets (length octets) (length front) (omega arith) (subst IsUtf8 (sym taken) utf8)

after_begins_none : (octets valid rest : List ℕ) → octets ≡ valid ++ rest → IsUtf8 valid → length valid ≡ utf8_valid_len octets → StartsWithNoChar rest
after_begins_none octets valid rest same utf8 longest = λ c more scalar begun. (
    let longer = IsUtf8-append valid (encode_utf8 c) utf8 (IsUtf8-encode c scalar) in
    let split : octets ≡ (valid ++ encode_utf8 c) ++ more = same ∙ ap (λ (xs : List ℕ). valid ++ xs) begun ∙ sym (append_assoc valid (encode_utf8 c) more) in
    let bound = front_at_most_valid octets (valid ++ encode_utf8 c) more split longer in
    omega (arith, length-append valid (encode_utf8 c), length-encode c, (len_utf8_bounds c).0))

-- ---- how many octets after it are no UTF-8

abbrev Below : List ℕ → Option ℕ → Type 0
Below bs len = (k : ℕ) → 0 < k → k < unwrap_or len (length bs) → GoesOn (slice_index bs k)

up_to_one : (bs : List ℕ) (k : ℕ) → 0 < k → k < 2 → GoesOn (slice_index bs 1) → GoesOn (slice_index bs k)
up_to_one bs zero some below first = absurd (omega arith)
up_to_one bs (suc zero) some below first = first
up_to_one bs (suc (suc k)) some below first = absurd (omega arith)

up_to_two : (bs : List ℕ) (k : ℕ) → 0 < k → k < 3 → GoesOn (slice_index bs 1) → GoesOn (slice_index bs 2) → GoesOn (slice_index bs k)
up_to_two bs zero some below first second = absurd (omega arith)
up_to_two bs (suc zero) some below first second = first
up_to_two bs (suc (suc zero)) some below first second = second
up_to_two bs (suc (suc (suc k))) some below first second = absurd (omega arith)

in_range_goes_on : (low high o : ℕ) → 128 ≤ low → high < 192 → is_in_range low high o ≡ true → GoesOn o
in_range_goes_on low high o l h passes = grind (arith, nat_tests)

second_low : (x : ℕ) → 128 ≤ second_byte_min x
second_low x = grind (arith, nat_tests)

second_high : (x : ℕ) → second_byte_max x < 192
second_high x = grind (arith, nat_tests)

after_two : (bs : List ℕ) → GoesOn (slice_index bs 1) → Below bs (error_len_after_two bs)
after_two bs first =
    let third = is_in_range 0x80 0xBF (slice_index bs 2) in
    elim (nat_lt (length bs) 3) as (λ b. nat_lt (length bs) 3 ≡ b → Below bs (if b then None else (if third then (if nat_lt (length bs) 4 then None else Some 3) else Some 2))) [
      | true ↦ λ e k some below. (let few = ltb-true (length bs) 3 e in up_to_one bs k some (omega arith) first)
      | false ↦ λ long. elim third as (λ b. third ≡ b → Below bs (if b then (if nat_lt (length bs) 4 then None else Some 3) else Some 2)) [
        | true ↦ λ passes. (
            let second = in_range_goes_on 0x80 0xBF (slice_index bs 2) (omega arith) (omega arith) passes in
            elim (nat_lt (length bs) 4) as (λ b. nat_lt (length bs) 4 ≡ b → Below bs (if b then None else Some 3)) [
              | true ↦ λ e k some below. (let few = ltb-true (length bs) 4 e in up_to_two bs k some (omega arith) first second)
              | false ↦ λ e k some below. up_to_two bs k some below first second
            ] refl)
        | false ↦ λ fails k some below. up_to_one bs k some below first
      ] refl
    ] refl

after_one : (bs : List ℕ) → Below bs (error_len_after_one bs)
after_one bs =
    let x = slice_index bs 0 in
    let second = is_in_range (second_byte_min x) (second_byte_max x) (slice_index bs 1) in
    elim (nat_lt (length bs) 2) as (λ b. nat_lt (length bs) 2 ≡ b → Below bs (if b then None else (if second then error_len_after_two bs else Some 1))) [
      | true ↦ λ e k some below. (let few = ltb-true (length bs) 2 e in absurd (omega arith))
      | false ↦ λ long. elim second as (λ b. second ≡ b → Below bs (if b then error_len_after_two bs else Some 1)) [
        | true ↦ λ passes. after_two bs (in_range_goes_on (second_byte_min x) (second_byte_max x) (slice_index bs 1) (second_low x) (second_high x) passes)
        | false ↦ λ fails k some below. absurd (omega arith)
      ] refl
    ] refl

of_some : (bs : List ℕ) → Below bs (error_len_of_some bs)
of_some bs =
    elim (is_in_range 0xC2 0xF4 (slice_index bs 0)) as (λ b. Below bs (if b then error_len_after_one bs else Some 1)) [
      | true ↦ after_one bs
      | false ↦ λ k some below. absurd (omega arith)
    ]

invalid_goes_on : (bs : List ℕ) → 0 < length bs → Below bs (utf8_error_len bs)
unfolding utf8_error_len
invalid_goes_on bs some = rw (ne_eqb (length bs) 0 (λ none. omega arith)) (of_some bs)

-- ---- chunks

invalid_begins_none : (octets valid invalid after : List ℕ) → octets ≡ valid ++ (invalid ++ after) → IsUtf8 valid → length valid ≡ utf8_valid_len octets
    → length invalid ≡ utf8_invalid_len (drop (utf8_valid_len octets) octets) → BeginNone invalid after
invalid_begins_none octets valid [] after same utf8 longest len = tt
invalid_begins_none octets valid (o ∷ os) after same utf8 longest len =
    let rest : drop (utf8_valid_len octets) octets ≡ o ∷ (os ++ after) = ap (drop (utf8_valid_len octets)) same ∙ drop_at valid (o ∷ (os ++ after)) (utf8_valid_len octets) longest in
    let shorter : suc (length os) ≡ utf8_invalid_len (o ∷ (os ++ after)) = len ∙ ap utf8_invalid_len rest in (
      after_begins_none octets valid (o ∷ (os ++ after)) same utf8 longest,
      begin_none os after (λ k below. (
          let goes_on = invalid_goes_on (o ∷ (os ++ after)) (omega arith) (suc k) (omega arith) (omega arith) in
          subst GoesOn (get_or_append_left os after 0 k below) goes_on)),
    )

pub chunk_is_shown : (breaks : LineBreaks) (octets valid invalid after text : List ℕ) → octets ≡ valid ++ (invalid ++ after) → IsUtf8 valid → length valid ≡ utf8_valid_len octets
    → length invalid ≡ utf8_invalid_len (drop (utf8_valid_len octets) octets) → IsVisibleText breaks after text
    → IsVisibleText breaks octets (text_shown breaks valid ++ (octal_text invalid ++ text))
chunk_is_shown breaks octets valid invalid after text same utf8 longest len later =
    subst (λ (os : List ℕ). IsVisibleText breaks os (text_shown breaks valid ++ (octal_text invalid ++ text))) (sym same)
    (valid_before breaks valid (invalid ++ after) (octal_text invalid ++ text) utf8
    (invalid_before breaks invalid after text (invalid_begins_none octets valid invalid after same utf8 longest len) later))
