-- Where a refused word is in its file.
use Rattle.std.proofs.Common.{◌≡◌, ◌∙◌, ◌≤◌, ◌<◌, ℕ, zero, suc, Bool, true, false, not, cond, ◌+◌, ◌-◌, List, [], ◌∷◌, ◌++◌, Some, refl, sym, ap, subst, arith, length, take, drop, slice_get, filter, length-append, length-take-le, take-append-drop, append_assoc, drop-drop}
use Rattle.std.specs.List.{before_first, after_first, count_by, onto_first, position_or_len, slice_split}
use Rattle.std.specs.Option.{option_map_or}
use Rattle.std.proofs.Math.Seq.{drop-append_seam, take-add}
use Rattle.std.proofs.lemmas.Bool.{eqb-true}
use Rattle.std.proofs.lemmas.Grind.{common_steps}
use Rattle.std.proofs.lemmas.List.{drop-append-le}
use Rattle.std.proofs.lemmas.List.Sums.{sum_by-append, sum_by-cons}
use Rattle.avp_dict.proofs.Gathering.{texts_of_first}
use Rattle.avp_dict.specs.Lines.{is_line_end, texts_of}
use Rattle.avp_dict.specs.LineNumbers.{line_after}
use Rattle.avp_dict.specs.RefusedPlaces.{is_before_filled, line_from}
use Rattle.avp_dict.specs.WordPlaces.{IsWordPlace, after_lines, from_filled, from_word, word_offset}
use Rattle.avp_dict.specs.Words.{is_blank, is_hash, is_word, words_of}
use Rattle.avp_dict.specs.Lines.{IsEnd}

-- ---- what octets end with

end_all : (xs : List ℕ) → IsEnd xs xs
end_all xs = ([], refl)

end_drop : (n : ℕ) (xs : List ℕ) → IsEnd (drop n xs) xs
end_drop n xs = (take n xs, sym (take-append-drop n xs))

end_through : (a b c : List ℕ) → IsEnd a b → IsEnd b c → IsEnd a c
end_through a b c inner outer = (outer.0 ++ inner.0, outer.1 ∙ (ap (λ x. outer.0 ++ x) inner.1 ∙ sym (append_assoc outer.0 inner.0 a)))

filled_end : (xs : List ℕ) → IsEnd (from_filled xs) xs
filled_end [] = ([], refl)
filled_end (o ∷ os) = by (is_blank o) (filled_end os)
  where
    by : (b : Bool) → IsEnd (from_filled os) os → IsEnd (cond b (from_filled os) (o ∷ os)) (o ∷ os)
    by true later = (o ∷ later.0, ap (λ x. o ∷ x) later.1)
    by false later = end_all (o ∷ os)

pub word_end : (word : ℕ) (xs : List ℕ) → IsEnd (from_word word xs) xs
word_end zero xs = filled_end xs
word_end (suc word) xs =
    let filled = from_filled xs in
    let after = after_first is_blank filled in
    end_through (from_word word after) filled xs (end_through (from_word word after) after filled (word_end word after) (end_drop (position_or_len is_blank filled + 1) filled)) (filled_end xs)

pub lines_end : (lines : ℕ) (xs : List ℕ) → IsEnd (after_lines lines xs) xs
lines_end zero xs = end_all xs
lines_end (suc lines) xs =
    let after = after_first is_line_end xs in
    end_through (after_lines lines after) after xs (lines_end lines after) (end_drop (position_or_len is_line_end xs + 1) xs)

-- how many octets are before it
front_length : (rest xs : List ℕ) (e : IsEnd rest xs) → length xs - length rest ≡ length e.0
front_length rest xs e = omega (arith, ap length e.1, length-append e.0 rest)

pub end_at : (rest xs : List ℕ) → IsEnd rest xs → drop (length xs - length rest) xs ≡ rest
end_at rest xs e = rw (front_length rest xs e) (ap (drop (length e.0)) e.1 ∙ drop-append_seam e.0 rest)

-- ---- lines

-- the lines of a text: the first, and those after it
more_texts : (n : ℕ) (o : ℕ) (os : List ℕ) → suc n < length (texts_of (o ∷ os)) → n < length (texts_of (after_first is_line_end (o ∷ os)))
more_texts n o os h = omega (arith, ap length (texts_of_first o os), h)

pub line_at : (n : ℕ) (xs : List ℕ) → n < length (texts_of xs) → slice_get (texts_of xs) n ≡ Some (before_first is_line_end (after_lines n xs))
line_at n [] h = absurd (omega (arith, h))
line_at zero (o ∷ os) h = ap (λ texts. slice_get texts 0) (texts_of_first o os)
line_at (suc n) (o ∷ os) h = ap (λ texts. slice_get texts (suc n)) (texts_of_first o os) ∙ line_at n (after_first is_line_end (o ∷ os)) (more_texts n o os h)

some_octets : (xs : List ℕ) → 0 < length (texts_of xs) → 0 < length xs
some_octets [] h = absurd (omega (arith, h))
some_octets (o ∷ os) h = omega arith

-- the octets after the first one's, counted from the second on
after_later : (n : ℕ) (o : ℕ) (os : List ℕ) → drop (1 + n + 1) (o ∷ os) ≡ drop (n + 1) os
after_later n o os = let e : 1 + n + 1 ≡ suc (n + 1) = omega arith in ap (λ k. drop k (o ∷ os)) e

count_cons : (p : ℕ → Bool) (o : ℕ) (os : List ℕ) → count_by p (o ∷ os) ≡ cond (p o) 1 0 + count_by p os
count_cons p o os = sum_by-cons (λ x. cond (p x) 1 0) o os

-- something follows a line end alone
one_end : (xs : List ℕ) → 0 < length (after_first is_line_end xs) → count_by is_line_end xs ≡ 1 + count_by is_line_end (after_first is_line_end xs)
one_end [] h = absurd (omega (arith, h))
one_end (o ∷ os) h = count_cons is_line_end o os ∙ by (is_line_end o) h (one_end os)
  where
    by : (b : Bool) → 0 < length (drop (cond (not b) (1 + position_or_len is_line_end os) 0 + 1) (o ∷ os)) → (0 < length (after_first is_line_end os) → count_by is_line_end os ≡ 1 + count_by is_line_end (after_first is_line_end os))
        → cond b 1 0 + count_by is_line_end os ≡ 1 + count_by is_line_end (drop (cond (not b) (1 + position_or_len is_line_end os) 0 + 1) (o ∷ os))
    by true h later = refl
    by false h later =
        let e = after_later (position_or_len is_line_end os) o os in
        omega (arith, later (subst (λ r. 0 < length r) e h), ap (count_by is_line_end) e)

pub ends_before : (n : ℕ) (xs : List ℕ) → n < length (texts_of xs) → count_by is_line_end xs ≡ n + count_by is_line_end (after_lines n xs)
ends_before zero xs h = let e : 0 + count_by is_line_end xs ≡ count_by is_line_end xs = omega arith in sym e
ends_before (suc n) [] h = absurd (omega (arith, h))
ends_before (suc n) (o ∷ os) h =
    let after = after_first is_line_end (o ∷ os) in
    let more = more_texts n o os h in
    omega (arith, one_end (o ∷ os) (some_octets after (omega (arith, more))), ends_before n after more)

-- ---- before the first that passes

module _ (p : ℕ → Bool) where
  pub none_before : (k : ℕ) (xs : List ℕ) → k ≤ position_or_len p xs → count_by p (take k xs) ≡ 0
  none_before zero xs h = refl
  none_before (suc k) [] h = refl
  none_before (suc k) (o ∷ os) h = count_cons p o (take k os) ∙ by (p o) h (none_before k os)
    where
      by : (b : Bool) → suc k ≤ cond (not b) (1 + position_or_len p os) 0 → (k ≤ position_or_len p os → count_by p (take k os) ≡ 0) → cond b 1 0 + count_by p (take k os) ≡ 0
      by true h later = absurd (omega (arith, h))
      by false h later = let e : 0 + count_by p (take k os) ≡ 0 = omega (arith, later (omega (arith, h))) in e

  one_more : (n : ℕ) → suc n ≡ 1 + n
  one_more n = omega arith

  pub cut_before : (k : ℕ) (xs : List ℕ) → k ≤ position_or_len p xs → before_first p (drop k xs) ≡ drop k (before_first p xs)
  cut_before zero xs h = refl
  cut_before (suc k) [] h = refl
  cut_before (suc k) (o ∷ os) h = by (p o) h (cut_before k os)
    where
      by : (b : Bool) → suc k ≤ cond (not b) (1 + position_or_len p os) 0 → (k ≤ position_or_len p os → before_first p (drop k os) ≡ drop k (before_first p os)) → before_first p (drop k os) ≡ drop (suc k) (take (cond (not b) (1 + position_or_len p os) 0) (o ∷ os))
      by true h later = absurd (omega (arith, h))
      by false h later = later (omega (arith, h)) ∙ ap (λ n. drop (suc k) (take n (o ∷ os))) (one_more (position_or_len p os))

  pub position_within : (xs : List ℕ) → position_or_len p xs ≤ length xs
  position_within [] = omega arith
  position_within (o ∷ os) = by (p o) (position_within os)
    where
      by : (b : Bool) → position_or_len p os ≤ length os → cond (not b) (1 + position_or_len p os) 0 ≤ suc (length os)
      by true h = omega arith
      by false h = omega (arith, h)

  -- what is there, if anything, passes
  pub passes_there : (xs : List ℕ) (o : ℕ) → slice_get xs (position_or_len p xs) ≡ Some o → p o ≡ true
  passes_there [] o h = absurd (cc)
  passes_there (x ∷ xs) o h = by (p x) refl h (passes_there xs o)
    where
      by : (b : Bool) → p x ≡ b → slice_get (x ∷ xs) (cond (not b) (1 + position_or_len p xs) 0) ≡ Some o → (slice_get xs (position_or_len p xs) ≡ Some o → p o ≡ true) → p o ≡ true
      by true e h later = subst (λ (y : ℕ). p y ≡ true) (let is : x ≡ o = cc in is) e
      by false e h later = later (ap (slice_get (x ∷ xs)) (one_more (position_or_len p xs)) ∙ h)

  pub length_before : (xs : List ℕ) → length (before_first p xs) ≡ position_or_len p xs
  length_before xs = length-take-le (position_or_len p xs) xs (position_within xs)

-- ---- words

abbrev pub words_in : List ℕ → List (List ℕ)
words_in octets = filter is_word (slice_split is_blank octets)

-- the first, if there is one, is no blank
abbrev pub IsFilled : List ℕ → Type 0
IsFilled [] = Unit {0}
IsFilled (o ∷ os) = is_blank o ≡ false

is_filled : (xs : List ℕ) → IsFilled (from_filled xs)
is_filled [] = tt
is_filled (o ∷ os) = by (is_blank o) refl (is_filled os)
  where
    by : (b : Bool) → is_blank o ≡ b → IsFilled (from_filled os) → IsFilled (cond b (from_filled os) (o ∷ os))
    by true e later = later
    by false e later = e

pub word_filled : (word : ℕ) (xs : List ℕ) → IsFilled (from_word word xs)
word_filled zero xs = is_filled xs
word_filled (suc word) xs = word_filled word (after_first is_blank (from_filled xs))

words_filled : (xs : List ℕ) → words_in (from_filled xs) ≡ words_in xs
words_filled [] = refl
words_filled (o ∷ os) = by (is_blank o) refl (words_filled os)
  where
    by : (b : Bool) → is_blank o ≡ b → words_in (from_filled os) ≡ words_in os → words_in (cond b (from_filled os) (o ∷ os)) ≡ words_in (o ∷ os)
    by true e later = later ∙ sym (ap (λ x. filter is_word (cond x ([] ∷ slice_split is_blank os) (onto_first o (slice_split is_blank os)))) e)
    by false e later = refl

drop_onto : (o : ℕ) (parts : List (List ℕ)) → drop 1 (onto_first o parts) ≡ drop 1 parts
drop_onto o [] = refl
drop_onto o (part ∷ parts) = refl

-- the parts after the first blank
rest_words : (xs : List ℕ) → filter is_word (drop 1 (slice_split is_blank xs)) ≡ words_in (after_first is_blank xs)
rest_words [] = refl
rest_words (o ∷ os) = by (is_blank o) (rest_words os)
  where
    by : (b : Bool) → filter is_word (drop 1 (slice_split is_blank os)) ≡ words_in (after_first is_blank os)
        → filter is_word (drop 1 (cond b ([] ∷ slice_split is_blank os) (onto_first o (slice_split is_blank os)))) ≡ words_in (drop (cond (not b) (1 + position_or_len is_blank os) 0 + 1) (o ∷ os))
    by true later = refl
    by false later = ap (filter is_word) (drop_onto o (slice_split is_blank os)) ∙ (later ∙ sym (ap words_in (after_later (position_or_len is_blank os) o os)))

words_onto : (o : ℕ) (parts : List (List ℕ)) → drop 1 (filter is_word (onto_first o parts)) ≡ filter is_word (drop 1 parts)
words_onto o [] = refl
words_onto o (part ∷ parts) =
    let some : is_word (o ∷ part) ≡ true = grind (arith, common_steps) in
    ap (λ b. drop 1 (cond b ((o ∷ part) ∷ filter is_word parts) (filter is_word parts))) some

-- a word's octets and what is after the blank behind them
word_cut : (xs : List ℕ) → IsFilled xs → words_in (after_first is_blank xs) ≡ drop 1 (words_in xs)
word_cut [] h = refl
word_cut (o ∷ os) h =
    let after : after_first is_blank (o ∷ os) ≡ after_first is_blank os = ap (λ b. drop (cond (not b) (1 + position_or_len is_blank os) 0 + 1) (o ∷ os)) h ∙ after_later (position_or_len is_blank os) o os in
    ap words_in after ∙ (sym (rest_words os) ∙ (sym (words_onto o (slice_split is_blank os)) ∙ sym (ap (λ b. drop 1 (filter is_word (cond b ([] ∷ slice_split is_blank os) (onto_first o (slice_split is_blank os))))) h)))

drop_one : (n : ℕ) (words : List (List ℕ)) → drop n (drop 1 words) ≡ drop (suc n) words
drop_one zero [] = refl
drop_one (suc n) [] = refl
drop_one n (word ∷ words) = refl

pub words_from : (word : ℕ) (xs : List ℕ) → words_in (from_word word xs) ≡ drop word (words_in xs)
words_from zero xs = words_filled xs
words_from (suc word) xs =
    words_from word (after_first is_blank (from_filled xs))
    ∙ (ap (drop word) (word_cut (from_filled xs) (is_filled xs) ∙ ap (drop 1) (words_filled xs)) ∙ drop_one word (words_in xs))

-- ---- the place

hash_filled : (o : ℕ) → is_hash o ≡ true → is_blank o ≡ false
hash_filled o h = rw (eqb-true o 35 h) refl

line_end_filled : (o : ℕ) → is_line_end o ≡ true → is_blank o ≡ false
line_end_filled o h = rw (eqb-true o 10 h) refl

abbrev begins_filled : List ℕ → Bool
begins_filled xs = option_map_or (λ octet. not (is_blank octet)) (slice_get xs 0) true

-- what is left of a line after its last word, and what follows the line
left_filled : (words comment after : List ℕ) → IsFilled words → ((o : ℕ) → slice_get comment 0 ≡ Some o → is_hash o ≡ true) → ((o : ℕ) → slice_get after 0 ≡ Some o → is_line_end o ≡ true) → begins_filled (words ++ (comment ++ after)) ≡ true
left_filled (o ∷ os) comment after filled hash end = ap not filled
left_filled [] (o ∷ os) after filled hash end = ap not (hash_filled o (hash o refl))
left_filled [] [] (o ∷ os) filled hash end = ap not (line_end_filled o (end o refl))
left_filled [] [] [] filled hash end = refl

get_from : (n : ℕ) (xs : List ℕ) → slice_get xs n ≡ slice_get (drop n xs) 0
get_from zero xs = refl
get_from (suc n) [] = refl
get_from (suc n) (o ∷ os) = get_from n os

module _ (octets : List ℕ) (lines word : ℕ) (h : lines < length (texts_of octets)) where
  abbrev rest : List ℕ
  rest = after_lines lines octets

  abbrev text : List ℕ
  text = before_first is_line_end rest

  abbrev plain : List ℕ
  plain = before_first is_hash text

  abbrev words : List ℕ
  words = from_word word plain

  abbrev before : ℕ
  before = length octets - length rest

  abbrev inside : ℕ
  inside = length plain - length words

  inside_plain : inside ≤ position_or_len is_hash text
  inside_plain = omega (arith, length_before is_hash text)

  plain_text : position_or_len is_hash text ≤ position_or_len is_line_end rest
  plain_text = omega (arith, position_within is_hash text, length_before is_line_end rest)

  inside_text : inside ≤ position_or_len is_line_end rest
  inside_text = omega (arith, inside_plain, plain_text)

  dropped : drop (before + inside) octets ≡ drop inside rest
  dropped = sym (drop-drop inside before octets) ∙ ap (drop inside) (end_at rest octets (lines_end lines octets))

  before_within : before + length rest ≡ length octets
  before_within = let e = lines_end lines octets in omega (arith, ap length e.1, length-append e.0 rest)

  pub place_within : before + inside ≤ length octets
  place_within = omega (arith, before_within, inside_text, position_within is_line_end rest)

  ends_front : count_by is_line_end (take before octets) ≡ lines
  ends_front =
      let parts = ap (count_by is_line_end) (sym (take-append-drop before octets)) ∙ sum_by-append (λ x. cond (is_line_end x) 1 0) (take before octets) (drop before octets) in
      omega (arith, parts, ap (count_by is_line_end) (end_at rest octets (lines_end lines octets)), ends_before lines octets h)

  pub place_line : line_after (take (before + inside) octets) ≡ 1 + lines
  place_line =
      let parts = ap (count_by is_line_end) (take-add before inside octets ∙ ap (λ x. take before octets ++ take inside x) (end_at rest octets (lines_end lines octets))) ∙ sum_by-append (λ x. cond (is_line_end x) 1 0) (take before octets) (take inside rest) in
      omega (arith, parts, ends_front, none_before is_line_end inside rest inside_text)

  pub place_words : words_of (line_from octets (before + inside)) ≡ drop word (words_of text)
  place_words =
      ap words_of (ap (before_first is_line_end) dropped ∙ cut_before is_line_end inside rest inside_text)
      ∙ (ap words_in (cut_before is_hash inside text inside_plain ∙ end_at words plain (word_end word plain)) ∙ words_from word plain)

  abbrev comment : List ℕ
  comment = drop (position_or_len is_hash text) text

  abbrev after : List ℕ
  after = drop (position_or_len is_line_end rest) rest

  whole : rest ≡ plain ++ (comment ++ after)
  whole = sym (take-append-drop (position_or_len is_line_end rest) rest) ∙ (ap (λ x. x ++ after) (sym (take-append-drop (position_or_len is_hash text) text)) ∙ append_assoc plain comment after)

  left : drop inside rest ≡ words ++ (comment ++ after)
  left =
      let short : inside ≤ length plain = omega arith in
      ap (drop inside) whole ∙ (drop-append-le inside plain (comment ++ after) short ∙ ap (λ x. x ++ (comment ++ after)) (end_at words plain (word_end word plain)))

  pub place_filled : is_before_filled (before + inside) octets ≡ true
  place_filled =
      ap (λ found. option_map_or (λ octet. not (is_blank octet)) found true) (get_from (before + inside) octets ∙ ap (λ xs. slice_get xs 0) (dropped ∙ left))
      ∙ left_filled words comment after (word_filled word plain)
      (λ o is. passes_there is_hash text o (get_from (position_or_len is_hash text) text ∙ is))
      (λ o is. passes_there is_line_end rest o (get_from (position_or_len is_line_end rest) rest ∙ is))

-- a refused word of a line that is there
pub word_place : (line word : ℕ) (octets : List ℕ) → 1 ≤ line → line ≤ length (texts_of octets) → IsWordPlace octets line (word_offset line word octets)
unfolding word_offset
word_place line word octets first last =
    let h : line - 1 < length (texts_of octets) = omega (arith, first, last) in
    record {
      text = before_first is_line_end (after_lines (line - 1) octets);
      word = word;
      within = place_within octets (line - 1) word h;
      line_is = omega (arith, place_line octets (line - 1) word h, first);
      text_is = line_at (line - 1) octets h;
      words = place_words octets (line - 1) word h;
      filled = place_filled octets (line - 1) word h;
    }
