-- A line's words are that at its front and those after it.
use Rattle.std.proofs.Common.{◌≡◌, ◌<◌, ◌∙◌, ℕ, suc, Bool, true, false, not, ◌+◌, ◌-◌, ◌||◌, cond, if◌then◌else◌, List, [], ◌∷◌, ◌++◌, length, slice_index, take, drop, filter, refl, sym, ap, ap₂, append_assoc, arith, one-add}
use Rattle.std.proofs.lemmas.Grind.{common_steps}
use Rattle.std.proofs.lemmas.List.{drop-drop, length-drop, take_all}
use Rattle.std.proofs.lemmas.List.Sums.{prefix_len-le-length}
use Rattle.std.specs.List.{after_first, before_first, onto_first, position_or_len, prefix_len, slice_split}
use Rattle.avp_dict.specs.Lines.{is_line_end}
use Rattle.avp_dict.specs.Words.{is_blank, is_hash, is_word, words_of}
use Rattle.avp_dict.specs.internal.LineWords.{after_word, ends_words, from_line_end, is_in_word, line_words, word_size}

module _ (blank hash : ℕ → Bool) where
  abbrev parts : List ℕ → List (List ℕ)
  parts text = slice_split blank (before_first hash text)

  abbrev size : List ℕ → ℕ
  size text = prefix_len (λ o. not (blank o || hash o)) text

  abbrev parts_past : List ℕ → List (List ℕ)
  parts_past [] = []
  parts_past (o ∷ os) = if hash o then [] else parts os

  taken : (n o : ℕ) (os : List ℕ) → take (1 + n) (o ∷ os) ≡ o ∷ take n os
  taken n o os = rw one-add refl

  dropped : (n o : ℕ) (os : List ℕ) → drop (1 + n) (o ∷ os) ≡ drop n os
  dropped n o os = rw one-add refl

  plain : (h : Bool) (o : ℕ) (os : List ℕ) → hash o ≡ h → before_first hash (o ∷ os) ≡ cond h [] (o ∷ before_first hash os)
  plain true o os is = rw is refl
  plain false o os is = rw is (taken (prefix_len (λ x. not (hash x)) os) o os)

  cut : (b : Bool) (o : ℕ) (os : List ℕ) → blank o ≡ b → slice_split blank (o ∷ os) ≡ cond b ([] ∷ slice_split blank os) (onto_first o (slice_split blank os))
  cut b o os is = rw is refl

  sized : (b h : Bool) (o : ℕ) (os : List ℕ) → blank o ≡ b → hash o ≡ h → size (o ∷ os) ≡ cond (b || h) 0 (1 + size os)
  sized true h o os is_b is_h = rw is_b refl
  sized false true o os is_b is_h = rw (is_b, is_h) refl
  sized false false o os is_b is_h = rw (is_b, is_h) refl

  past : (h : Bool) (o : ℕ) (os : List ℕ) → hash o ≡ h → parts_past (o ∷ os) ≡ cond h [] (parts os)
  past h o os is = rw is refl

  parts_step : (text : List ℕ) → parts text ≡ take (size text) text ∷ parts_past (drop (size text) text)
  parts_step [] = refl
  parts_step (o ∷ os) = at (blank o) (hash o) refl refl (parts_step os)
    where
      from : ℕ → List (List ℕ)
      from n = take n (o ∷ os) ∷ parts_past (drop n (o ∷ os))

      at : (b h : Bool) → blank o ≡ b → hash o ≡ h → parts os ≡ take (size os) os ∷ parts_past (drop (size os) os) → parts (o ∷ os) ≡ take (size (o ∷ os)) (o ∷ os) ∷ parts_past (drop (size (o ∷ os)) (o ∷ os))
      at true true is_b is_h later = ap (slice_split blank) (plain true o os is_h) ∙ sym (ap from (sized true true o os is_b is_h) ∙ ap (λ ps. [] ∷ ps) (past true o os is_h))
      at true false is_b is_h later = ap (slice_split blank) (plain false o os is_h) ∙ cut true o (before_first hash os) is_b ∙ sym (ap from (sized true false o os is_b is_h) ∙ ap (λ ps. [] ∷ ps) (past false o os is_h))
      at false true is_b is_h later = ap (slice_split blank) (plain true o os is_h) ∙ sym (ap from (sized false true o os is_b is_h) ∙ ap (λ ps. [] ∷ ps) (past true o os is_h))
      at false false is_b is_h later =
          ap (slice_split blank) (plain false o os is_h) ∙ cut false o (before_first hash os) is_b ∙ ap (onto_first o) later
          ∙ sym (ap from (sized false false o os is_b is_h) ∙ ap₂ (λ front rest. front ∷ parts_past rest) (taken (size os) o os) (dropped (size os) o os))

filter_first : (part : List ℕ) (others : List (List ℕ)) → filter is_word (part ∷ others) ≡ filter is_word (part ∷ []) ++ filter is_word others
filter_first part others = at (is_word part)
  where
    at : (b : Bool) → cond b (part ∷ filter is_word others) (filter is_word others) ≡ cond b (part ∷ []) [] ++ filter is_word others
    at true = refl
    at false = refl

past_words : (text : List ℕ) → filter is_word (parts_past is_blank ends_words text) ≡ line_words (after_word text)
past_words [] = refl
past_words (o ∷ os) = at (ends_words o)
  where
    at : (b : Bool) → filter is_word (if b then [] else parts is_blank ends_words os) ≡ line_words (if b then [] else os)
    at true = refl
    at false = refl

pub words_step : (text : List ℕ) → line_words text ≡ filter is_word (take (word_size text) text ∷ []) ++ line_words (after_word (drop (word_size text) text))
words_step text =
    ap (filter is_word) (parts_step is_blank ends_words text)
    ∙ filter_first (take (word_size text) text) (parts_past is_blank ends_words (drop (word_size text) text))
    ∙ ap (λ words. filter is_word (take (word_size text) text ∷ []) ++ words) (past_words (drop (word_size text) text))

-- the word at the front of a text, after others
pub pushed_word : (old new : List (List ℕ)) (text left : List ℕ) → new ≡ old ++ filter is_word (take (word_size text) text ∷ []) → left ≡ drop (word_size text) text → new ++ line_words (after_word left) ≡ old ++ line_words text
pushed_word old new text left is_new is_left =
    let first = filter is_word (take (word_size text) text ∷ []) in
    let others = line_words (after_word (drop (word_size text) text)) in
    ap₂ (λ words rest. words ++ line_words (after_word rest)) is_new is_left
    ∙ append_assoc old first others
    ∙ ap (λ words. old ++ words) (sym (words_step text))

blank_no_end : (o : ℕ) → is_blank o ≡ true → ends_words o ≡ false
blank_no_end o is = grind (arith, common_steps)

-- a blank before words is none of them
pub words_blank : (o : ℕ) (os : List ℕ) → is_blank o ≡ true → line_words (o ∷ os) ≡ line_words os
words_blank o os is =
    words_step (o ∷ os)
    ∙ ap (λ n. filter is_word (take n (o ∷ os) ∷ []) ++ line_words (after_word (drop n (o ∷ os)))) (sized is_blank ends_words true (ends_words o) o os is refl)
    ∙ ap (λ b. line_words (if b then [] else os)) (blank_no_end o is)

pub after_blank : (o : ℕ) (os : List ℕ) → is_blank o ≡ true → after_word (o ∷ os) ≡ os
after_blank o os is = ap (λ b. if b then [] else os) (blank_no_end o is)

-- a word ends where it does not go on
word_over : (p : ℕ → Bool) (text : List ℕ) → prefix_len p (drop (prefix_len p text) text) ≡ 0
word_over p [] = refl
word_over p (o ∷ os) = at (p o) refl (word_over p os)
  where
    n : ℕ
    n = prefix_len p os

    at : (b : Bool) → p o ≡ b → prefix_len p (drop n os) ≡ 0 → prefix_len p (drop (cond b (1 + n) 0) (o ∷ os)) ≡ 0
    at true is later = ap (prefix_len p) (dropped p p n o os) ∙ later
    at false is later = rw is refl

pub ended : (text left : List ℕ) → left ≡ drop (word_size text) text → word_size left ≡ 0
ended text left is = ap word_size is ∙ word_over is_in_word text

both_before : (p q : ℕ → Bool) (text : List ℕ) → before_first p (before_first q text) ≡ before_first (λ o. p o || q o) text
both_before p q [] = refl
both_before p q (o ∷ os) = at (p o) (q o) refl refl (both_before p q os)
  where
    at : (a b : Bool) → p o ≡ a → q o ≡ b → before_first p (before_first q os) ≡ before_first (λ x. p x || q x) os → before_first p (before_first q (o ∷ os)) ≡ before_first (λ x. p x || q x) (o ∷ os)
    at true true is_p is_q later = ap (before_first p) (plain p q true o os is_q) ∙ sym (plain p (λ x. p x || q x) true o os (rw is_p refl))
    at false true is_p is_q later = ap (before_first p) (plain p q true o os is_q) ∙ sym (plain p (λ x. p x || q x) true o os (rw (is_p, is_q) refl))
    at true false is_p is_q later = ap (before_first p) (plain p q false o os is_q) ∙ plain q p true o (before_first q os) is_p ∙ sym (plain p (λ x. p x || q x) true o os (rw is_p refl))
    at false false is_p is_q later = ap (before_first p) (plain p q false o os is_q) ∙ plain q p false o (before_first q os) is_p ∙ ap (λ xs. o ∷ xs) later ∙ sym (plain p (λ x. p x || q x) false o os (rw (is_p, is_q) refl))

pub line_words_are : (text : List ℕ) → line_words text ≡ words_of (before_first is_line_end text)
line_words_are text = ap (λ line. filter is_word (slice_split is_blank line)) (sym (both_before is_hash is_line_end text))

-- what does not change with a blank at the front does not change where that is taken away
pub without_blank : {A : Type 0} (f : List ℕ → A) → ((o : ℕ) (os : List ℕ) → is_blank o ≡ true → f (o ∷ os) ≡ f os) → (text : List ℕ) → 0 < length text → is_blank (slice_index text 0) ≡ true → f (take (length text - 1) (drop 1 text)) ≡ f text
without_blank f step [] some is = absurd (omega (arith, some))
without_blank f step (o ∷ os) some is =
    let all : take (suc (length os) - 1) os ≡ os = take_all (suc (length os) - 1) os (omega arith) in
    ap f all ∙ sym (step o os is)

-- ---- the end of the line

module _ (ending : ℕ → Bool) where
  abbrev from_end : List ℕ → List ℕ
  from_end text = drop (position_or_len ending text) text

  from_end_one : (o : ℕ) (os : List ℕ) → ending o ≡ false → from_end (o ∷ os) ≡ from_end os
  from_end_one o os is = rw (is, one-add) refl

  from_end_past : (p : ℕ → Bool) → ((o : ℕ) → p o ≡ true → ending o ≡ false) → (text : List ℕ) → from_end (drop (prefix_len p text) text) ≡ from_end text
  from_end_past p other [] = refl
  from_end_past p other (o ∷ os) = at (p o) refl (from_end_past p other os)
    where
      n : ℕ
      n = prefix_len p os

      at : (b : Bool) → p o ≡ b → from_end (drop n os) ≡ from_end os → from_end (drop (cond b (1 + n) 0) (o ∷ os)) ≡ from_end (o ∷ os)
      at true is later = ap from_end (dropped ending ending n o os) ∙ later ∙ sym (from_end_one o os (other o is))
      at false is later = refl

in_word_no_end : (o : ℕ) → is_in_word o ≡ true → is_line_end o ≡ false
in_word_no_end o is = grind (arith, common_steps)

blank_no_line_end : (o : ℕ) → is_blank o ≡ true → is_line_end o ≡ false
blank_no_line_end o is = grind (arith, common_steps)

pub end_past_word : (text left : List ℕ) → left ≡ drop (word_size text) text → from_line_end left ≡ from_line_end text
end_past_word text left is = ap from_line_end is ∙ from_end_past is_line_end is_in_word in_word_no_end text

pub end_past_blank : (o : ℕ) (os : List ℕ) → is_blank o ≡ true → from_line_end (o ∷ os) ≡ from_line_end os
end_past_blank o os is = from_end_one is_line_end o os (blank_no_line_end o is)

pub end_here : (o : ℕ) (os : List ℕ) → is_line_end o ≡ true → from_line_end (o ∷ os) ≡ o ∷ os
end_here o os is = rw is refl

pub line_before_end : (text : List ℕ) → take (length text - length (from_line_end text)) text ≡ before_first is_line_end text
line_before_end text =
    let n = position_or_len is_line_end text in
    ap (λ k. take k text) (omega (arith, length-drop n text, prefix_len-le-length (λ o. not (is_line_end o)) text))

pub rest_after_end : (text : List ℕ) → after_first is_line_end text ≡ drop 1 (from_line_end text)
rest_after_end text = sym (drop-drop 1 (position_or_len is_line_end text) text)
