-- What is shown of octets, part by part, is one text.
use Rattle.std.proofs.Common.{◌≡◌, ◌∙◌, ℕ, zero, suc, ◌+◌, ◌<◌, ◌≤◌, List, [], ◌∷◌, ◌++◌, IsUtf8, length, take, drop, append-nil, append_assoc, length-append, ap, arith, refl, sym}
use Rattle.std.proofs.lemmas.List.{drop_at, length-drop, nil_from_length, take_at}
use Rattle.std.proofs.lemmas.Str.{chars-nil, utf8_valid_len-IsUtf8}
use Rattle.std.specs.Str.Lossy.{after_first_chunk, utf8_invalid_len, utf8_valid_len}
use Rattle.radpolicy_common.specs.declared.terminals.LineBreaks.{LineBreaks}
use Rattle.radpolicy_common.specs.VisibleText.{octal_text, text_shown, visible_text, visible_within}

-- what was made, and what is shown of the octets that are left, in at most so many parts
pub record Left (breaks : LineBreaks) (octets left text : List ℕ) : Type 0 where
  pub parts : ℕ
  pub enough : length left ≤ parts
  pub whole : text ++ visible_within breaks parts left ≡ visible_text breaks octets

pub all_left : (breaks : LineBreaks) (octets left text : List ℕ) → left ≡ octets → text ≡ [] → Left breaks octets left text
unfolding visible_text
all_left breaks octets left text same nothing = record {
  parts = length octets;
  enough = omega (arith, ap length same);
  whole = (λ i. nothing i ++ visible_within breaks (length octets) (same i));
}

within_nothing : (breaks : LineBreaks) (parts : ℕ) → visible_within breaks parts [] ≡ []
within_nothing breaks zero = refl
within_nothing breaks (suc parts) = refl

pub nothing_left : (breaks : LineBreaks) (octets left text : List ℕ) → left ≡ [] → Left breaks octets left text → text ≡ visible_text breaks octets
nothing_left breaks octets left text none l =
    let nothing : visible_within breaks l.parts left ≡ [] = ap (visible_within breaks l.parts) none ∙ within_nothing breaks l.parts in
    sym (append-nil text) ∙ ap (λ (os : List ℕ). text ++ os) (sym nothing) ∙ l.whole

-- the first part of octets that are split so
part_of : (breaks : LineBreaks) (o : ℕ) (os valid invalid after : List ℕ) (parts : ℕ) → o ∷ os ≡ valid ++ (invalid ++ after)
    → length valid ≡ utf8_valid_len (o ∷ os) → length invalid ≡ utf8_invalid_len (drop (utf8_valid_len (o ∷ os)) (o ∷ os))
    → visible_within breaks (suc parts) (o ∷ os) ≡ text_shown breaks valid ++ (octal_text invalid ++ visible_within breaks parts after)
part_of breaks o os valid invalid after parts split valid_len invalid_len =
    let n = utf8_valid_len (o ∷ os) in
    let m = utf8_invalid_len (drop n (o ∷ os)) in
    let front : take n (o ∷ os) ≡ valid = ap (take n) split ∙ take_at valid _ n valid_len in
    let behind : drop n (o ∷ os) ≡ invalid ++ after = ap (drop n) split ∙ drop_at valid _ n valid_len in
    let middle : take m (drop n (o ∷ os)) ≡ invalid = ap (take m) behind ∙ take_at invalid after m invalid_len in
    let both_len : length (valid ++ invalid) ≡ n + m = omega (arith, length-append valid invalid) in
    let back : drop (n + m) (o ∷ os) ≡ after = ap (drop (n + m)) (split ∙ sym (append_assoc valid invalid after)) ∙ drop_at (valid ++ invalid) after (n + m) both_len in
    (λ i. text_shown breaks (front i) ++ (octal_text (middle i) ++ visible_within breaks parts (back i)))

one_less : (breaks : LineBreaks) (octets : List ℕ) (o : ℕ) (os valid invalid after text new : List ℕ) (parts : ℕ) → o ∷ os ≡ valid ++ (invalid ++ after)
    → length valid ≡ utf8_valid_len (o ∷ os) → length invalid ≡ utf8_invalid_len (drop (utf8_valid_len (o ∷ os)) (o ∷ os)) → length after < length (o ∷ os)
    → new ≡ text ++ text_shown breaks valid ++ octal_text invalid
    → length (o ∷ os) ≤ parts → text ++ visible_within breaks parts (o ∷ os) ≡ visible_text breaks octets → Left breaks octets after new
one_less breaks octets o os valid invalid after text new zero split valid_len invalid_len shorter made enough whole = absurd (omega arith)
one_less breaks octets o os valid invalid after text new (suc parts) split valid_len invalid_len shorter made enough whole = record {
  parts = parts;
  enough = omega arith;
  whole = ap (λ (xs : List ℕ). xs ++ visible_within breaks parts after) made
      ∙ append_assoc (text ++ text_shown breaks valid) (octal_text invalid) (visible_within breaks parts after)
      ∙ append_assoc text (text_shown breaks valid) (octal_text invalid ++ visible_within breaks parts after)
      ∙ ap (λ (xs : List ℕ). text ++ xs) (sym (part_of breaks o os valid invalid after parts split valid_len invalid_len))
      ∙ whole;
}

pub part_after : (breaks : LineBreaks) (octets left valid invalid after text new : List ℕ) → left ≡ valid ++ (invalid ++ after)
    → length valid ≡ utf8_valid_len left → length invalid ≡ utf8_invalid_len (drop (utf8_valid_len left) left) → length after < length left
    → new ≡ text ++ text_shown breaks valid ++ octal_text invalid → Left breaks octets left text → Left breaks octets after new
part_after breaks octets [] valid invalid after text new split valid_len invalid_len shorter made l = absurd (omega arith)
part_after breaks octets (o ∷ os) valid invalid after text new split valid_len invalid_len shorter made l =
    one_less breaks octets o os valid invalid after text new l.parts split valid_len invalid_len shorter made l.enough l.whole

take_nothing : (n : ℕ) → ◌≡◌ {A = List ℕ} (take n []) []
take_nothing zero = refl
take_nothing (suc n) = refl

-- a text in UTF-8 is one part
one_part : (breaks : LineBreaks) (o : ℕ) (os : List ℕ) → IsUtf8 (o ∷ os) → visible_within breaks (suc (length os)) (o ∷ os) ≡ text_shown breaks (o ∷ os)
one_part breaks o os utf8 =
    let n = utf8_valid_len (o ∷ os) in
    let all : length (o ∷ os) ≡ n = sym (utf8_valid_len-IsUtf8 (o ∷ os) utf8) in
    let whole : o ∷ os ≡ (o ∷ os) ++ [] = sym (append-nil (o ∷ os)) in
    let front : take n (o ∷ os) ≡ o ∷ os = ap (take n) whole ∙ take_at (o ∷ os) [] n all in
    let behind : drop n (o ∷ os) ≡ [] = ap (drop n) whole ∙ drop_at (o ∷ os) [] n all in
    let m = utf8_invalid_len (drop n (o ∷ os)) in
    let middle : take m (drop n (o ∷ os)) ≡ [] = ap (take m) behind ∙ take_nothing m in
    let back : after_first_chunk (o ∷ os) ≡ [] = nil_from_length _ (omega (arith, length-drop (n + m) (o ∷ os))) in
    (λ i. text_shown breaks (front i) ++ (octal_text (middle i) ++ visible_within breaks (length os) (back i)))
    ∙ ap (λ (xs : List ℕ). text_shown breaks (o ∷ os) ++ xs) (within_nothing breaks (length os))
    ∙ append-nil (text_shown breaks (o ∷ os))

pub text_is_visible : (breaks : LineBreaks) (octets : List ℕ) → IsUtf8 octets → visible_text breaks octets ≡ text_shown breaks octets
unfolding visible_text
text_is_visible breaks [] utf8 = rw chars-nil
text_is_visible breaks (o ∷ os) utf8 = one_part breaks o os utf8
