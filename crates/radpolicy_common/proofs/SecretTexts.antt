-- The parts of a text `key=value`, and of one with several.
use Rattle.std.proofs.Common.{◌≡◌, ◌∙◌, ℕ, ◌+◌, Bool, true, false, ◌||◌, List, [], ◌∷◌, length, Option, Some, map, refl, sym, arith}
use Rattle.std.specs.List.{count_by, last_or, list_any, slice_split}
use Rattle.std.specs.Option.{option_map}
use Rattle.std.specs.Str.{IsTrimAsciiEnd}
use Rattle.std.proofs.lemmas.List.Splits.{length-slice_split}
use Rattle.std.proofs.lemmas.Str.Ascii.{trim_ascii_end_is}
use Rattle.radpolicy_common.specs.SecretAttributes.{before_last, is_equals_sign, is_secret_key, is_secret_text, without_blanks_behind}

pub trimmed : (text rest : List ℕ) → IsTrimAsciiEnd text rest → rest ≡ without_blanks_behind text
trimmed text rest trims = trim_ascii_end_is text rest trims

-- the last of values that are made one by one
pub last-map : {A B : Type 0} (v : A → B) (o : Option A) (xs : List A) → option_map v (last_or o xs) ≡ last_or (option_map v o) (map v xs)
last-map v o [] = refl
last-map v o (x ∷ xs) = last-map v (Some x) xs

-- ---- the keys, one after another

abbrev split : List ℕ → List (List ℕ)
split text = slice_split is_equals_sign text

before_more : (part : List ℕ) (parts : List (List ℕ)) (n : ℕ) → length parts ≡ n + 1 → before_last (part ∷ parts) ≡ part ∷ before_last parts
before_more part [] n some = grind (arith, some)
before_more part (next ∷ parts) n some = refl

-- each text has a part
before_cut : (part text : List ℕ) → before_last (part ∷ split text) ≡ part ∷ before_last (split text)
before_cut part text = before_more part (split text) (count_by is_equals_sign text) (length-slice_split is_equals_sign text)

next_key : (text part behind : List ℕ) → split text ≡ part ∷ split behind → is_secret_text text ≡ (is_secret_key part || is_secret_text behind)
unfolding is_secret_text
next_key text part behind cut = rw (cut, before_cut part behind) refl

pub key_here : (text part behind : List ℕ) → split text ≡ part ∷ split behind → is_secret_key part ≡ true → is_secret_text text ≡ true
key_here text part behind cut is = next_key text part behind cut ∙ rw (is) refl

pub key_behind : (text part behind : List ℕ) → split text ≡ part ∷ split behind → is_secret_key part ≡ false → is_secret_text behind ≡ is_secret_text text
key_behind text part behind cut not = sym (next_key text part behind cut ∙ rw (not) refl)

pub no_key : (text : List ℕ) → split text ≡ text ∷ [] → is_secret_text text ≡ false
unfolding is_secret_text
no_key text one = rw (one) refl
