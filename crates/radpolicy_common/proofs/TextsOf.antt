-- Texts whose characters all pass a test.
use Rattle.std.proofs.Common.{◌≡◌, ◌∙◌, ℕ, Bool, true, List, [], ◌∷◌, ◌++◌, IsUtf8, sym, ap, append-nil}
use Rattle.std.specs.Char.{IsScalar, encode_utf8}
use Rattle.std.specs.List.{flat_map, list_all}
use Rattle.std.specs.Str.{IsAscii, all_scalars, chars}
use Rattle.std.proofs.lemmas.Bool.{and_parts}
use Rattle.std.proofs.lemmas.List.Folds.{list_all-append}
use Rattle.std.proofs.lemmas.Str.{IsUtf8-append, IsUtf8-encode, IsUtf8-from_ascii, IsUtf8-nil, chars-IsAscii, chars-append, chars-nil, chars_past_char}

pub record IsTextOf (test : ℕ → Bool) (text : List ℕ) : Type 0 where
  pub utf8 : IsUtf8 text
  pub passes : list_all test (chars text) ≡ true

pub text-nil : (test : ℕ → Bool) → IsTextOf test []
text-nil test = record { utf8 = IsUtf8-nil; passes = rw chars-nil }

pub text-append : (test : ℕ → Bool) (xs ys : List ℕ) → IsTextOf test xs → IsTextOf test ys → IsTextOf test (xs ++ ys)
text-append test xs ys a b = record {
  utf8 = IsUtf8-append xs ys a.utf8 b.utf8;
  passes = rw (chars-append xs ys a.utf8, list_all-append, a.passes, b.passes);
}

pub chars_of_one : (c : ℕ) → IsScalar c → chars (encode_utf8 c) ≡ c ∷ []
chars_of_one c scalar =
    chars_past_char (encode_utf8 c) [] c (IsUtf8-encode c scalar) (sym (append-nil (encode_utf8 c))) ∙ ap (λ cs. c ∷ cs) chars-nil

pub text-char : (test : ℕ → Bool) (c : ℕ) → IsScalar c → test c ≡ true → IsTextOf test (encode_utf8 c)
text-char test c scalar passes = record {
  utf8 = IsUtf8-encode c scalar;
  passes = rw (chars_of_one c scalar, passes);
}

pub text-ascii : (test : ℕ → Bool) (xs : List ℕ) → IsAscii xs → list_all test xs ≡ true → IsTextOf test xs
text-ascii test xs ascii passes = record {
  utf8 = IsUtf8-from_ascii xs ascii;
  passes = rw (chars-IsAscii xs ascii, passes);
}

pub text-flat_map : (test : ℕ → Bool) (f : ℕ → List ℕ) → ((c : ℕ) → IsScalar c → IsTextOf test (f c)) → (cs : List ℕ) → all_scalars cs ≡ true → IsTextOf test (flat_map f cs)
text-flat_map test f each [] scalars = text-nil test
text-flat_map test f each (c ∷ cs) scalars =
    let parts = and_parts _ _ scalars in
    text-append test (f c) (flat_map f cs) (each c parts.0) (text-flat_map test f each cs parts.1)
