-- What is shown of octets is UTF-8, and visible.
use Rattle.std.proofs.Common.{◌≡◌, ◌∙◌, ℕ, ◌+◌, ◌/◌, ◌%◌, ◌<◌, ◌≤◌, true, false, if◌then◌else◌, List, [], ◌∷◌, ◌++◌, All, IsUtf8, sym, ap, refl, arith}
use Rattle.std.proofs.lemmas.Bool.{and_parts}
use Rattle.std.proofs.lemmas.Bool.Decides.{nat_tests}
use Rattle.std.proofs.lemmas.List.Elements.{All-cons, All-head, All-nil, All-tail}
use Rattle.std.proofs.lemmas.Str.{IsUtf8-past_char, chars-nil, chars_past_char}
use Rattle.std.proofs.lemmas.Str.Ascii.{IsAscii-cons, IsAscii-nil}
use Rattle.std.specs.Char.{IsScalar, encode_utf8}
use Rattle.std.specs.List.{flat_map, list_all}
use Rattle.std.specs.Str.{IsAscii, StartsWithNoChar, all_scalars, encode_utf8_all}
use Rattle.avp_dict.specs.Quotes.{octal_escape}
use Rattle.radpolicy_common.specs.declared.terminals.LineBreaks.{LineBreaks}
use Rattle.radpolicy_common.specs.declared.terminals.LineBreaks.TheVariants.{Escaped, Kept}
use Rattle.radpolicy_common.specs.VisibleText.{IsVisibleText, char_shown, is_visible, octal_text, text_shown}
use Rattle.radpolicy_common.specs.VisibleText.IsVisibleText.{nothing, character, octet}
use Rattle.radpolicy_common.proofs.TextsOf.{IsTextOf, text-append, text-ascii, text-char, text-nil}

abbrev pub Small : List ℕ → Type 0
Small octets = All (λ (o : ℕ). o < 256) octets

small_front : (xs ys : List ℕ) → Small (xs ++ ys) → Small xs
small_front [] ys small = All-nil (λ (o : ℕ). o < 256)
small_front (x ∷ xs) ys small =
    All-cons (λ (o : ℕ). o < 256) x xs (All-head (λ (o : ℕ). o < 256) x (xs ++ ys) small) (small_front xs ys (All-tail (λ (o : ℕ). o < 256) x (xs ++ ys) small))

small_back : (xs ys : List ℕ) → Small (xs ++ ys) → Small ys
small_back [] ys small = small
small_back (x ∷ xs) ys small = small_back xs ys (All-tail (λ (o : ℕ). o < 256) x (xs ++ ys) small)

-- ---- pieces

-- a number within the printed octets
within : (breaks : LineBreaks) (o : ℕ) → 32 ≤ o → o < 127 → is_visible breaks o ≡ true
within Escaped o low high = grind (arith, nat_tests)
within Kept o low high = grind (arith, nat_tests)

octal_is_visible : (breaks : LineBreaks) (o : ℕ) → o < 256 → list_all (is_visible breaks) (octal_escape o) ≡ true
octal_is_visible breaks o small =
    rw (within breaks 92 (omega arith) (omega arith), within breaks (48 + o / 64) (omega arith) (omega arith), within breaks (48 + o / 8 % 8) (omega arith) (omega arith), within breaks (48 + o % 8) (omega arith) (omega arith))

octal_is_ascii : (o : ℕ) → o < 256 → IsAscii (octal_escape o)
octal_is_ascii o small =
    let digits : List ℕ = (48 + o / 64) ∷ (48 + o / 8 % 8) ∷ (48 + o % 8) ∷ [] in
    let third = IsAscii-cons (48 + o % 8) [] (omega arith) IsAscii-nil in
    let second = IsAscii-cons (48 + o / 8 % 8) ((48 + o % 8) ∷ []) (omega arith) third in
    let first = IsAscii-cons (48 + o / 64) ((48 + o / 8 % 8) ∷ (48 + o % 8) ∷ []) (omega arith) second in
    IsAscii-cons 92 digits (omega arith) first

octal_is_text : (breaks : LineBreaks) (o : ℕ) → o < 256 → IsTextOf (is_visible breaks) (octal_escape o)
octal_is_text breaks o small =
    text-ascii (is_visible breaks) (octal_escape o) (octal_is_ascii o small) (octal_is_visible breaks o small)

octals_are_text : (breaks : LineBreaks) (os : List ℕ) → Small os → IsTextOf (is_visible breaks) (octal_text os)
octals_are_text breaks [] small = text-nil (is_visible breaks)
octals_are_text breaks (o ∷ os) small =
    text-append (is_visible breaks) (octal_escape o) (octal_text os) (octal_is_text breaks o (All-head (λ (o : ℕ). o < 256) o os small)) (octals_are_text breaks os (All-tail (λ (o : ℕ). o < 256) o os small))

char_is_text : (breaks : LineBreaks) (c : ℕ) → IsScalar c → Small (encode_utf8 c) → IsTextOf (is_visible breaks) (char_shown breaks c)
char_is_text breaks c scalar small =
    elim (is_visible breaks c) as (λ b. is_visible breaks c ≡ b → IsTextOf (is_visible breaks) (if b then encode_utf8 c else octal_text (encode_utf8 c))) [
      | true ↦ λ e. text-char (is_visible breaks) c scalar e
      | false ↦ λ e. octals_are_text breaks (encode_utf8 c) small
    ] refl

-- ---- laws

pub shown_is_text : (breaks : LineBreaks) (octets text : List ℕ) → IsVisibleText breaks octets text → Small octets → IsTextOf (is_visible breaks) text
shown_is_text breaks octets text nothing small = text-nil (is_visible breaks)
shown_is_text breaks octets text (character c os shown scalar later) small =
    text-append (is_visible breaks) (char_shown breaks c) shown (char_is_text breaks c scalar (small_front (encode_utf8 c) os small)) (shown_is_text breaks os shown later (small_back (encode_utf8 c) os small))
shown_is_text breaks octets text (octet o os shown none later) small =
    text-append (is_visible breaks) (octal_escape o) shown (octal_is_text breaks o (All-head (λ (o : ℕ). o < 256) o os small)) (shown_is_text breaks os shown later (All-tail (λ (o : ℕ). o < 256) o os small))

-- a text that is not empty begins with a character
begins : (cs : List ℕ) (o : ℕ) (os : List ℕ) → all_scalars cs ≡ true → encode_utf8_all cs ≡ o ∷ os → StartsWithNoChar (o ∷ os) → ⊥
begins [] o os scalars same none = cc
begins (c ∷ cs) o os scalars same none = none c (encode_utf8_all cs) (and_parts _ _ scalars).0 (sym same)

-- of a text in UTF-8, each character is shown
pub text_is_shown : (breaks : LineBreaks) (octets text : List ℕ) → IsVisibleText breaks octets text → IsUtf8 octets → text ≡ text_shown breaks octets
text_is_shown breaks octets text nothing utf8 = rw chars-nil
text_is_shown breaks octets text (character c os shown scalar later) utf8 =
    let rest = IsUtf8-past_char (encode_utf8 c ++ os) os c utf8 refl in
    ap (λ t. char_shown breaks c ++ t) (text_is_shown breaks os shown later rest)
    ∙ sym (ap (λ cs. flat_map (char_shown breaks) cs) (chars_past_char (encode_utf8 c ++ os) os c utf8 refl))
text_is_shown breaks octets text (octet o os shown none later) utf8 =
    absurd (begins utf8.0 o os utf8.1.0 utf8.1.1 none)
