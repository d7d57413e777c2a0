-- Plain octets are shown as they are.
use Rattle.std.proofs.Common.{◌≡◌, ◌∙◌, ℕ, ◌<◌, true, nat_lt, List, [], ◌∷◌, ◌++◌, IsUtf8, subst, sym, arith}
use Rattle.std.proofs.lemmas.Bool.{and_parts}
use Rattle.std.proofs.lemmas.Bool.Decides.{nat_tests}
use Rattle.std.proofs.lemmas.List.Elements.{All-cons, All-nil}
use Rattle.std.proofs.lemmas.Str.{encode_ascii}
use Rattle.std.specs.Char.{IsScalar, encode_utf8}
use Rattle.std.specs.List.{list_all}
use Rattle.radpolicy_common.specs.declared.terminals.LineBreaks.{LineBreaks}
use Rattle.radpolicy_common.specs.VisibleText.{IsVisibleText, all_visible, char_shown, is_visible, text_shown, visible_text}
use Rattle.radpolicy_common.specs.VisibleText.IsVisibleText.{nothing, character}
use Rattle.radpolicy_common.specs.internal.PlainText.{is_plain}
use Rattle.radpolicy_common.proofs.Visibility.{Small, shown_is_text, text_is_shown}
use Rattle.radpolicy_common.proofs.VisibleParts.{text_is_visible}

below : (o : ℕ) → nat_lt o 128 ≡ true → o < 128
below o e = grind (arith, nat_tests)

scalar_below : (o : ℕ) → o < 128 → IsScalar o
scalar_below o low = grind (arith, nat_tests)

pub plain_is_shown : (breaks : LineBreaks) (octets : List ℕ) → list_all (is_plain breaks) octets ≡ true → IsVisibleText breaks octets octets
plain_is_shown breaks [] plain = nothing
plain_is_shown breaks (o ∷ os) plain =
    let parts = and_parts _ _ plain in
    let one = and_parts (nat_lt o 128) (is_visible breaks o) parts.0 in
    let low = below o one.0 in
    let first : encode_utf8 o ≡ o ∷ [] = encode_ascii o low in
    let shown : char_shown breaks o ≡ o ∷ [] = rw (one.1, first) in
    let rest = plain_is_shown breaks os parts.1 in
    let whole = character o os os (scalar_below o low) rest in
    subst (λ (xs : List ℕ). IsVisibleText breaks (o ∷ os) (xs ++ os)) shown (subst (λ (xs : List ℕ). IsVisibleText breaks (xs ++ os) (char_shown breaks o ++ os)) first whole)

plain_are_small : (breaks : LineBreaks) (octets : List ℕ) → list_all (is_plain breaks) octets ≡ true → Small octets
plain_are_small breaks [] plain = All-nil (λ (o : ℕ). o < 256)
plain_are_small breaks (o ∷ os) plain =
    let parts = and_parts _ _ plain in
    let low = below o (and_parts (nat_lt o 128) (is_visible breaks o) parts.0).0 in
    All-cons (λ (o : ℕ). o < 256) o os (omega arith) (plain_are_small breaks os parts.1)

pub plain_is_utf8 : (breaks : LineBreaks) (octets : List ℕ) → list_all (is_plain breaks) octets ≡ true → IsUtf8 octets
plain_is_utf8 breaks octets plain = (shown_is_text breaks octets octets (plain_is_shown breaks octets plain) (plain_are_small breaks octets plain)).utf8

pub plain_is_visible : (breaks : LineBreaks) (octets : List ℕ) → list_all (is_plain breaks) octets ≡ true → all_visible breaks octets ≡ true
plain_is_visible breaks octets plain = (shown_is_text breaks octets octets (plain_is_shown breaks octets plain) (plain_are_small breaks octets plain)).passes

pub plain_is_text : (breaks : LineBreaks) (octets : List ℕ) → list_all (is_plain breaks) octets ≡ true → octets ≡ text_shown breaks octets
plain_is_text breaks octets plain = text_is_shown breaks octets octets (plain_is_shown breaks octets plain) (plain_is_utf8 breaks octets plain)

pub plain_is_parts : (breaks : LineBreaks) (octets : List ℕ) → list_all (is_plain breaks) octets ≡ true → octets ≡ visible_text breaks octets
plain_is_parts breaks octets plain = plain_is_text breaks octets plain ∙ sym (text_is_visible breaks octets (plain_is_utf8 breaks octets plain))
