-- Printed prefixes are read back.
use Rattle.std.proofs.Common.{◌≡◌, ◌∙◌, ℕ, zero, suc, ◌<◌, ◌≤◌, true, false, leb, ◌==◌, List, [], ◌∷◌, ◌++◌, drop, take, length, Option, Some, decimal, refl, ap, arith, inl, inr, le-leb}
use Rattle.std.specs.List.{All, slice_split}
use Rattle.std.specs.Str.{bytes_eq}
use Rattle.std.specs.Net.Addr.{octets_of, segments_of}
use Rattle.std.specs.Net.Text.{hex_groups_text, ipv4_text, ipv6_text}
use Rattle.std.proofs.lemmas.Bool.{and_parts, cond_both}
use Rattle.std.proofs.lemmas.Fmt.{length-decimal-le}
use Rattle.std.proofs.lemmas.List.Elements.{All-append, All-cons, All-nil, All-weaker}
use Rattle.std.proofs.lemmas.List.Splits.{slice_split_at, slice_split_none}
use Rattle.std.proofs.NetLemmas.Alphabet.{All-hex_groups_text, All-ipv4_text, IsDigitOrDot, IsHexOrColon}
use Rattle.std.proofs.NetLemmas.Texts.{AllSegments, AllSegments-drop, IsDotted-ipv4_text}
use Rattle.avp_dict.proofs.Numerals.{decimal_numeral, digits_numeral, numeral_without}
use Rattle.avp_forms.specs.Ipv6Addresses.{ipv6_address_text, ipv6_spelled}
use Rattle.avp_forms.specs.Numerals.{number_within}
use Rattle.avp_forms.specs.Prefixes.{ipv4_prefix_spelled, ipv4_prefix_text, ipv4_spelled, ipv6_prefix_spelled, ipv6_prefix_text, is_slash, masked, prefix_of}
use Rattle.avp_forms.proofs.AddressLaws.{address_back}
use Rattle.avp_forms.proofs.AddressTexts.{whole_ipv4}
use Rattle.avp_forms.proofs.Segments.{AreOctets, segments_fit}

abbrev Plain : ℕ → Type 0
Plain c = is_slash c ≡ false

-- ---- no slash in an address

plain_dotted : (c : ℕ) → IsDigitOrDot c → Plain c
plain_dotted c (inl h) = grind (arith, h)
plain_dotted c (inr h) = grind (arith, h)

plain_hex : (c : ℕ) → IsHexOrColon c → Plain c
plain_hex c (inl h) = grind (arith, h)
plain_hex c (inr h) = grind (arith, h)

octets_fit : (xs : List ℕ) → AllSegments xs → AreOctets (octets_of xs)
octets_fit [] h i = omega arith
octets_fit (x ∷ xs) h zero = let fits = h 0 in omega arith
octets_fit (x ∷ xs) h (suc zero) = omega arith
octets_fit (x ∷ xs) h (suc (suc i)) = octets_fit xs (λ j. h (suc j)) i

plain_ipv4 : (os : List ℕ) → AreOctets os → All Plain (ipv4_text os)
plain_ipv4 os h = All-weaker IsDigitOrDot Plain plain_dotted (ipv4_text os) (All-ipv4_text os h)

plain_mark : All Plain (58 ∷ 58 ∷ 102 ∷ 102 ∷ 102 ∷ 102 ∷ 58 ∷ [])
plain_mark = All-cons Plain 58 (58 ∷ 102 ∷ 102 ∷ 102 ∷ 102 ∷ 58 ∷ []) refl (All-cons Plain 58 (102 ∷ 102 ∷ 102 ∷ 102 ∷ 58 ∷ []) refl (All-cons Plain 102 (102 ∷ 102 ∷ 102 ∷ 58 ∷ []) refl (All-cons Plain 102 (102 ∷ 102 ∷ 58 ∷ []) refl (All-cons Plain 102 (102 ∷ 58 ∷ []) refl (All-cons Plain 102 (58 ∷ []) refl (All-cons Plain 58 ([]) refl (All-nil Plain)))))))

plain_ipv6 : (xs : List ℕ) → AllSegments xs → All Plain (ipv6_text xs)
unfolding ipv6_text
plain_ipv6 xs h =
    let mark : List ℕ = 58 ∷ 58 ∷ 102 ∷ 102 ∷ 102 ∷ 102 ∷ 58 ∷ [] in
    let dotted = ipv4_text (octets_of (drop 6 xs)) in
    cond_both (bytes_eq (take 6 xs) (0 ∷ 0 ∷ 0 ∷ 0 ∷ 0 ∷ 65535 ∷ [])) (mark ++ dotted) (hex_groups_text xs) (λ (text : List ℕ). All Plain text)
    (λ _. All-append Plain mark dotted plain_mark (plain_ipv4 (octets_of (drop 6 xs)) (octets_fit (drop 6 xs) (AllSegments-drop 6 xs h))))
    (λ _. All-weaker IsHexOrColon Plain plain_hex (hex_groups_text xs) (All-hex_groups_text xs h))

-- ---- an address, a slash and a length

length_back : (most n : ℕ) → n ≤ most → most < 1000 → number_within 10 most (decimal n) ≡ Some n
unfolding number_within
length_back most n h low =
    let numeral = decimal_numeral n (omega arith) in
    rw (digits_numeral n (decimal n) numeral, le-leb n most h)

prefix_back : (address : List ℕ → Option (List ℕ)) (most n : ℕ) (text os : List ℕ) → All Plain text → address text ≡ Some os → n ≤ most → most < 1000 → masked n os ≡ os → prefix_of address most (slice_split is_slash (text ++ (47 ∷ decimal n))) ≡ Some (os, n)
prefix_back address most n text os plain there h low own =
    let last = slice_split_none is_slash (decimal n) (numeral_without 47 n (decimal n) (omega arith) (decimal_numeral n (omega arith))) in
    let parts = slice_split_at is_slash text 47 (decimal n) plain refl in
    rw (parts, last, there, length_back most n h low, own)

pub ipv6_prefix_back : (os : List ℕ) (n : ℕ) → length os ≡ 16 → AreOctets os → n ≤ 128 → masked n os ≡ os → ipv6_prefix_spelled (ipv6_prefix_text os n) ≡ Some (os, n)
unfolding ipv6_prefix_spelled ipv6_prefix_text ipv6_address_text
ipv6_prefix_back os n e h low own =
    let there : ipv6_spelled (ipv6_text (segments_of os)) ≡ Some os = unfold ipv6_address_text in address_back os e h in
    prefix_back ipv6_spelled 128 n (ipv6_text (segments_of os)) os (plain_ipv6 (segments_of os) (segments_fit 8 os e h)) there low (omega arith) own

ipv4_back : (os : List ℕ) → length os ≡ 4 → AreOctets os → ipv4_spelled (ipv4_text os) ≡ Some os
unfolding ipv4_spelled
ipv4_back os e h = whole_ipv4 (ipv4_text os) os (IsDotted-ipv4_text os e h)

pub ipv4_prefix_back : (os : List ℕ) (n : ℕ) → length os ≡ 4 → AreOctets os → n ≤ 32 → masked n os ≡ os → ipv4_prefix_spelled (ipv4_prefix_text os n) ≡ Some (os, n)
unfolding ipv4_prefix_spelled ipv4_prefix_text
ipv4_prefix_back os n e h low own =
    prefix_back ipv4_spelled 32 n (ipv4_text os) os (plain_ipv4 os h) (ipv4_back os e h) low (omega arith) own

-- ---- equal octets

pub same_octets : (xs ys : List ℕ) → bytes_eq xs ys ≡ true → xs ≡ ys
same_octets [] [] h = refl
same_octets [] (y ∷ ys) h = absurd (cc)
same_octets (x ∷ xs) [] h = absurd (cc)
same_octets (x ∷ xs) (y ∷ ys) h =
    let parts = and_parts (x == y) (bytes_eq xs ys) h in
    let first : x ≡ y = grind (arith, parts.0) in
    ap (λ (z : ℕ). z ∷ xs) first ∙ ap (λ (zs : List ℕ). y ∷ zs) (same_octets xs ys parts.1)
