-- What pairs of hexadecimal digits come to, and texts beside octets.
use Rattle.std.proofs.Common.{◌≡◌, ◌<◌, ◌+◌, ◌++◌, ◌*◌, ◌%◌, ◌==◌, ℕ, suc, Bool, true, false, not, cond, List, [], ◌∷◌, drop, length, Option, Some, None, Result, Ok, Err, is_some, refl, sym, ap, ap₂, ◌∙◌, arith}
use Rattle.std.specs.Option.{option_and_then, option_map, option_map_or, unwrap_or}
use Rattle.std.specs.Cmp.Lexicographic.{slice_cmp}
use Rattle.std.specs.Ordering.{nat_cmp}
use Rattle.std.specs.Prelude.{IfSome}
use Rattle.std.specs.Result.{result_ok}
use Rattle.std.specs.declared.cmp.Ordering.TheVariants.{Less}
use Rattle.hex.specs.Hex.{decode_of, decode_pairs, digit_or_error, hex_digit_value, ◌>>=◌}
use Rattle.hex.specs.declared.error.FromHexError.{FromHexError}
use Rattle.avp_dict.specs.Spellings.{bytes_spelled, octets_spelled}
use Rattle.avp_dict.specs.Words.{is_hexadecimal}
use Rattle.avp_unlang.proofs.Comparing.{and_right}
use Rattle.avp_forms.specs.Expansions.{expanded}
use Rattle.avp_unlang.specs.Texts.{octets_order}
use Rattle.avp_unlang.specs.declared.meaning.texts.Unread.{Unread}
use Rattle.avp_unlang.specs.declared.tree.Part.{Part}
use Rattle.avp_unlang.specs.internal.UnreadTexts.{Around, text_around, unread}
use Rattle.avp_unlang.specs.internal.SpelledOctets.{before, octet_spelled, octets_of_pairs}

-- ---- what is decoded

pair_before : (high low i : ℕ) (a b : Option ℕ) (r : Result (List ℕ) FromHexError)
    → result_ok ((digit_or_error high i a >>= (λ h. digit_or_error low (i + 1) b >>= (λ l. Ok (h * 16 + l)))) >>= (λ byte. r >>= (λ bytes. Ok (byte ∷ bytes))))
    ≡ before (option_and_then (λ h. option_map (λ l. h * 16 + l) b) a) (result_ok r)
pair_before high low i None b r = refl
pair_before high low i (Some h) None r = refl
pair_before high low i (Some h) (Some l) (Ok os) = refl
pair_before high low i (Some h) (Some l) (Err e) = refl

pairs_decoded : (i : ℕ) (text : List ℕ) → result_ok (decode_pairs i text) ≡ octets_of_pairs text
unfolding decode_pairs octets_of_pairs
pairs_decoded i [] = refl
pairs_decoded i (digit ∷ []) = refl
pairs_decoded i (high ∷ low ∷ rest) =
    pair_before high low i (hex_digit_value high) (hex_digit_value low) (decode_pairs (i + 2) rest)
    ∙ ap (before (octet_spelled high low)) (pairs_decoded (i + 2) rest)

before_nothing : (o : Option ℕ) → before o None ≡ None
before_nothing None = refl
before_nothing (Some o) = refl

even_less : (n : ℕ) → (suc (suc n) % 2 == 1) ≡ (n % 2 == 1)
even_less n = let odd : suc (suc n) % 2 ≡ n % 2 = omega arith in ap (λ k. k == 1) odd

odd_undecoded : (text : List ℕ) → (length text % 2 == 1) ≡ true → octets_of_pairs text ≡ None
unfolding octets_of_pairs
odd_undecoded [] h = cc
odd_undecoded (digit ∷ []) h = refl
odd_undecoded (high ∷ low ∷ rest) h =
    ap (before (octet_spelled high low)) (odd_undecoded rest (sym (even_less (length rest)) ∙ h)) ∙ before_nothing (octet_spelled high low)

decoded_by : (text : List ℕ) (odd : Bool) → (length text % 2 == 1) ≡ odd → result_ok (decode_of text) ≡ octets_of_pairs text
decoded_by text true h = rw h (sym (odd_undecoded text h))
decoded_by text false h = rw h (pairs_decoded 0 text)

-- ---- beside octets

pub plain_beside : (text : List ℕ) → is_hexadecimal text ≡ false → bytes_spelled true text ≡ Some text
unfolding bytes_spelled
plain_beside text h = rw h refl

pub digits_beside : (text : List ℕ) → is_hexadecimal text ≡ true → bytes_spelled true text ≡ octets_of_pairs (drop 2 text)
unfolding bytes_spelled octets_spelled
digits_beside text h =
    ap (λ b. cond (not b) (Some text) (cond b (result_ok (decode_of (drop 2 text))) None)) h
    ∙ decoded_by (drop 2 text) (length (drop 2 text) % 2 == 1) refl

-- ---- pair by pair

-- what one octet, or none, is before what is left
pub nothing_paired : (os left : List ℕ) (o : Option ℕ) → os ≡ option_map_or (λ c. c ∷ left) o [] → o ≡ None → octets_of_pairs os ≡ Some []
unfolding octets_of_pairs
nothing_paired os left o e none = ap octets_of_pairs (e ∙ ap (λ x. option_map_or (λ c. c ∷ left) x []) none)

pub lone_digit : (os rest left : List ℕ) (high : ℕ) (o : Option ℕ) → os ≡ high ∷ rest → rest ≡ option_map_or (λ c. c ∷ left) o [] → o ≡ None → octets_of_pairs os ≡ None
unfolding octets_of_pairs
lone_digit os rest left high o e f none = ap octets_of_pairs (e ∙ ap (λ x. high ∷ x) (f ∙ ap (λ x. option_map_or (λ c. c ∷ left) x []) none))

pub pair_taken : (os rest left : List ℕ) (high low : ℕ) → os ≡ high ∷ rest → rest ≡ low ∷ left → octets_of_pairs os ≡ before (octet_spelled high low) (octets_of_pairs left)
unfolding octets_of_pairs
pair_taken os rest left high low e f = ap octets_of_pairs (e ∙ ap (λ x. high ∷ x) f)

pub two_shorter : (os rest left : List ℕ) (high low : ℕ) → os ≡ high ∷ rest → rest ≡ low ∷ left → length left < length os
two_shorter os rest left high low e f =
    let l = ap length e in
    let m = ap length f in
    omega (arith, l, m)

-- ---- after `0x`

none_hexadecimal : (os : List ℕ) → os ≡ [] → is_hexadecimal os ≡ true → ⊥
none_hexadecimal os e h = never (sym (ap is_hexadecimal e) ∙ h) where
  never : false ≡ true → ⊥
  never x = cc

one_hexadecimal : (os : List ℕ) (c : ℕ) → os ≡ c ∷ [] → is_hexadecimal os ≡ true → ⊥
one_hexadecimal os c e h = never (and_right (c == 48) false (sym (ap is_hexadecimal e) ∙ h)) where
  never : false ≡ true → ⊥
  never x = cc

pub after_two : (os rest left : List ℕ) (a b : Option ℕ) → is_hexadecimal os ≡ true → os ≡ option_map_or (λ c. c ∷ rest) a [] → rest ≡ option_map_or (λ c. c ∷ left) b [] → left ≡ drop 2 os
after_two os rest left None b h e f = absurd (none_hexadecimal os e h)
after_two os rest left (Some c) None h e f = absurd (one_hexadecimal os c (e ∙ ap (λ x. c ∷ x) f) h)
after_two os rest left (Some c) (Some d) h e f = sym (ap (drop 2) (e ∙ ap (λ x. c ∷ x) f))

-- ---- whether there are pairs alone

pub pair_there : (o : Option ℕ) (left : Option (List ℕ)) → is_some o ≡ true → is_some (before o left) ≡ is_some left
pair_there None left h = cc
pair_there (Some o) None h = refl
pair_there (Some o) (Some os) h = refl

pub pair_missing : (o : Option ℕ) (left : Option (List ℕ)) → is_some o ≡ false → is_some (before o left) ≡ false
pair_missing None left h = refl
pair_missing (Some o) left h = cc

pub where_some : (o : Option ℕ) (P : Type 0) → P → IfSome o (λ _. P)
where_some None P h = tt
where_some (Some o) P h = h

pub of_some : (o : Option ℕ) (P : Type 0) → is_some o ≡ true → IfSome o (λ _. P) → P
of_some None P e h = absurd (never e) where
  never : false ≡ true → ⊥
  never x = cc
of_some (Some o) P e h = h

-- ---- octets compared with pairs

pub pairs_more : (old left : Option (List ℕ)) (o : ℕ) → old ≡ before (Some o) left → is_some old ≡ true → (is_some left ≡ true) × (unwrap_or old [] ≡ o ∷ unwrap_or left [])
pairs_more old None o e some = absurd (never (sym (ap is_some e) ∙ some)) where
  never : false ≡ true → ⊥
  never h = cc
pairs_more old (Some os) o e some = (refl, ap (λ x. unwrap_or x []) e)

pub no_pair : (old left : Option (List ℕ)) → old ≡ before None left → is_some old ≡ true → ⊥
no_pair old left e some = never (sym (ap is_some e) ∙ some) where
  never : false ≡ true → ⊥
  never h = cc

pub more_pairs : (old left : Option (List ℕ)) (o : Option ℕ) → old ≡ before o left → is_some old ≡ true → Less ≡ slice_cmp nat_cmp [] (unwrap_or old [])
more_pairs old left None e some = absurd (no_pair old left e some)
more_pairs old None (Some o) e some = absurd (never (sym (ap is_some e) ∙ some)) where
  never : false ≡ true → ⊥
  never h = cc
more_pairs old (Some os) (Some o) e some = sym (ap (λ x. slice_cmp nat_cmp [] (unwrap_or x [])) e)

-- ---- beside octets of one's own

pub no_order : (os : List ℕ) (o : Option (List ℕ)) → is_some o ≡ false → octets_order (Some os) o ≡ None
no_order os None h = refl
no_order os (Some beside) h = cc

pub some_order : (os : List ℕ) (o : Option (List ℕ)) → is_some o ≡ true → octets_order (Some os) o ≡ Some (slice_cmp nat_cmp os (unwrap_or o []))
some_order os None h = cc
some_order os (Some beside) h = refl

nothing_after : (os : List ℕ) → os ++ [] ≡ os
nothing_after [] = refl
nothing_after (o ∷ os) = ap (λ xs. o ∷ xs) (nothing_after os)

-- octets at hand alone
pub own_unread : (around : Around) (text : Unread) (os : List ℕ) → drop text.at (expanded text.here) ≡ os → text.parts.now ≡ [] → unread around text ≡ os
own_unread around text os e same = ap₂ (λ xs (ps : List Part). xs ++ text_around around ps) e same ∙ nothing_after os
