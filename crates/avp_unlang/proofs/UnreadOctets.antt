-- What is left of texts, octet by octet.
use Rattle.std.proofs.Common.{◌≡◌, ◌≤◌, ◌<◌, ◌+◌, ◌-◌, ◌/◌, ◌%◌, ◌==◌, ◌++◌, ℕ, zero, suc, true, false, cond, IsTrue, List, [], ◌∷◌, drop, take, length, get_or, slice_get, slice_index, option_map, Some, None, refl, sym, ap, ap₂, subst, ◌∙◌, arith}
use Rattle.std.specs.Prelude.{◌≢◌}
use Rattle.std.proofs.lemmas.List.{take_all}
use Rattle.std.proofs.lemmas.Bool.Decides.{nat_tests}
use Rattle.std.specs.Option.{option_map_or}
use Rattle.hex.specs.Hex.{encode_with, lower_digits}
use Rattle.avp_dict.specs.Printing.{hexadecimal}
use Rattle.avp_forms.specs.Expansions.{AreFew, expanded}
use Rattle.avp_unlang.specs.Captures.{filled_part}
use Rattle.avp_unlang.specs.Resolutions.{part_text}
use Rattle.avp_unlang.specs.Truth.{part_printable}
use Rattle.avp_unlang.specs.declared.meaning.texts.Unread.{Unread}
use Rattle.avp_unlang.specs.declared.tree.Part.{Part}
use Rattle.avp_unlang.specs.internal.UnreadTexts.{Around, IsLegible, are_legible, digit_of, text_around, unread, without_zeros, zero_digit}
use Rattle.avp_unlang.proofs.Comparing.{and_left, and_right}

-- the octet at a place, and what is after it
pub taken : (os : List ℕ) (i : ℕ) → drop i os ≡ option_map_or (λ o. o ∷ drop (suc i) os) (slice_get os i) []
taken [] zero = refl
taken [] (suc i) = refl
taken (o ∷ os) zero = refl
taken (o ∷ os) (suc i) = taken os i

-- two digits for each octet, the high one first
pub digit_placed : (table os : List ℕ) (k : ℕ) → slice_get (encode_with table os) k ≡ option_map (λ o. slice_index table (cond (k % 2 == 0) (o / 16) (o % 16))) (slice_get os (k / 2))
unfolding encode_with
digit_placed table [] k = refl
digit_placed table (o ∷ os) zero = refl
digit_placed table (o ∷ os) (suc zero) = refl
digit_placed table (o ∷ os) (suc (suc k)) =
    let half : suc (suc k) / 2 ≡ suc (k / 2) = omega arith in
    let odd : suc (suc k) % 2 ≡ k % 2 = omega arith in
    rw (half, odd) (digit_placed table os k)

-- `0x` before them
pub hexadecimal_placed : (os : List ℕ) (at : ℕ) → 2 ≤ at → slice_get (hexadecimal os) at ≡ option_map (λ o. digit_of o at) (slice_get os ((at - 2) / 2))
hexadecimal_placed os zero h = absurd (omega (arith, h))
hexadecimal_placed os (suc zero) h = absurd (omega (arith, h))
hexadecimal_placed os (suc (suc k)) h =
    let odd : suc (suc k) % 2 ≡ k % 2 = omega arith in
    let place : suc (suc k) - 2 ≡ k = omega arith in
    rw (odd, place) (digit_placed lower_digits os k)

is_even : (n : ℕ) → n ≡ 0 → (n == 0) ≡ true
is_even n e = grind (arith, nat_tests)

is_odd : (n : ℕ) → n ≢ 0 → (n == 0) ≡ false
is_odd n e = grind (arith, nat_tests)

is_zero : (c : ℕ) → c ≡ 48 → (c == zero_digit) ≡ true
is_zero c e = grind (arith, nat_tests)

is_nonzero : (c : ℕ) → c ≢ 48 → (c == zero_digit) ≡ false
is_nonzero c e = grind (arith, nat_tests)

pub upper_digit : (octet at n : ℕ) → at % 2 ≡ 0 → n ≡ octet / 16 → slice_index lower_digits n ≡ digit_of octet at
upper_digit octet at n even is =
    ap (slice_index lower_digits) is ∙ sym (ap (λ b. slice_index lower_digits (cond b (octet / 16) (octet % 16))) (is_even (at % 2) even))

pub lower_digit : (octet at n : ℕ) → at % 2 ≢ 0 → n ≡ octet % 16 → slice_index lower_digits n ≡ digit_of octet at
lower_digit octet at n odd is =
    ap (slice_index lower_digits) is ∙ sym (ap (λ b. slice_index lower_digits (cond b (octet / 16) (octet % 16))) (is_odd (at % 2) odd))

pub taken_some : (os : List ℕ) (i o : ℕ) → Some o ≡ slice_get os i → drop i os ≡ o ∷ drop (i + 1) os
taken_some os i o e =
    let next : suc i ≡ i + 1 = omega arith in
    taken os i ∙ ap (λ x. option_map_or (λ y. y ∷ drop (suc i) os) x []) (sym e) ∙ ap (λ k. o ∷ drop k os) next

pub taken_none : (os : List ℕ) (i : ℕ) → None ≡ slice_get os i → drop i os ≡ []
taken_none os i e = taken os i ∙ ap (λ x. option_map_or (λ y. y ∷ drop (suc i) os) x []) (sym e)

-- ---- texts

-- the first of a list
pub front : {A : Type 0} (xs : List A) (x : A) → 1 ≤ length xs → x ≡ get_or xs 0 x → xs ≡ x ∷ take (length xs - 1) (drop 1 xs)
front [] x some is = absurd (omega arith)
front (y ∷ ys) x some is = ap (λ z. z ∷ ys) (sym is) ∙ ap (λ l. x ∷ l) (sym (take_all (length (y ∷ ys) - 1) ys (omega arith)))

-- the text of a part
abbrev pub text_of_part : Around → Part → List ℕ
text_of_part around part = part_text around.dictionary around.state (filled_part around.captures part)

module _ (around : Around) where
  pub first_legible : (first : Part) (rest : List Part) → IsTrue (are_legible around (first ∷ rest)) → IsTrue (part_printable around.dictionary around.state first)
  first_legible first rest h = and_left (part_printable around.dictionary around.state first) (are_legible around rest) h

  pub rest_legible : (first : Part) (rest : List Part) → IsTrue (are_legible around (first ∷ rest)) → IsTrue (are_legible around rest)
  rest_legible first rest h = and_right (part_printable around.dictionary around.state first) (are_legible around rest) h

  -- what is left after one octet of the part at hand
  pub read_on : (old new : Unread) (octet : ℕ) → drop old.at (expanded old.here) ≡ octet ∷ drop new.at (expanded new.here) → new.parts.now ≡ old.parts.now → unread around old ≡ octet ∷ unread around new
  read_on old new octet e same =
      ap (λ os. os ++ text_around around old.parts.now) e ∙ ap (λ (parts : List Part). (octet ∷ drop new.at (expanded new.here)) ++ text_around around parts) (sym same)

  -- nothing is left of the part at hand
  pub read_out : (text : Unread) (parts : List Part) → drop text.at (expanded text.here) ≡ [] → text.parts.now ≡ parts → unread around text ≡ text_around around parts
  read_out text parts e same = ap₂ (λ os (ps : List Part). os ++ text_around around ps) e same

  -- the next part
  pub next_part : (octets : List ℕ) (first : Part) (rest : List Part) → octets ≡ text_of_part around first → text_around around (first ∷ rest) ≡ octets ++ text_around around rest
  next_part octets first rest e = ap (λ os. os ++ text_around around rest) (sym e)

  pub still_legible : (old new : Unread) → IsLegible around old → AreFew new.here → new.parts.now ≡ old.parts.now → IsLegible around new
  still_legible old new legible few same = (few, subst (λ (ps : List Part). IsTrue (are_legible around ps)) (sym same) legible.1)

pub zero_left_out : (c : ℕ) (cs : List ℕ) → c ≡ 48 → without_zeros (c ∷ cs) ≡ without_zeros cs
unfolding without_zeros
zero_left_out c cs e = ap (λ b. cond b (without_zeros cs) (c ∷ cs)) (is_zero c e)

pub nonzero_kept : (c : ℕ) (cs : List ℕ) → c ≢ 48 → without_zeros (c ∷ cs) ≡ c ∷ cs
unfolding without_zeros
nonzero_kept c cs e = ap (λ b. cond b (without_zeros cs) (c ∷ cs)) (is_nonzero c e)

pub nothing_left_out : without_zeros [] ≡ []
unfolding without_zeros
nothing_left_out = refl

pub shorter : (xs ys : List ℕ) (c : ℕ) → xs ≡ c ∷ ys → length ys < length xs
shorter xs ys c e = let l = ap length e in omega (arith, l)
