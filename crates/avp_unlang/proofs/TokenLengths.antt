-- What is left after tokens is no longer than the text.
use Rattle.std.proofs.Common.{◌≡◌, ◌≤◌, ℕ, zero, suc, ◌+◌, Bool, true, false, List, [], ◌∷◌, length, drop, take, Option, Some, None, refl, subst, arith, length-drop}
use Rattle.std.specs.Prelude.{cond, option_map, ◌==◌, ◌||◌}
use Rattle.avp_dict.specs.Ascii.{slash, space, tab}
use Rattle.avp_dict.specs.declared.value.quotes.QuoteMark.{QuoteMark}
use Rattle.avp_forms.specs.declared.profiles.Profile.{Profile}
use Rattle.avp_forms.specs.declared.profiles.Profile.TheVariants.{Plain, Wider}
use Rattle.avp_patterns.specs.declared.flags.PatternFlags.{PatternFlags}
use Rattle.avp_unlang.specs.Faults.{from_token_after}
use Rattle.avp_unlang.specs.Tokens.{after_blanks, double_at, flagged_at, flags_named, match_named, match_sign, operator_at, passed, pattern_at, quote_of, quoted_at, quoted_length, sign_named, skipped, slashed_at, text_at, token_at, token_in, word_at, word_length}
use Rattle.avp_unlang.specs.declared.text.tokens.Sign.{Sign}
use Rattle.avp_unlang.specs.declared.text.tokens.Token.{Token}
use Rattle.avp_unlang.specs.declared.text.tokens.Token.TheVariants.{Matching, Operator, Unreadable}

dropped : {A : Type 0} (n : ℕ) (text : List A) → length (drop n text) ≤ length text
dropped n text = omega (arith, length-drop n text)

skipped_within : (text : List ℕ) (line : ℕ) (comment : Bool) → length (skipped line comment text).1 ≤ length text
skipped_within [] line comment = omega arith
skipped_within (c ∷ cs) line comment = of (λ n goes_on. skipped_within cs n goes_on) (passed line comment c) where
  of : ((n : ℕ) (goes_on : Bool) → length (skipped n goes_on cs).1 ≤ length cs) → (o : Option (ℕ × Bool)) → length (elim o as (λ _. ℕ × List ℕ) [ None ↦ (line, c ∷ cs) | Some p ↦ skipped p.0 p.1 cs ]).1 ≤ suc (length cs)
  of within None = omega arith
  of within (Some p) = let more = within p.0 p.1 in omega (arith, more)

-- ---- tokens

word_within : (text : List ℕ) (n : ℕ) → length (word_at text n).1 ≤ length text
word_within text zero = omega arith
word_within text (suc n) = dropped (suc n) text

quoted_within : (q : QuoteMark) (text : List ℕ) (o : Option ℕ) → length (quoted_at q text o).1 ≤ length text
quoted_within q text None = omega arith
quoted_within q text (Some n) = dropped (n + 1) text

text_within : (text : List ℕ) → length (text_at text).1 ≤ length text
unfolding text_at
text_within [] = omega arith
text_within (c ∷ cs) = of (quote_of c) where
  of : (o : Option QuoteMark) → length (elim o as (λ _. Token × List ℕ) [ None ↦ word_at (c ∷ cs) (word_length (c ∷ cs)) | Some q ↦ quoted_at q cs (quoted_length c false cs) ]).1 ≤ suc (length cs)
  of None = word_within (c ∷ cs) (word_length (c ∷ cs))
  of (Some q) = let more = quoted_within q cs (quoted_length c false cs) in omega (arith, more)

mapped_within : {A : Type 0} (o : Option A) (cs : List ℕ) (text : List ℕ) → length cs ≤ length text → (found : A × List ℕ) → option_map (λ s. (s, cs)) o ≡ Some found → length found.1 ≤ length text
mapped_within None cs text h found e = absurd cc
mapped_within (Some s) cs text h found e = subst (λ (k : List ℕ). length k ≤ length text) (second e) h where
  second : Some (s, cs) ≡ Some found → cs ≡ found.1
  second e = cc

double_within : (a : ℕ) (cs : List ℕ) (found : Sign × List ℕ) → double_at a cs ≡ Some found → length found.1 ≤ length cs
double_within a [] found e = absurd cc
double_within a (b ∷ cs) found e = mapped_within (sign_named (a ∷ b ∷ [])) cs (b ∷ cs) (omega arith) found e

operator_within : (text : List ℕ) (found : Sign × List ℕ) → operator_at text ≡ Some found → length found.1 ≤ length text
unfolding operator_at
operator_within [] found e = absurd cc
operator_within (c ∷ cs) found e = of (double_at c cs) (double_within c cs) e where
  of : (o : Option (Sign × List ℕ)) → ((x : Sign × List ℕ) → o ≡ Some x → length x.1 ≤ length cs)
      → elim o as (λ _. Option (Sign × List ℕ)) [ None ↦ option_map (λ s. (s, cs)) (sign_named (c ∷ [])) | Some x ↦ Some x ] ≡ Some found → length found.1 ≤ suc (length cs)
  of None within h = mapped_within (sign_named (c ∷ [])) cs (c ∷ cs) (omega arith) found h
  of (Some x) within h = let more = within x refl in let same : x ≡ found = cc in omega (arith, subst (λ (k : Sign × List ℕ). length k.1 ≤ length cs) same more)

plain_within : (text : List ℕ) → length (token_at text).1 ≤ length text
unfolding token_at
plain_within text = of (operator_at text) (operator_within text) where
  of : (o : Option (Sign × List ℕ)) → ((x : Sign × List ℕ) → o ≡ Some x → length x.1 ≤ length text) → length (elim o as (λ _. Token × List ℕ) [ None ↦ text_at text | Some found ↦ (Operator found.0, found.1) ]).1 ≤ length text
  of None within = text_within text
  of (Some x) within = within x refl

-- ---- comparisons with a pattern

blanks_within : (text : List ℕ) → length (after_blanks text) ≤ length text
blanks_within [] = omega arith
blanks_within (c ∷ cs) = of (blanks_within cs) (c == space || c == tab) where
  of : length (after_blanks cs) ≤ length cs → (b : Bool) → length (cond b (after_blanks cs) (c ∷ cs)) ≤ suc (length cs)
  of more true = omega (arith, more)
  of more false = omega arith

flagged_within : (negated : Bool) (pattern text : List ℕ) → length (flagged_at negated pattern text).1 ≤ length text
flagged_within negated pattern text = of (flags_named (take (word_length text) text)) where
  of : (o : Option PatternFlags) → length (elim o as (λ _. Token × List ℕ) [
    | None ↦ (Unreadable, [])
    | Some flags ↦ (Matching (record { negated = negated; pattern = pattern; flags = flags }), drop (word_length text) text)
  ]).1 ≤ length text
  of None = omega arith
  of (Some flags) = dropped (word_length text) text

slashed_within : (negated : Bool) (text : List ℕ) (o : Option ℕ) → length (slashed_at negated text o).1 ≤ length text
slashed_within negated text None = omega arith
slashed_within negated text (Some n) =
    let first = flagged_within negated (take n text) (drop (n + 1) text) in let then = dropped (n + 1) text in omega (arith, first, then)

pattern_within : (negated : Bool) (text : List ℕ) → length (pattern_at negated text).1 ≤ length text
pattern_within negated [] = omega arith
pattern_within negated (c ∷ cs) = of (c == slash) where
  of : (b : Bool) → length (cond b (slashed_at negated cs (quoted_length slash false cs)) (Unreadable, [])).1 ≤ suc (length cs)
  of true = let more = slashed_within negated cs (quoted_length slash false cs) in omega (arith, more)
  of false = omega arith

sign_within : (text : List ℕ) (found : Bool × List ℕ) → match_sign text ≡ Some found → length found.1 ≤ length text
sign_within [] found e = absurd cc
sign_within (a ∷ []) found e = absurd cc
sign_within (a ∷ b ∷ cs) found e = mapped_within (match_named (a ∷ b ∷ [])) cs (a ∷ b ∷ cs) (omega arith) found e

token_within : (profile : Profile) (text : List ℕ) → length (token_in profile text).1 ≤ length text
unfolding token_in
token_within Plain text = plain_within text
token_within Wider text = of (match_sign text) (sign_within text) where
  of : (o : Option (Bool × List ℕ)) → ((x : Bool × List ℕ) → o ≡ Some x → length x.1 ≤ length text)
      → length (elim o as (λ _. Token × List ℕ) [ None ↦ token_at text | Some found ↦ pattern_at found.0 (after_blanks found.1) ]).1 ≤ length text
  of None within = plain_within text
  of (Some x) within =
      let first = pattern_within x.0 (after_blanks x.1) in let blanks = blanks_within x.1 in let sign = within x refl in omega (arith, first, blanks, sign)

-- the tokens of a text are within it
pub after_within : (profile : Profile) (n : ℕ) (text : List ℕ) → length (from_token_after profile n text) ≤ length text
after_within profile zero text = skipped_within text 1 false
after_within profile (suc n) text =
    let front = from_token_after profile n text in
    let before = after_within profile n text in
    let token = token_within profile front in
    let more = skipped_within (token_in profile front).1 1 false in
    omega (arith, before, token, more)
