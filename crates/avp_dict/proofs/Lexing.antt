-- Which tokens are at the front of a line.
use Rattle.std.proofs.Common.{◌≡◌, ℕ, suc, ◌+◌, ◌-◌, ◌<◌, ◌≤◌, Bool, true, false, not, cond, List, [], ◌∷◌, ◌++◌, length, get_or, take, drop, refl, append_assoc, ap, ◌∙◌, subst, arith, add-one, one-add, drop-cons, length-drop, ◌==◌, take-suc}
use Rattle.std.specs.List.{position_or_len}
use Rattle.std.proofs.lemmas.Grind.{common_steps}
use Rattle.std.proofs.lemmas.List.{append-nil, drop_all, take_all}
use Rattle.avp_dict.specs.declared.value.quotes.QuoteMark.{QuoteMark}
use Rattle.avp_dict.specs.declared.value.quotes.QuoteMark.TheVariants.{Double, Single}
use Rattle.avp_dict.specs.declared.request.tokens.Side.{Side}
use Rattle.avp_dict.specs.declared.request.tokens.Side.TheVariants.{Name, Value}
use Rattle.avp_dict.specs.RequestLines.{Place, Outside, Between, Escaped, Token, Comma, Sign, Run, Quoted, Unended, is_filled, onto_quoted, onto_run, place_between, quote_octet, tokens_at, tokens_from}
use Rattle.avp_dict.specs.Words.{is_blank}
use Rattle.avp_dict.specs.internal.RequestTokens.{ends_run}

-- ---- single octets

pub after_blank : (side : Side) (o : ℕ) (os : List ℕ) → is_blank o ≡ true → tokens_at side (o ∷ os) ≡ tokens_at side os
unfolding tokens_at tokens_from
after_blank side o os blank = grind (arith, common_steps)

pub at_hash : (side : Side) (os : List ℕ) → tokens_at side (35 ∷ os) ≡ []
unfolding tokens_at tokens_from
at_hash side os = refl

pub at_end : (side : Side) → tokens_at side [] ≡ []
unfolding tokens_at tokens_from
at_end side = refl

pub at_comma : (side : Side) (os : List ℕ) → tokens_at side (44 ∷ os) ≡ Comma ∷ tokens_at Name os
unfolding tokens_at tokens_from
at_comma side os = refl

pub at_sign : (os : List ℕ) → tokens_at Name (61 ∷ os) ≡ Sign ∷ tokens_at Value os
unfolding tokens_at tokens_from
at_sign os = refl

pub at_quote : (mark : QuoteMark) (side : Side) (os rest : List ℕ) (token : Token) → is_filled token ≡ true → tokens_from (Between mark) os ≡ token ∷ tokens_from (Outside Value) rest → tokens_at side (quote_octet mark ∷ os) ≡ token ∷ tokens_at Value rest
unfolding tokens_at tokens_from
at_quote Double side os rest token filled text = rw (text, filled)
at_quote Single side os rest token filled text = rw (text, filled)

pub at_unended : (mark : QuoteMark) (side : Side) (os : List ℕ) → tokens_from (Between mark) os ≡ Unended ∷ [] → tokens_at side (quote_octet mark ∷ os) ≡ Unended ∷ tokens_at Value []
unfolding tokens_at tokens_from
at_unended Double side os text = rw text
at_unended Single side os text = rw text

-- ---- quoted texts

pub rest_after : (n : ℕ) (octets : List ℕ) → take (length octets - n) (drop n octets) ≡ drop n octets
rest_after n octets = take_all (length octets - n) (drop n octets) (omega (arith, length-drop n octets))

-- what the octets from i on, at this place, say of the text that they belong to
pub record IsTextAt (mark : QuoteMark) (octets : List ℕ) (i : ℕ) (place : Place) : Type 0 where
  pub unended : tokens_from place (drop i octets) ≡ Unended ∷ [] → tokens_from (Between mark) octets ≡ Unended ∷ []
  pub ended : (more text : List ℕ) (tokens : List Token) → tokens_from place more ≡ Quoted mark text ∷ tokens → tokens_from (Between mark) (take i octets ++ more) ≡ Quoted mark (take i octets ++ text) ∷ tokens

text_goes_on : (mark : QuoteMark) (octets : List ℕ) (i : ℕ) (place next : Place) → i < length octets → ((rest : List ℕ) → tokens_from place (get_or octets i 0 ∷ rest) ≡ onto_quoted (get_or octets i 0) (tokens_from next rest)) → IsTextAt mark octets i place → IsTextAt mark octets (i + 1) next
text_goes_on mark octets i place next within step at =
    let opened : tokens_from place (drop i octets) ≡ onto_quoted (get_or octets i 0) (tokens_from next (drop (i + 1) octets)) = rw (add-one, drop-cons octets i 0 within) (step (drop (suc i) octets)) in
    let longer : take (i + 1) octets ≡ take i octets ++ (get_or octets i 0 ∷ []) = rw add-one (take-suc octets i 0 within) in
    record {
      unended = λ h. at.unended (opened ∙ ap (onto_quoted (get_or octets i 0)) h);
      ended = λ more text tokens h.
          rw (longer, append_assoc, append_assoc)
          (at.ended (get_or octets i 0 ∷ more) (get_or octets i 0 ∷ text) tokens (step more ∙ ap (onto_quoted (get_or octets i 0)) h));
    }

-- the place after a `\`, or after another octet of the text
abbrev pub place_when : QuoteMark → Bool → Place
place_when mark true = Escaped mark
place_when mark false = Between mark

place_after : (mark : QuoteMark) (o : ℕ) → place_between mark o ≡ place_when mark (o == 92)
place_after mark o = elim (o == 92) as (λ b. cond b (Escaped mark) (Between mark) ≡ place_when mark b) [ true ↦ refl | false ↦ refl ]

pub after_escaped : (mark : QuoteMark) (octets : List ℕ) (i : ℕ) → i < length octets → IsTextAt mark octets i (Escaped mark) → IsTextAt mark octets (i + 1) (Between mark)
unfolding tokens_from
after_escaped mark octets i within at = text_goes_on mark octets i (Escaped mark) (Between mark) within (λ rest. refl) at

pub after_octet : (mark : QuoteMark) (octets : List ℕ) (i : ℕ) → i < length octets → (get_or octets i 0 == quote_octet mark) ≡ false → IsTextAt mark octets i (Between mark) → IsTextAt mark octets (i + 1) (place_when mark (get_or octets i 0 == 92))
unfolding tokens_from
after_octet mark octets i within other at =
    text_goes_on mark octets i (Between mark) (place_when mark (get_or octets i 0 == 92)) within (λ rest. rw (other, place_after mark (get_or octets i 0))) at

pub text_ends : (mark : QuoteMark) (octets : List ℕ) (i : ℕ) → i < length octets → (get_or octets i 0 == quote_octet mark) ≡ true → IsTextAt mark octets i (Between mark) → (more : List ℕ) → tokens_from (Between mark) (take (i + 1) octets ++ more) ≡ Quoted mark (take i octets) ∷ tokens_from (Outside Value) more
unfolding tokens_from
text_ends mark octets i within quote at more =
    let P : List ℕ → Type 0 = λ text. tokens_from (Between mark) (take (i + 1) octets ++ more) ≡ Quoted mark text ∷ tokens_from (Outside Value) more in
    let longer : take (i + 1) octets ≡ take i octets ++ (get_or octets i 0 ∷ []) = rw add-one (take-suc octets i 0 within) in
    subst P (append-nil (take i octets)) (rw (longer, append_assoc) (at.ended (get_or octets i 0 ∷ more) [] (tokens_from (Outside Value) more) (rw quote refl)))

pub text_unended : (mark : QuoteMark) (octets : List ℕ) (i : ℕ) (is_escaped : Bool) → length octets ≤ i → IsTextAt mark octets i (place_when mark is_escaped) → tokens_from (Between mark) octets ≡ Unended ∷ []
unfolding tokens_from
text_unended mark octets i true past at = at.unended (rw (drop_all i octets past))
text_unended mark octets i false past at = at.unended (rw (drop_all i octets past))

-- ---- runs

abbrev pub is_text_token : Token → Bool
is_text_token (Quoted mark text) = true
is_text_token Unended = true
is_text_token _ = false

abbrev pub begins_text : List Token → Bool
begins_text [] = false
begins_text (token ∷ tokens) = is_text_token token

onto_text : (o : ℕ) (tokens : List Token) → begins_text tokens ≡ true → begins_text (onto_quoted o tokens) ≡ true
onto_text o (Quoted mark text ∷ tokens) h = refl
onto_text o (Unended ∷ tokens) h = refl
onto_text o _ h = h

pub text_first : (mark : QuoteMark) (is_escaped : Bool) (os : List ℕ) → begins_text (tokens_from (place_when mark is_escaped) os) ≡ true
unfolding tokens_from
text_first mark true [] = refl
text_first mark false [] = refl
text_first mark true (o ∷ os) = onto_text o (tokens_from (Between mark) os) (text_first mark false os)
text_first mark false (o ∷ os) =
    elim (o == quote_octet mark) as (λ b. begins_text (cond b (Quoted mark [] ∷ tokens_from (Outside Value) os) (onto_quoted o (tokens_from (place_between mark o) os))) ≡ true) [
      | true ↦ refl
      | false ↦ rw (place_after mark o) (onto_text o (tokens_from (place_when mark (o == 92)) os) (text_first mark (o == 92) os))
    ]

-- a run ends before a quoted text
run_before_text : (o : ℕ) (tokens : List Token) → begins_text tokens ≡ true → onto_run o tokens ≡ Run (o ∷ []) ∷ tokens
run_before_text o (Run os ∷ tokens) h = cc
run_before_text o _ h = refl

-- a run ends before an octet that ends it
pub run_stops : (side : Side) (o x : ℕ) (xs : List ℕ) → ends_run side x ≡ true → onto_run o (tokens_from (Outside side) (x ∷ xs)) ≡ Run (o ∷ []) ∷ tokens_from (Outside side) (x ∷ xs)
unfolding tokens_from
run_stops side o x xs ends =
    let double = run_before_text o (tokens_from (Between Double) xs) (text_first Double false xs) in
    let single = run_before_text o (tokens_from (Between Single) xs) (text_first Single false xs) in
    grind (arith, common_steps, double, single)

pub run_octet : (side : Side) (o : ℕ) (os : List ℕ) → ends_run side o ≡ false → tokens_from (Outside side) (o ∷ os) ≡ onto_run o (tokens_from (Outside side) os)
unfolding tokens_from
run_octet side o os inside = grind (arith, common_steps)

abbrev pub run_length : Side → List ℕ → ℕ
run_length side os = position_or_len (ends_run side) os

run_goes_on : (side : Side) (o x : ℕ) (xs : List ℕ) (b : Bool) → ends_run side x ≡ b → (b ≡ false → tokens_from (Outside side) (x ∷ xs) ≡ Run (x ∷ take (run_length side xs) xs) ∷ tokens_from (Outside side) (drop (run_length side xs) xs)) → onto_run o (tokens_from (Outside side) (x ∷ xs)) ≡ Run (o ∷ take (cond (not b) (1 + run_length side xs) 0) (x ∷ xs)) ∷ tokens_from (Outside side) (drop (cond (not b) (1 + run_length side xs) 0) (x ∷ xs))
run_goes_on side o x xs true e rest = run_stops side o x xs e
run_goes_on side o x xs false e rest = rw (one-add, rest refl)

run_from : (side : Side) (o : ℕ) (os : List ℕ) → ends_run side o ≡ false → tokens_from (Outside side) (o ∷ os) ≡ Run (o ∷ take (run_length side os) os) ∷ tokens_from (Outside side) (drop (run_length side os) os)
unfolding tokens_from
run_from side o [] inside = run_octet side o [] inside
run_from side o (x ∷ xs) inside = run_octet side o (x ∷ xs) inside ∙ run_goes_on side o x xs (ends_run side x) refl (run_from side x xs)

-- a line that begins with an octet of a run begins with the run
pub at_run : (side : Side) (o : ℕ) (os : List ℕ) → ends_run side o ≡ false → tokens_at side (o ∷ os) ≡ Run (take (run_length side (o ∷ os)) (o ∷ os)) ∷ tokens_at side (drop (run_length side (o ∷ os)) (o ∷ os))
unfolding tokens_at
at_run side o os inside = rw (run_from side o os inside, inside, one-add)

pub ruleset lexing = (at_end, at_hash, at_comma, at_sign, at_run)
