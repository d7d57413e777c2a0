-- A line without a token holds no more than blanks and a comment.
use Rattle.std.proofs.Common.{◌≡◌, ◌∙◌, ℕ, Bool, true, false, cond, filter, List, [], ◌∷◌, refl, sym, ap, subst, arith}
use Rattle.std.proofs.lemmas.Grind.{common_steps}
use Rattle.avp_dict.specs.RefusedPlaces.{IsRefusedAfter, is_run, no_name, second_packet}
use Rattle.avp_dict.specs.RequestLines.{Between, Outside, Token, Run, Quoted, Unended, is_blank_line, is_filled, is_idle_line, onto_run, tokens_at, tokens_from, without_front}
use Rattle.avp_dict.specs.Words.{is_blank, is_hash}
use Rattle.avp_dict.specs.declared.request.faults.LineKind.TheVariants.{SecondPacket, Unreadable}
use Rattle.avp_dict.specs.declared.request.tokens.Side.TheVariants.{Name}
use Rattle.avp_dict.specs.declared.value.quotes.QuoteMark.TheVariants.{Double, Single}
use Rattle.avp_dict.proofs.Lexing.{after_blank, begins_text, text_first}
use Rattle.avp_dict.proofs.RefusedLines.{none_before, one_before}

abbrev begins_filled : List Token → Bool
begins_filled [] = false
begins_filled (token ∷ tokens) = is_filled token

run_filled : (o : ℕ) (tokens : List Token) → begins_filled (onto_run o tokens) ≡ true
run_filled o (Run os ∷ tokens) = refl
run_filled o _ = refl

text_filled : (tokens : List Token) → begins_text tokens ≡ true → begins_filled tokens ≡ true
text_filled (Quoted mark text ∷ tokens) h = refl
text_filled (Unended ∷ tokens) h = refl
text_filled _ h = absurd (cc)

octet_filled : (o : ℕ) (os : List ℕ) → is_hash o ≡ false → is_blank o ≡ false → begins_filled (tokens_from (Outside Name) (o ∷ os)) ≡ true
unfolding tokens_from
octet_filled o os hash blank =
    let double = text_filled (tokens_from (Between Double) os) (text_first Double false os) in
    let single = text_filled (tokens_from (Between Single) os) (text_first Single false os) in
    let run = run_filled o (tokens_from (Outside Name) os) in
    grind (arith, common_steps, double, single, run)

some_filled : (tokens : List Token) → begins_filled tokens ≡ true → filter is_filled tokens ≡ [] → ⊥
some_filled [] h none = absurd (cc)
some_filled (token ∷ tokens) h none = go (is_filled token) h none
  where
    go : (b : Bool) → b ≡ true → cond b (token ∷ filter is_filled tokens) (filter is_filled tokens) ≡ [] → ⊥
    go true is e = absurd (cc)
    go false is e = absurd (cc)

pub no_token : (line : List ℕ) → tokens_at Name line ≡ [] → is_idle_line line ≡ true
unfolding tokens_at
no_token [] none = refl
no_token (o ∷ os) none = at (is_hash o) (is_blank o) refl refl (no_token os)
  where
    at : (hash blank : Bool) → is_hash o ≡ hash → is_blank o ≡ blank → (tokens_at Name os ≡ [] → is_idle_line os ≡ true) → is_idle_line (o ∷ os) ≡ true
    at true blank hash is later = ap is_blank_line (none_before is_hash o os hash)
    at false true hash is later = ap is_blank_line (one_before is_hash o os hash) ∙ rw is (later (sym (after_blank Name o os is) ∙ none))
    at false false hash is later = absurd (some_filled (tokens_from (Outside Name) (o ∷ os)) (octet_filled o os hash is) none)

-- what is left without the front begins with one that does not pass
pub front_fails : (test : List ℕ → Bool) (lines : List (List ℕ)) (line : List ℕ) (others : List (List ℕ)) → without_front test lines ≡ line ∷ others → test line ≡ false
front_fails test [] line others h = absurd (cc)
front_fails test (first ∷ lines) line others h = at (test first) refl h (front_fails test lines line others)
  where
    at : (b : Bool) → test first ≡ b → cond b (without_front test lines) (first ∷ lines) ≡ line ∷ others → (without_front test lines ≡ line ∷ others → test line ≡ false) → test line ≡ false
    at true e is later = later is
    at false e is later = ap test (sym (ap (λ ls. elim ls as (λ _. List ℕ) [ [] ↦ first | l ∷ _ ↦ l ]) is)) ∙ e

-- ---- after the end of a packet

pub refused_name : (token : Token) (tokens whole : List Token) → whole ≡ token ∷ tokens → is_run token ≡ true → IsRefusedAfter SecondPacket whole
refused_name (Run name) tokens whole is run = subst (λ ts. IsRefusedAfter SecondPacket ts) (sym is) (second_packet name tokens)
refused_name _ tokens whole is run = absurd (cc)

pub refused_other : (token : Token) (tokens whole : List Token) → whole ≡ token ∷ tokens → is_run token ≡ false → IsRefusedAfter Unreadable whole
refused_other token tokens whole is run = subst (λ ts. IsRefusedAfter Unreadable ts) (sym is) (no_name token tokens run)
