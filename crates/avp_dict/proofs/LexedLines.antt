-- Tokens that have been read, and what is left of a line after them.
use Rattle.std.proofs.Common.{◌≡◌, ◌∙◌, inl, inr, ℕ, ◌+◌, Bool, true, false, not, ◌&&◌, cond, List, [], ◌∷◌, ◌++◌, Option, Some, None, take, drop, refl, sym, ap, subst, append_assoc, one-add}
use Rattle.std.specs.List.{list_all}
use Rattle.std.proofs.lemmas.List.{take-append-drop}
use Rattle.avp_dict.specs.declared.value.quotes.QuoteMark.{QuoteMark}
use Rattle.avp_dict.specs.declared.request.tokens.Side.{Side}
use Rattle.avp_dict.specs.declared.request.tokens.Side.TheVariants.{Name, Value}
use Rattle.avp_dict.specs.RequestLines.{Between, Outside, Token, Comma, Sign, Run, Quoted, onto_run, quote_octet, tokens_at, tokens_from}
use Rattle.avp_dict.specs.Words.{is_blank}
use Rattle.avp_dict.specs.internal.LineEnds.{IsBlanksBefore, IsLexed, IsLike, first_of}
use Rattle.avp_dict.specs.internal.RequestTokens.{begins_run, ends_run}
use Rattle.avp_dict.proofs.Lexing.{after_blank, at_comma, at_quote, at_sign, run_length, run_octet, run_stops}

pub both : (a b : Bool) → (a && b) ≡ true → (a ≡ true) × (b ≡ true)
both true b h = (refl, h)
both false b h = absurd (cc)

pub not_true : (b : Bool) → not b ≡ true → b ≡ false
not_true true h = absurd (cc)
not_true false h = refl

-- ---- what is left

pub like_after : (front rest more : List ℕ) → IsLike rest more → IsLike (front ++ rest) (front ++ more)
like_after [] rest more like = like
like_after (o ∷ front) rest more like = inl refl

pub lexed_whole : (from : Side) (octets : List ℕ) (tokens : List Token) (to : Side) (rest : List ℕ) → IsLexed from octets tokens to rest → tokens_at from octets ≡ tokens ++ tokens_at to rest
lexed_whole from octets tokens to rest read = ap (tokens_at from) read.split ∙ read.lexed rest (inl refl)

pub lexed_none : (side : Side) (octets : List ℕ) → IsLexed side octets [] side octets
lexed_none side octets = record { front = []; split = refl; lexed = λ more like. refl }

-- tokens, and those after them
pub lexed_then : (a b c : Side) (octets middle rest : List ℕ) (tokens others : List Token) → IsLexed a octets tokens b middle → IsLexed b middle others c rest → IsLexed a octets (tokens ++ others) c rest
lexed_then a b c octets middle rest tokens others one two = record {
  front = one.front ++ two.front;
  split = one.split ∙ ap (λ os. one.front ++ os) two.split ∙ sym (append_assoc one.front two.front rest);
  lexed = λ more like.
      ap (tokens_at a) (append_assoc one.front two.front more)
      ∙ one.lexed (two.front ++ more) (subst (λ os. IsLike os (two.front ++ more)) (sym two.split) (like_after two.front rest more like))
      ∙ ap (λ ts. tokens ++ ts) (two.lexed more like)
      ∙ sym (append_assoc tokens others (tokens_at c more));
}

-- ---- blanks

pub blanks_skipped : (side : Side) (blanks more : List ℕ) → list_all is_blank blanks ≡ true → tokens_at side (blanks ++ more) ≡ tokens_at side more
blanks_skipped side [] more all = refl
blanks_skipped side (o ∷ blanks) more all =
    let parts = both (is_blank o) (list_all is_blank blanks) all in
    after_blank side o (blanks ++ more) parts.0 ∙ blanks_skipped side blanks more parts.1

pub all_blank-append : (xs ys : List ℕ) → list_all is_blank xs ≡ true → list_all is_blank ys ≡ true → list_all is_blank (xs ++ ys) ≡ true
all_blank-append [] ys one two = two
all_blank-append (o ∷ xs) ys one two =
    let parts = both (is_blank o) (list_all is_blank xs) one in
    rw (parts.0, all_blank-append xs ys parts.1 two) refl

-- one blank more
pub blank_more : (octets rest : List ℕ) (o : ℕ) (after : List ℕ) → is_blank o ≡ true → rest ≡ o ∷ after → IsBlanksBefore rest octets → IsBlanksBefore after octets
blank_more octets rest o after blank is (blanks, split, all) = (
  blanks ++ (o ∷ []),
  split ∙ ap (λ os. blanks ++ os) is ∙ sym (append_assoc blanks (o ∷ []) after),
  all_blank-append blanks (o ∷ []) all (rw blank refl),
)

-- tokens of what is left after blanks
pub after_blanks : (side : Side) (octets filled : List ℕ) (tokens : List Token) (to : Side) (rest : List ℕ) → IsBlanksBefore filled octets → IsLexed side filled tokens to rest → IsLexed side octets tokens to rest
after_blanks side octets filled tokens to rest (blanks, split, all) read =
    lexed_then side side to octets filled rest [] tokens (record { front = blanks; split = split; lexed = λ more like. blanks_skipped side blanks more all }) read

-- ---- tokens

pub comma_lexed : (side : Side) (octets rest : List ℕ) → octets ≡ 44 ∷ rest → IsLexed side octets (Comma ∷ []) Name rest
comma_lexed side octets rest is = record { front = 44 ∷ []; split = is; lexed = λ more like. at_comma side more }

pub sign_lexed : (side : Side) (octets rest : List ℕ) → side ≡ Name → octets ≡ 61 ∷ rest → IsLexed side octets (Sign ∷ []) Value rest
sign_lexed side octets rest name is = rw name (record { front = 61 ∷ []; split = is; lexed = λ more like. at_sign more })

pub quoted_lexed : (mark : QuoteMark) (side : Side) (octets : List ℕ) (n end : ℕ)
    → ((more : List ℕ) → tokens_from (Between mark) (take n octets ++ more) ≡ Quoted mark (take end octets) ∷ tokens_from (Outside Value) more)
    → IsLexed side (quote_octet mark ∷ octets) (Quoted mark (take end octets) ∷ []) Value (drop n octets)
quoted_lexed mark side octets n end text = record {
  front = quote_octet mark ∷ take n octets;
  split = ap (λ os. quote_octet mark ∷ os) (sym (take-append-drop n octets));
  lexed = λ more like. at_quote mark side (take n octets ++ more) more (Quoted mark (take end octets)) refl (text more);
}

-- ---- runs

abbrev is_inside : Side → ℕ → Bool
is_inside side o = not (ends_run side o)

-- a run ends there
abbrev stops : Side → Option ℕ → Bool
stops side None = true
stops side (Some o) = ends_run side o

stops_like : (side : Side) (rest more : List ℕ) → stops side (first_of rest) ≡ true → IsLike rest more → stops side (first_of more) ≡ true
stops_like side rest more stop (inl same) = ap (stops side) same ∙ stop
stops_like Name rest more stop (inr comma) = ap (stops Name) comma
stops_like Value rest more stop (inr comma) = ap (stops Value) comma

-- the octets of a run are before the first one that ends it
taken : (side : Side) (o : ℕ) (os : List ℕ) (b : Bool) → ends_run side o ≡ b → list_all (is_inside side) (take (run_length side os) os) ≡ true → list_all (is_inside side) (take (cond (not b) (1 + run_length side os) 0) (o ∷ os)) ≡ true
taken side o os true e rest = refl
taken side o os false e rest = rw (one-add, e) rest

inside_taken : (side : Side) (octets : List ℕ) → list_all (is_inside side) (take (run_length side octets) octets) ≡ true
inside_taken side [] = refl
inside_taken side (o ∷ os) = taken side o os (ends_run side o) refl (inside_taken side os)

dropped : (side : Side) (o : ℕ) (os : List ℕ) (b : Bool) → ends_run side o ≡ b → stops side (first_of (drop (run_length side os) os)) ≡ true → stops side (first_of (drop (cond (not b) (1 + run_length side os) 0) (o ∷ os))) ≡ true
dropped side o os true e rest = e
dropped side o os false e rest = rw one-add rest

stops_dropped : (side : Side) (octets : List ℕ) → stops side (first_of (drop (run_length side octets) octets)) ≡ true
stops_dropped side [] = refl
stops_dropped side (o ∷ os) = dropped side o os (ends_run side o) refl (stops_dropped side os)

run_until : (side : Side) (o : ℕ) (run more : List ℕ) → ends_run side o ≡ false → list_all (is_inside side) run ≡ true → stops side (first_of more) ≡ true → tokens_from (Outside side) (o ∷ run ++ more) ≡ Run (o ∷ run) ∷ tokens_from (Outside side) more
unfolding tokens_from
run_until side o [] [] inside all stop = run_octet side o [] inside
run_until side o [] (x ∷ xs) inside all stop = run_octet side o (x ∷ xs) inside ∙ run_stops side o x xs stop
run_until side o (p ∷ run) more inside all stop =
    let parts = both (not (ends_run side p)) (list_all (is_inside side) run) all in
    run_octet side o (p ∷ run ++ more) inside ∙ ap (onto_run o) (run_until side p run more (not_true (ends_run side p) parts.0) parts.1 stop)

run_front : (side : Side) (run more : List ℕ) → begins_run side run ≡ true → list_all (is_inside side) run ≡ true → stops side (first_of more) ≡ true → tokens_at side (run ++ more) ≡ Run run ∷ tokens_at side more
unfolding tokens_at
run_front side [] more begins all stop = absurd (cc)
run_front side (o ∷ run) more begins all stop =
    let parts = both (not (ends_run side o)) (list_all (is_inside side) run) all in
    rw (run_until side o run more (not_true (ends_run side o) parts.0) parts.1 stop) refl

pub run_begins : (side : Side) (octets : List ℕ) (o : ℕ) (os : List ℕ) → octets ≡ o ∷ os → ends_run side o ≡ false → begins_run side octets ≡ true
run_begins side octets o os is inside = rw (is, inside) refl

begins_taken : (side : Side) (octets : List ℕ) → begins_run side octets ≡ true → begins_run side (take (run_length side octets) octets) ≡ true
begins_taken side [] begins = begins
begins_taken side (o ∷ os) begins = rw (not_true (ends_run side o) begins, one-add) begins

pub run_lexed : (side : Side) (octets : List ℕ) → begins_run side octets ≡ true → IsLexed side octets (Run (take (run_length side octets) octets) ∷ []) side (drop (run_length side octets) octets)
run_lexed side octets begins = record {
  front = take (run_length side octets) octets;
  split = sym (take-append-drop (run_length side octets) octets);
  lexed = λ more like.
      run_front side (take (run_length side octets) octets) more (begins_taken side octets begins) (inside_taken side octets)
      (stops_like side (drop (run_length side octets) octets) more (stops_dropped side octets) like);
}
