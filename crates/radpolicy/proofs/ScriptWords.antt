-- Words of a script, read one after the other.
use Rattle.std.proofs.Common.{◌≡◌, ◌∙◌, ◌++◌, ◌<◌, ◌≤◌, ℕ, zero, suc, ◌+◌, List, [], ◌∷◌, Option, Some, None, Result, Ok, Err, map, length, drop, get_or, refl, sym, ap, arith, append_assoc, append-nil}
use Rattle.std.specs.Borrow.{Bor}
use Rattle.std.proofs.lemmas.List.{drop_more}
use Rattle.std.specs.Option.{option_and_then, option_map}
use Rattle.radpolicy.specs.declared.scripts.ScriptWord.{ScriptWord}
use Rattle.radpolicy.specs.Scripts.{after_words, line_words, script_from, word_named, words_named}
use Rattle.radpolicy.specs.internal.ScriptReading.{after_named}

-- ---- the words of a line

pub none_read : (o : Option (List ScriptWord)) → after_named [] o ≡ o
unfolding after_named
none_read None = refl
none_read (Some ws) = refl

pub all_read : (ws : List ScriptWord) → after_named ws (words_named []) ≡ Some ws
unfolding after_named words_named
all_read ws = ap Some (append-nil ws)

longer : (ws : List ScriptWord) (w : ScriptWord) (o : Option (List ScriptWord)) → after_named ws (option_map (λ more. w ∷ more) o) ≡ after_named (ws ++ w ∷ []) o
unfolding after_named
longer ws w None = refl
longer ws w (Some more) = ap Some (sym (append_assoc ws (w ∷ []) more))

pub one_more : (ws : List ScriptWord) (w : ScriptWord) (text : List ℕ) (texts : List (List ℕ)) → word_named text ≡ Some w → after_named ws (words_named (text ∷ texts)) ≡ after_named (ws ++ w ∷ []) (words_named texts)
unfolding words_named
one_more ws w text texts is = ap (λ o. after_named ws (option_and_then (λ x. option_map (λ more. x ∷ more) (words_named texts)) o)) is ∙ longer ws w (words_named texts)

pub one_unknown : (ws : List ScriptWord) (text : List ℕ) (texts : List (List ℕ)) → word_named text ≡ None → after_named ws (words_named (text ∷ texts)) ≡ None
unfolding words_named after_named
one_unknown ws text texts is = ap (λ o. after_named ws (option_and_then (λ x. option_map (λ more. x ∷ more) (words_named texts)) o)) is

abbrev left : List (Bor (List ℕ)) → List (List ℕ)
left texts = map (λ text. text.now) texts

module _ (ws : List ScriptWord) (texts : List (Bor (List ℕ))) (i : ℕ) (d : Bor (List ℕ)) (within : i < length texts) where
  pub next_word : (w : ScriptWord) → word_named (get_or texts i d).now ≡ Some w → after_named ws (words_named (left (drop i texts))) ≡ after_named (ws ++ w ∷ []) (words_named (left (drop (i + 1) texts)))
  next_word w is = ap (λ ts. after_named ws (words_named (left ts))) (drop_more texts i d within) ∙ one_more ws w (get_or texts i d).now (left (drop (i + 1) texts)) is

  pub next_unknown : word_named (get_or texts i d).now ≡ None → after_named ws (words_named (left (drop i texts))) ≡ None
  next_unknown is = ap (λ ts. after_named ws (words_named (left ts))) (drop_more texts i d within) ∙ one_unknown ws (get_or texts i d).now (left (drop (i + 1) texts)) is

all_dropped : (texts : List (Bor (List ℕ))) (i : ℕ) → length texts ≤ i → drop i texts ≡ []
all_dropped [] zero h = refl
all_dropped [] (suc i) h = refl
all_dropped (text ∷ texts) zero h = absurd (omega arith)
all_dropped (text ∷ texts) (suc i) h = all_dropped texts i (omega arith)

pub no_more_words : (ws : List ScriptWord) (texts : List (Bor (List ℕ))) (i : ℕ) → length texts ≤ i → after_named ws (words_named (left (drop i texts))) ≡ Some ws
no_more_words ws texts i h = ap (λ ts. after_named ws (words_named (left ts))) (all_dropped texts i h) ∙ all_read ws

-- ---- the lines of a script

after_more : (ws more : List ScriptWord) (r : Result (List ScriptWord) ℕ) → after_words ws (after_words more r) ≡ after_words (ws ++ more) r
after_more ws more (Ok others) = ap Ok (sym (append_assoc ws more others))
after_more ws more (Err line) = refl

pub one_line : (ws more : List ScriptWord) (n : ℕ) (line : List ℕ) (lines : List (List ℕ)) → words_named (line_words line) ≡ Some more → after_words ws (script_from n (line ∷ lines)) ≡ after_words (ws ++ more) (script_from (n + 1) lines)
unfolding script_from
one_line ws more n line lines is =
    ap (λ o. after_words ws (elim o [ None ↦ Err n | Some found ↦ after_words found (script_from (n + 1) lines) ])) is ∙ after_more ws more (script_from (n + 1) lines)

pub unknown_line : (ws : List ScriptWord) (n : ℕ) (line : List ℕ) (lines : List (List ℕ)) → words_named (line_words line) ≡ None → after_words ws (script_from n (line ∷ lines)) ≡ Err n
unfolding script_from
unknown_line ws n line lines is = ap (λ o. after_words ws (elim o [ None ↦ Err n | Some found ↦ after_words found (script_from (n + 1) lines) ])) is

pub no_line : (ws : List ScriptWord) (n : ℕ) → after_words ws (script_from n []) ≡ Ok ws
unfolding script_from
no_line ws n = ap Ok (append-nil ws)

pub none_before : (r : Result (List ScriptWord) ℕ) → after_words [] r ≡ r
none_before (Ok ws) = refl
none_before (Err line) = refl
