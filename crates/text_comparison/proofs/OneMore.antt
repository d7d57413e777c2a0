-- Lines of a text that has one octet more, and what is kept of them.
use Rattle.std.proofs.Common.{◌≡◌, ◌∙◌, ◌<◌, ◌≤◌, ℕ, zero, suc, ◌+◌, ◌-◌, ◌^◌, min, Bool, true, false, cond, ◌||◌, IsTrue, not, eqb-true, List, [], ◌∷◌, ◌++◌, refl, sym, ap, length, take, arith}
use Rattle.std.specs.List.{count_by}
use Rattle.std.proofs.lemmas.List.{length-take, take-take, take_all}
use Rattle.std.proofs.lemmas.List.Sums.{sum_by-append}
use Rattle.text_comparison.specs.Lines.{first_line, has_line_end, is_line_end, kept, last_line, line_number}
use Rattle.text_comparison.specs.declared.lines.TheConstants.{MAX_LINE_OCTETS}

-- ---- what is kept

taken_again : (m : ℕ) (xs ys : List ℕ) → take m (take m xs ++ ys) ≡ take m (xs ++ ys)
taken_again zero xs ys = refl
taken_again (suc m) [] ys = refl
taken_again (suc m) (x ∷ xs) ys = ap (λ l. x ∷ l) (taken_again m xs ys)

taken_full : (m : ℕ) (xs ys : List ℕ) → m ≤ length xs → take m (xs ++ ys) ≡ take m xs
taken_full zero xs ys long = refl
taken_full (suc m) [] ys long = absurd (omega (arith, long))
taken_full (suc m) (x ∷ xs) ys long = ap (λ l. x ∷ l) (taken_full m xs ys (omega (arith, long)))

taken_within : (m n : ℕ) (xs ys : List ℕ) → m ≤ n → take m (xs ++ take n ys) ≡ take m (xs ++ ys)
taken_within m n [] ys within = take-take m n ys within
taken_within zero n (x ∷ xs) ys within = refl
taken_within (suc m) n (x ∷ xs) ys within = ap (λ l. x ∷ l) (taken_within m n xs ys (omega (arith, within)))

length_more : (xs : List ℕ) (o : ℕ) → length (xs ++ o ∷ []) ≡ length xs + 1
length_more [] o = refl
length_more (x ∷ xs) o = let e = length_more xs o in omega (arith, e)

-- a kept line has room
pub kept_more : (held whole : List ℕ) (o : ℕ) → length held < MAX_LINE_OCTETS → held ≡ kept whole → held ++ o ∷ [] ≡ kept (whole ++ o ∷ [])
kept_more held whole o room is =
    let short : length (held ++ o ∷ []) ≤ MAX_LINE_OCTETS = let e = length_more held o in omega (arith, e, room) in
    sym (take_all MAX_LINE_OCTETS (held ++ o ∷ []) short)
    ∙ ap (λ xs. take MAX_LINE_OCTETS (xs ++ o ∷ [])) is ∙ taken_again MAX_LINE_OCTETS whole (o ∷ [])

-- a kept line has none
pub kept_full : (held whole : List ℕ) (o : ℕ) → MAX_LINE_OCTETS ≤ length held → held ≡ kept whole → held ≡ kept (whole ++ o ∷ [])
kept_full held whole o long is =
    let most = ap length is ∙ length-take MAX_LINE_OCTETS whole in
    is ∙ sym (taken_full MAX_LINE_OCTETS whole (o ∷ []) (omega (arith, most, long)))

pub kept_both : (xs ys held more : List ℕ) → held ≡ kept xs → more ≡ kept ys → kept (held ++ more) ≡ kept (xs ++ ys)
kept_both xs ys held more a b =
    ap (λ l. take MAX_LINE_OCTETS (l ++ more)) a ∙ taken_again MAX_LINE_OCTETS xs more
    ∙ ap (λ l. take MAX_LINE_OCTETS (xs ++ l)) b
    ∙ taken_within MAX_LINE_OCTETS MAX_LINE_OCTETS xs ys (omega arith)

pub kept_none : (xs : List ℕ) → kept xs ≡ [] → xs ≡ []
kept_none [] none = refl
kept_none (x ∷ xs) none = absurd (grind (arith, none))

-- ---- one octet more

or_with : (a b c : Bool) → b ≡ c → (a || b) ≡ (a || c)
or_with a b c e = ap (λ d. a || d) e

or_true : (b : Bool) → (b || true) ≡ true
or_true true = refl
or_true false = refl

or_false : (b : Bool) → (b || false) ≡ b
or_false true = refl
or_false false = refl

or_or : (a b c : Bool) → (a || (b || c)) ≡ ((a || b) || c)
or_or true b c = refl
or_or false b c = refl

has_more : (text : List ℕ) (o : ℕ) → has_line_end (text ++ o ∷ []) ≡ (has_line_end text || is_line_end o)
has_more [] o = or_false (is_line_end o)
has_more (x ∷ text) o = ap (λ d. is_line_end x || d) (has_more text o) ∙ or_or (is_line_end x) (has_line_end text) (is_line_end o)

pub has_end : (text : List ℕ) (o : ℕ) → is_line_end o ≡ true → has_line_end (text ++ o ∷ []) ≡ true
has_end text o end = has_more text o ∙ ap (λ b. has_line_end text || b) end ∙ or_true (has_line_end text)

pub has_same : (text : List ℕ) (o : ℕ) → is_line_end o ≡ false → has_line_end (text ++ o ∷ []) ≡ has_line_end text
has_same text o more = has_more text o ∙ ap (λ b. has_line_end text || b) more ∙ or_false (has_line_end text)

count_more : (text : List ℕ) (o : ℕ) → count_by is_line_end (text ++ o ∷ []) ≡ count_by is_line_end text + (0 + cond (is_line_end o) 1 0)
count_more text o = sum_by-append (λ o. cond (is_line_end o) 1 0) text (o ∷ [])

pub number_end : (text : List ℕ) (o : ℕ) → is_line_end o ≡ true → line_number (text ++ o ∷ []) ≡ min (2 ^ 64 - 1) (line_number text + 1)
number_end text o end =
    let e : count_by is_line_end (text ++ o ∷ []) ≡ count_by is_line_end text + (0 + 1) = count_more text o ∙ ap (λ b. count_by is_line_end text + (0 + cond b 1 0)) end in
    omega (arith, e)

pub number_same : (text : List ℕ) (o : ℕ) → is_line_end o ≡ false → line_number (text ++ o ∷ []) ≡ line_number text
number_same text o more =
    let e : count_by is_line_end (text ++ o ∷ []) ≡ count_by is_line_end text + (0 + 0) = count_more text o ∙ ap (λ b. count_by is_line_end text + (0 + cond b 1 0)) more in
    omega (arith, e)

pub last_end : (text : List ℕ) (o : ℕ) → is_line_end o ≡ true → last_line (text ++ o ∷ []) ≡ []
last_end [] o end = ap (λ b. cond b [] (o ∷ [])) end
last_end (x ∷ text) o end =
    ap (λ b. cond b (last_line (text ++ o ∷ [])) (cond (is_line_end x) (text ++ o ∷ []) (x ∷ text ++ o ∷ []))) (has_end text o end) ∙ last_end text o end

last_by : (x o : ℕ) (text : List ℕ) (has ends : Bool) → last_line (text ++ o ∷ []) ≡ last_line text ++ o ∷ []
    → cond has (last_line (text ++ o ∷ [])) (cond ends (text ++ o ∷ []) (x ∷ text ++ o ∷ [])) ≡ cond has (last_line text) (cond ends text (x ∷ text)) ++ o ∷ []
last_by x o text true ends e = e
last_by x o text false true e = refl
last_by x o text false false e = refl

pub last_more : (text : List ℕ) (o : ℕ) → is_line_end o ≡ false → last_line (text ++ o ∷ []) ≡ last_line text ++ o ∷ []
last_more [] o more = ap (λ b. cond b [] (o ∷ [])) more
last_more (x ∷ text) o more =
    ap (λ b. cond b (last_line (text ++ o ∷ [])) (cond (is_line_end x) (text ++ o ∷ []) (x ∷ text ++ o ∷ []))) (has_same text o more)
    ∙ last_by x o text (has_line_end text) (is_line_end x) (last_more text o more)

first_by : (x : ℕ) (ends : Bool) (xs ys : List ℕ) → (ends ≡ false → xs ≡ ys) → cond ends [] (x ∷ xs) ≡ cond ends [] (x ∷ ys)
first_by x true xs ys e = refl
first_by x false xs ys e = ap (λ l. x ∷ l) (e refl)

pub first_kept : (text : List ℕ) (o : ℕ) → (has_line_end text || is_line_end o) ≡ true → first_line (text ++ o ∷ []) ≡ first_line text
first_kept [] o end = ap (λ b. cond b [] (o ∷ [])) end
first_kept (x ∷ text) o end =
    first_by x (is_line_end x) (first_line (text ++ o ∷ [])) (first_line text) (λ more. first_kept text o (ap (λ b. (b || has_line_end text) || is_line_end o) (sym more) ∙ end))

pub first_more : (text : List ℕ) (o : ℕ) → has_line_end text ≡ false → is_line_end o ≡ false → first_line (text ++ o ∷ []) ≡ first_line text ++ o ∷ []
first_more [] o none more = ap (λ b. cond b [] (o ∷ [])) more
first_more (x ∷ text) o none more = grind (arith, first_more text o, none, more)

-- a text without a first line and an end is empty
pub none_first : (text : List ℕ) → first_line text ≡ [] → has_line_end text ≡ false → text ≡ []
none_first [] first none = refl
none_first (x ∷ text) first none = absurd (grind (arith, first, none))

pub no_end : (o : ℕ) → (o ≡ 10 → ⊥) → is_line_end o ≡ false
no_end o other = elim (is_line_end o) as (λ b. is_line_end o ≡ b → b ≡ false) [
  | true ↦ λ e. absurd (other (eqb-true o 10 e))
  | false ↦ λ e. refl
] refl

pub none_from_length : (held whole : List ℕ) → length held < 1 → held ≡ kept whole → whole ≡ []
none_from_length [] whole short is = kept_none whole (sym is)
none_from_length (x ∷ held) whole short is = absurd (omega (arith, short))

not_false : (false ≡ true → ⊥)
not_false e = grind (arith, e)

pub not_ended : (b : Bool) → IsTrue (not b) → b ≡ false
not_ended true h = absurd (not_false h)
not_ended false h = refl

pub not_true : (b : Bool) → (b ≡ true → ⊥) → b ≡ false
not_true true h = absurd (h refl)
not_true false h = refl

pub has_ended : (text : List ℕ) (o : ℕ) → has_line_end text ≡ true → has_line_end (text ++ o ∷ []) ≡ true
has_ended text o ended = has_more text o ∙ ap (λ b. b || is_line_end o) ended

pub first_ended : (text : List ℕ) (o : ℕ) → has_line_end text ≡ true → first_line (text ++ o ∷ []) ≡ first_line text
first_ended text o ended = first_kept text o (ap (λ b. b || is_line_end o) ended)

pub ended_by : (text : List ℕ) (o : ℕ) → is_line_end o ≡ true → first_line (text ++ o ∷ []) ≡ first_line text
ended_by text o end = first_kept text o (ap (λ b. has_line_end text || b) end ∙ or_true (has_line_end text))
