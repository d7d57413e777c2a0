-- Paths that end in a folder's `/`.
use Rattle.std.proofs.Common.{◌≡◌, ◌≢◌, ◌∙◌, ◌||◌, ◌++◌, ◌-◌, ◌<◌, ◌≤◌, ℕ, suc, Bool, true, false, List, [], ◌∷◌, ap, refl, cond, sym, length, take, get_or, arith, le_refl, ne_eqb}
use Rattle.std.proofs.Math.Seq.{take-suc}
use Rattle.std.proofs.lemmas.List.{take_all}
use Rattle.std.specs.List.{list_any}
use Rattle.radpolicy_import_policies.specs.OriginTexts.{folder, is_slash}

or_false : (b : Bool) → (b || false) ≡ b
or_false true = refl
or_false false = refl

or_true : (b : Bool) → (b || true) ≡ true
or_true true = refl
or_true false = refl

or_grouped : (a b c : Bool) → (a || (b || c)) ≡ ((a || b) || c)
or_grouped true b c = refl
or_grouped false b c = refl

any_last : (front : List ℕ) (last : ℕ) → list_any is_slash (front ++ last ∷ []) ≡ (list_any is_slash front || is_slash last)
any_last [] last = or_false (is_slash last)
any_last (octet ∷ front) last =
    ap (λ b. is_slash octet || b) (any_last front last) ∙ or_grouped (is_slash octet) (list_any is_slash front) (is_slash last)

some_slash : (octet : ℕ) (front : List ℕ) → list_any is_slash (octet ∷ (front ++ 47 ∷ [])) ≡ true
some_slash octet front =
    ap (λ b. is_slash octet || b) (any_last front 47 ∙ or_true (list_any is_slash front)) ∙ or_true (is_slash octet)

-- a path that ends in `/` is a folder
pub whole : (front : List ℕ) → folder (front ++ 47 ∷ []) ≡ front ++ 47 ∷ []
whole [] = refl
whole (octet ∷ front) =
    let here : list_any is_slash (octet ∷ (front ++ 47 ∷ [])) ≡ true = some_slash octet front in
    ap (λ b. cond b (octet ∷ folder (front ++ 47 ∷ [])) []) here ∙ ap (λ rest. octet ∷ rest) (whole front)

-- another octet behind is none of it
pub without_last : (front : List ℕ) (last : ℕ) → is_slash last ≡ false → folder (front ++ last ∷ []) ≡ folder front
without_last [] last e = ap (λ b. cond b (last ∷ []) []) (or_false (is_slash last) ∙ e)
without_last (octet ∷ front) last e =
    let same : list_any is_slash (octet ∷ (front ++ last ∷ [])) ≡ list_any is_slash (octet ∷ front) =
    ap (λ b. is_slash octet || b) (any_last front last ∙ ap (λ b. list_any is_slash front || b) e ∙ or_false (list_any is_slash front)) in
    ap (λ b. cond b (octet ∷ folder (front ++ last ∷ [])) []) same
    ∙ ap (λ rest. cond (list_any is_slash (octet ∷ front)) (octet ∷ rest) []) (without_last front last e)

parts : (path : List ℕ) → 1 ≤ length path → path ≡ take (length path - 1) path ++ get_or path (length path - 1) 0 ∷ []
parts path h =
    let below : length path - 1 < length path = omega arith in
    let size : suc (length path - 1) ≡ length path = omega arith in
    sym (take_all (length path) path (le_refl (length path))) ∙ ap (λ n. take n path) (sym size) ∙ take-suc path (length path - 1) 0 below

pub at_slash : (path : List ℕ) → 1 ≤ length path → get_or path (length path - 1) 0 ≡ 47 → folder path ≡ path
at_slash path h e =
    let last : path ≡ take (length path - 1) path ++ 47 ∷ [] =
    parts path h ∙ ap (λ o. take (length path - 1) path ++ o ∷ []) e in
    ap folder last ∙ whole (take (length path - 1) path) ∙ sym last

pub before_last : (path : List ℕ) → 1 ≤ length path → get_or path (length path - 1) 0 ≢ 47
    → folder (take (length path - 1) path) ≡ folder path
before_last path h e =
    sym (without_last (take (length path - 1) path) (get_or path (length path - 1) 0) (ne_eqb (get_or path (length path - 1) 0) 47 e)) ∙ ap folder (sym (parts path h))
