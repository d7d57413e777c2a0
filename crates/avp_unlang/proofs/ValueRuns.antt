-- Values one after the other while the next token begins one: what is read so far of them, and what is left.
use Rattle.std.proofs.Common.{◌≡◌, Bool, true, false, List, [], ◌∷◌, ◌++◌, Result, refl, sym, ap, subst, ◌∙◌, append_assoc}
use Rattle.std.proofs.lemmas.List.{append-nil}
use Rattle.std.specs.Prelude.{IsErrAnd}
use Rattle.avp_unlang.specs.declared.faults.Refusal.{Refusal}
use Rattle.avp_unlang.specs.Forms.{Form, While, Refuses, ReadsAll}
use Rattle.avp_unlang.proofs.Determined.{IsOne, exits_all}

not_both : (b : Bool) → b ≡ false → b ≡ true → ⊥
not_both b e f = cc

pub while_one : {S A : Type 0} (begins : S → Bool) (form : Form S A) → IsOne form → IsOne (While begins form)
while_one begins form one p [] [] r s h g = (refl, h.1 ∙ sym g.1)
while_one begins form one p [] (y ∷ ys) r s h g = absurd (not_both (begins p) h.0 g.0)
while_one begins form one p (x ∷ xs) [] r s h g = absurd (not_both (begins p) g.0 h.0)
while_one begins form one p (x ∷ xs) (y ∷ ys) r s h g =
    let first = one p x y h.1 g.1 h.2 g.2 in
    let more = while_one begins form one g.1 xs ys r s (subst (λ n. While begins form n xs r) first.1 h.3) g.3 in
    (ap (λ z. z ∷ xs) first.0 ∙ ap (λ (zs : List _). y ∷ zs) more.0, more.1)

-- from p the values front are spelled, and reading goes on at rest
pub record IsRun {S A : Type 0} (begins : S → Bool) (form : Form S A) (p : S) (front : List A) (rest : S) : Type 0 where
  pub on : (xs : List A) (r : S) → While begins form rest xs r → While begins form p (front ++ xs) r
  pub only : (zs : List A) (r : S) → While begins form p zs r → (xs : List A) × (zs ≡ front ++ xs) × While begins form rest xs r

only_more : {S A : Type 0} (begins : S → Bool) (form : Form S A) → IsOne form → (front : List A) (mid : S) (x : A) (rest : S)
    → begins mid ≡ true → form mid x rest → (zs xs : List A) (r : S) → zs ≡ front ++ xs → While begins form mid xs r
    → (ys : List A) × (zs ≡ front ++ x ∷ [] ++ ys) × While begins form rest ys r
only_more begins form one front mid x rest e h zs [] r is o = absurd (not_both (begins mid) o.0 e)
only_more begins form one front mid x rest e h zs (y ∷ ys) r is o =
    let first = one mid y x o.1 rest o.2 h in
    (ys, is ∙ ap (λ z. front ++ z ∷ ys) first.0 ∙ sym (append_assoc front (x ∷ []) ys), subst (λ n. While begins form n ys r) first.1 o.3)

pub run_more : {S A : Type 0} (begins : S → Bool) (form : Form S A) → IsOne form → (p : S) (front : List A) (mid : S) (x : A) (rest : S)
    → IsRun begins form p front mid → begins mid ≡ true → form mid x rest → (new : List A) → new ≡ front ++ x ∷ [] → IsRun begins form p new rest
run_more begins form one p front mid x rest f e h new is = subst (λ (l : List _). IsRun begins form p l rest) (sym is) (record {
  on = λ xs r o. subst (λ l. While begins form p l r) (sym (append_assoc front (x ∷ []) xs)) (f.on (x ∷ xs) r (e, rest, h, o));
  only = λ zs r o. let g = f.only zs r o in only_more begins form one front mid x rest e h zs g.0 r g.1 g.2;
})

pub run_done : {S A : Type 0} (begins : S → Bool) (form : Form S A) (p : S) (front : List A) (mid : S) → IsRun begins form p front mid → begins mid ≡ false → While begins form p front mid
run_done begins form p front mid f e = subst (λ l. While begins form p l mid) (append-nil front) (f.on [] mid (e, refl))

wanted : {S A : Type 0} (begins : S → Bool) (form : Form S A) (mid : S) → begins mid ≡ true → (xs : List A) (r : S) → While begins form mid xs r → (x : A) × (end : S) × form mid x end
wanted begins form mid e [] r o = absurd (not_both (begins mid) o.0 e)
wanted begins form mid e (x ∷ xs) r o = (x, o.1, o.2)

-- a value that is wanted and is not there
pub run_fails : {S A : Type 0} (begins : S → Bool) (form : Form S A) (p : S) (front : List A) (mid : S)
    → IsRun begins form p front mid → begins mid ≡ true → (zs : List A) (r : S) → While begins form p zs r → (x : A) × (end : S) × form mid x end
run_fails begins form p front mid f e zs r o = let g = f.only zs r o in wanted begins form mid e g.0 r g.2

-- a refusal of that value is one of them all
pub run_stops : {S A : Type 0} (begins : S → Bool) (form : Form S A) (p : S) (front : List A) (mid : S) → IsRun begins form p front mid → begins mid ≡ true
    → (e : Refusal) → Refuses (form mid) e → Refuses (While begins form p) e
run_stops begins form p front mid f e fault refused = λ some zs r o. let w = run_fails begins form p front mid f e zs r o in refused some w.0 w.1 w.2

-- and one of a whole text of such values
pub run_exits : {S A : Type 0} (begins : S → Bool) (form : Form S A) (p : S) (front : List A) (mid : S) (e : Refusal) (r : Result (List A) Refusal)
    → IsErrAnd r (λ d. d ≡ e) → IsRun begins form p front mid → begins mid ≡ true → Refuses (form mid) e
    → ReadsAll (λ xs. (end : S) × While begins form p xs end) r
run_exits begins form p front mid e r is f on fault =
    exits_all (λ xs. (end : _) × While begins form p xs end) e r is (λ some xs w. run_stops begins form p front mid f on e fault some xs w.0 w.1)
