-- One or more values with a step between any two: what is read so far of them, and what is left.
use Rattle.std.proofs.Common.{◌≡◌, List, [], ◌∷◌, ◌++◌, refl, sym, ap, subst, ◌∙◌, append_assoc}
use Rattle.std.proofs.lemmas.List.{append-nil}
use Rattle.avp_unlang.specs.declared.faults.Refusal.{Refusal}
use Rattle.avp_unlang.specs.Forms.{Form, Step, Others, Chain, Refuses}
use Rattle.avp_unlang.proofs.Determined.{IsOne, IsSure}

others_one : {S A : Type 0} (step : Step S) (form : Form S A) → IsSure step → IsOne form → IsOne (Others step form)
others_one step form sure one p [] [] r s h g = (refl, h.1 ∙ sym g.1)
others_one step form sure one p [] (y ∷ ys) r s h g = absurd (h.0 g.0 g.1)
others_one step form sure one p (x ∷ xs) [] r s h g = absurd (g.0 h.0 h.1)
others_one step form sure one p (x ∷ xs) (y ∷ ys) r s h g =
    let first = one g.0 x y h.2 g.2 (subst (λ n. form n x h.2) (sure p h.0 g.0 h.1 g.1) h.3) g.3 in
    let more = others_one step form sure one g.2 xs ys r s (subst (λ n. Others step form n xs r) first.1 h.4) g.4 in
    (ap (λ z. z ∷ xs) first.0 ∙ ap (λ (zs : List _). y ∷ zs) more.0, more.1)

pub chain_one : {S A : Type 0} (step : Step S) (form : Form S A) → IsSure step → IsOne form → IsOne (Chain step form)
chain_one step form sure one p [] ys r s h g = absurd h
chain_one step form sure one p (x ∷ xs) [] r s h g = absurd g
chain_one step form sure one p (x ∷ xs) (y ∷ ys) r s h g =
    let first = one p x y h.0 g.0 h.1 g.1 in
    let more = others_one step form sure one g.0 xs ys r s (subst (λ n. Others step form n xs r) first.1 h.2) g.2 in
    (ap (λ z. z ∷ xs) first.0 ∙ ap (λ (zs : List _). y ∷ zs) more.0, more.1)

chain_first : {S A : Type 0} (step : Step S) (form : Form S A) (p : S) (xs : List A) (r : S) → Chain step form p xs r → (x : A) × (end : S) × form p x end
chain_first step form p [] r h = absurd h
chain_first step form p (x ∷ xs) r h = (x, h.0, h.1)

-- a refusal of the first value
pub chain_stops : {S A : Type 0} (step : Step S) (form : Form S A) (p : S) (e : Refusal) → Refuses (form p) e → Refuses (Chain step form p) e
chain_stops step form p e refused = λ some xs r h. let w = chain_first step form p xs r h in refused some w.0 w.1 w.2

-- from p the values front are spelled, and what follows them is at rest
pub record IsFront {S A : Type 0} (step : Step S) (form : Form S A) (p : S) (front : List A) (rest : S) : Type 0 where
  pub on : (xs : List A) (r : S) → Others step form rest xs r → Chain step form p (front ++ xs) r
  pub only : (zs : List A) (r : S) → Chain step form p zs r → (xs : List A) × (zs ≡ front ++ xs) × Others step form rest xs r

only_one : {S A : Type 0} (step : Step S) (form : Form S A) → IsOne form → (p : S) (x : A) (rest : S) → form p x rest
    → (zs : List A) (r : S) → Chain step form p zs r → (xs : List A) × (zs ≡ x ∷ xs) × Others step form rest xs r
only_one step form one p x rest h [] r w = absurd w
only_one step form one p x rest h (z ∷ zs) r w =
    let first = one p z x w.0 rest w.1 h in
    (zs, ap (λ y. y ∷ zs) first.0, subst (λ n. Others step form n zs r) first.1 w.2)

pub front_one : {S A : Type 0} (step : Step S) (form : Form S A) → IsOne form → (p : S) (x : A) (rest : S) → form p x rest
    → (old new : List A) → old ≡ [] → new ≡ old ++ x ∷ [] → IsFront step form p new rest
front_one step form one p x rest h old new empty is =
    let e : new ≡ x ∷ [] = is ∙ ap (λ (l : List _). l ++ x ∷ []) empty in
    subst (λ (l : List _). IsFront step form p l rest) (sym e) (record {
      on = λ xs r o. (rest, h, o);
      only = λ zs r w. only_one step form one p x rest h zs r w;
    })

only_more : {S A : Type 0} (step : Step S) (form : Form S A) → IsSure step → IsOne form → (front : List A) (mid next : S) (x : A) (rest : S)
    → step mid next → form next x rest → (zs xs : List A) (r : S) → zs ≡ front ++ xs → Others step form mid xs r
    → (ys : List A) × (zs ≡ front ++ x ∷ [] ++ ys) × Others step form rest ys r
only_more step form sure one front mid next x rest e h zs [] r is o = absurd (o.0 next e)
only_more step form sure one front mid next x rest e h zs (y ∷ ys) r is o =
    let first = one next y x o.2 rest (subst (λ n. form n y o.2) (sure mid o.0 next o.1 e) o.3) h in
    (ys, is ∙ ap (λ z. front ++ z ∷ ys) first.0 ∙ sym (append_assoc front (x ∷ []) ys), subst (λ n. Others step form n ys r) first.1 o.4)

pub front_more : {S A : Type 0} (step : Step S) (form : Form S A) → IsSure step → IsOne form → (p : S) (front : List A) (mid next : S) (x : A) (rest : S)
    → IsFront step form p front mid → step mid next → form next x rest → (new : List A) → new ≡ front ++ x ∷ [] → IsFront step form p new rest
front_more step form sure one p front mid next x rest f e h new is = subst (λ (l : List _). IsFront step form p l rest) (sym is) (record {
  on = λ xs r o. subst (λ l. Chain step form p l r) (sym (append_assoc front (x ∷ []) xs)) (f.on (x ∷ xs) r (next, e, rest, h, o));
  only = λ zs r w. let g = f.only zs r w in only_more step form sure one front mid next x rest e h zs g.0 r g.1 g.2;
})

pub front_done : {S A : Type 0} (step : Step S) (form : Form S A) (p : S) (front : List A) (mid : S) → IsFront step form p front mid → ((next : S) → step mid next → ⊥) → Chain step form p front mid
front_done step form p front mid f none = subst (λ l. Chain step form p l mid) (append-nil front) (f.on [] mid (none, refl))

wanted : {S A : Type 0} (step : Step S) (form : Form S A) → IsSure step → (mid next : S) → step mid next → (xs : List A) (r : S) → Others step form mid xs r → (x : A) × (end : S) × form next x end
wanted step form sure mid next e [] r o = absurd (o.0 next e)
wanted step form sure mid next e (x ∷ xs) r o = (x, o.2, subst (λ n. form n x o.2) (sure mid o.0 next o.1 e) o.3)

-- a refusal of a value after a step
pub front_stops : {S A : Type 0} (step : Step S) (form : Form S A) → IsSure step → (p : S) (front : List A) (mid next : S)
    → IsFront step form p front mid → step mid next → (e : Refusal) → Refuses (form next) e → Refuses (Chain step form p) e
front_stops step form sure p front mid next f e fault refused = λ some zs r w.
    let g = f.only zs r w in
    let h = wanted step form sure mid next e g.0 r g.2 in
    refused some h.0 h.1 h.2
