-- Next places, as they are written and as they are followed.
use Rattle.std.proofs.Common.{◌≡◌, ◌≢◌, ℕ, zero, suc, ◌-◌, ◌<◌, ◌≤◌, true, List, length, get_or, set, sym, subst, arith}
use Rattle.std.proofs.lemmas.List.{get_or-set_same, get_or-set_other}
use Rattle.avp_lists.specs.declared.steps.Step.{Step}
use Rattle.avp_lists.specs.internal.Steps.{change_at, turns, origin}

-- next places lead from one place to another in n steps
abbrev pub Leads : List Step → List ℕ → ℕ → ℕ → ℕ → Type 0
Leads steps nexts zero a t = a ≡ t
Leads steps nexts (suc n) a t =
    let c = get_or nexts a 0 in
    (a < c) × (c < length steps) × (turns (change_at steps c) ≡ true) × (origin steps (c - 1) ≡ a) × Leads steps nexts n c t

-- a write below leaves the way
pub leads_write : (steps : List Step) (nexts : List ℕ) (n a t p v : ℕ) → p < a → Leads steps nexts n a t → Leads steps (set nexts p v) n a t
leads_write steps nexts zero a t p v lt h = h
leads_write steps nexts (suc n) a t p v lt h =
    let c = get_or nexts a 0 in
    let ne : a ≢ p = omega arith in
    let e : get_or (set nexts p v) a 0 ≡ c = get_or-set_other nexts p a v 0 ne in
    let up : a < c = h.0 in
    let P : ℕ → Type 0 = λ m. (a < m) × (m < length steps) × (turns (change_at steps m) ≡ true) × (origin steps (m - 1) ≡ a) × Leads steps (set nexts p v) n m t in
    subst P (sym e) (h.0, h.1, h.2, h.3, leads_write steps nexts n c t p v (omega arith) h.4)

-- one place more
pub leads_before : (steps : List Step) (nexts : List ℕ) (n b t p : ℕ) → p < length nexts → p < b → b < length steps → turns (change_at steps b) ≡ true → origin steps (b - 1) ≡ p → Leads steps nexts n b t → Leads steps (set nexts p b) (suc n) p t
leads_before steps nexts n b t p within lt inside turned e h =
    let P : ℕ → Type 0 = λ m. (p < m) × (m < length steps) × (turns (change_at steps m) ≡ true) × (origin steps (m - 1) ≡ p) × Leads steps (set nexts p b) n m t in
    subst P (sym (get_or-set_same nexts p b 0 within)) (lt, inside, turned, e, leads_write steps nexts n b t p b lt h)

-- the next place
pub leads_next : (steps : List Step) (nexts : List ℕ) (n a t : ℕ) → Leads steps nexts n a t → a ≢ t → (a < get_or nexts a 0) × (get_or nexts a 0 < length steps) × (turns (change_at steps (get_or nexts a 0)) ≡ true) × (origin steps (get_or nexts a 0 - 1) ≡ a) × ((m : ℕ) × Leads steps nexts m (get_or nexts a 0) t)
leads_next steps nexts zero a t h ne = absurd (ne h)
leads_next steps nexts (suc n) a t h ne = (h.0, h.1, h.2, h.3, (n, h.4))

-- the way goes up
pub leads_up : (steps : List Step) (nexts : List ℕ) (n a t : ℕ) → Leads steps nexts n a t → a ≤ t
leads_up steps nexts zero a t h = omega (arith, h)
leads_up steps nexts (suc n) a t h =
    let up : a < get_or nexts a 0 = h.0 in
    omega (arith, leads_up steps nexts n (get_or nexts a 0) t h.4)
