-- A place spells at most one value of a form, and a refusal of a part is one of the whole.
use Rattle.std.proofs.Common.{◌≡◌, Option, Result, Ok, Err, Some, sym, ap, subst, ◌∙◌}
use Rattle.std.specs.Prelude.{IsErrAnd, ◌≢◌}
use Rattle.avp_unlang.specs.declared.faults.Refusal.{Refusal}
use Rattle.avp_unlang.specs.declared.faults.PolicyKind.TheVariants.{Memory}
use Rattle.avp_unlang.specs.Forms.{Form, Step, Gives, Becomes, After, Then, Refuses, Reads, ReadsAll}

abbrev pub IsOne : {S A : Type 0} → Form S A → Type 0
IsOne form = (p : _) (x y : _) (r s : _) → form p x r → form p y s → (x ≡ y) × (r ≡ s)

abbrev pub IsSure : {S : Type 0} → Step S → Type 0
IsSure step = (p r s : _) → step p r → step p s → r ≡ s

pub some_is : {A : Type 0} (x y : A) → Some x ≡ Some y → x ≡ y
some_is x y e = cc

pub pair_one : {A S : Type 0} (q : A × S) (x y : A) (r s : S) → q ≡ (x, r) → q ≡ (y, s) → (x ≡ y) × (r ≡ s)
pair_one q x y r s h g = (sym (ap (λ z. z.0) h) ∙ ap (λ z. z.0) g, sym (ap (λ z. z.1) h) ∙ ap (λ z. z.1) g)

pub gives_one : {S A : Type 0} (x : A) → IsOne {S = S} (Gives x)
gives_one x p y z r s h g = (h.0 ∙ sym g.0, h.1 ∙ sym g.1)

pub becomes_one : {S A : Type 0} (o : Option A) → IsOne {S = S} (Becomes o)
becomes_one o p y z r s h g = (some_is y z (sym h.0 ∙ g.0), h.1 ∙ sym g.1)

pub after_one : {S A : Type 0} (step : Step S) (next : Form S A) → IsSure step → IsOne next → IsOne (After step next)
after_one step next sure one p x y r s h g = one g.0 x y r s (subst (λ m. next m x r) (sure p h.0 g.0 h.1 g.1) h.2) g.2

pub then_one : {S A B : Type 0} (first : Form S A) (next : A → Form S B) → IsOne first → ((x : A) → IsOne (next x)) → IsOne (Then first next)
then_one first next one more p y z r s h g =
    let at = one p h.0 g.0 h.1 g.1 h.2 g.2 in
    more g.0 g.1 y z r s (subst (λ m. next g.0 m y r) at.1 (subst (λ x. next x h.1 y r) at.0 h.3)) g.3

-- ---- refusals

-- an exit by `?`
pub exits : {S A : Type 0} (Q : A → S → Type 0) (e : Refusal) (r : Result (A × S) Refusal) → IsErrAnd r (λ d. d ≡ e) → Refuses Q e → Reads Q r
exits Q e (Ok x) is h = absurd is
exits Q e (Err d) is h = subst (λ k. Refuses Q k) (sym is) h

pub exits_all : {A : Type 0} (Q : A → Type 0) (e : Refusal) (r : Result A Refusal) → IsErrAnd r (λ d. d ≡ e)
    → (e.kind ≢ Memory → (x : A) → Q x → ⊥) → ReadsAll Q r
exits_all Q e (Ok x) is h = absurd is
exits_all Q e (Err d) is h = subst (λ (k : Refusal). k.kind ≢ Memory → (x : _) → Q x → ⊥) (sym is) h

-- the first part of two is refused, or the second after the first was read
pub then_stops : {S A B : Type 0} (first : Form S A) (next : A → Form S B) (p : S) (e : Refusal) → Refuses (first p) e → Refuses (Then first next p) e
then_stops first next p e h = λ some y r w. h some w.0 w.1 w.2

pub then_on : {S A B : Type 0} (first : Form S A) (next : A → Form S B) → IsOne first → (p : S) (x : A) (mid : S) → first p x mid
    → (e : Refusal) → Refuses (next x mid) e → Refuses (Then first next p) e
then_on first next one p x mid h e refused = λ some y r w.
    let at = one p w.0 x w.1 mid w.2 h in
    refused some y r (subst (λ m. next x m y r) at.1 (subst (λ z. next z w.1 y r) at.0 w.3))

pub after_stops : {S A : Type 0} (step : Step S) (next : Form S A) (p : S) (e : Refusal) → ((rest : S) → step p rest → ⊥) → Refuses (After step next p) e
after_stops step next p e h = λ some y r w. h w.0 w.1

pub after_on : {S A : Type 0} (step : Step S) (next : Form S A) → IsSure step → (p mid : S) → step p mid
    → (e : Refusal) → Refuses (next mid) e → Refuses (After step next p) e
after_on step next sure p mid h e refused = λ some y r w. refused some y r (subst (λ m. next m y r) (sure p w.0 mid w.1 h) w.2)

-- what follows the first part is read whole
pub then_reads : {S A B : Type 0} (first : Form S A) (next : A → Form S B) → IsOne first → (p : S) (x : A) (mid : S) → first p x mid
    → (r : Result (B × S) Refusal) → Reads (next x mid) r → Reads (Then first next p) r
then_reads first next one p x mid h (Ok y) reads = (x, mid, h, reads)
then_reads first next one p x mid h (Err e) reads = then_on first next one p x mid h e reads

pub after_reads : {S A : Type 0} (step : Step S) (next : Form S A) → IsSure step → (p mid : S) → step p mid
    → (r : Result (A × S) Refusal) → Reads (next mid) r → Reads (After step next p) r
after_reads step next sure p mid h (Ok y) reads = (mid, h, reads)
after_reads step next sure p mid h (Err e) reads = after_on step next sure p mid h e reads
