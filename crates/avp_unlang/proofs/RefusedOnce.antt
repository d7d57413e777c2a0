-- A place is refused at most once: where a value of a form is read nothing is refused, and what is refused is refused at
-- one place for one kind.
use Rattle.std.proofs.Common.{◌≡◌, inl, inr, Bool, true, false, ℕ, List, [], ◌∷◌, subst}
use Rattle.avp_unlang.specs.Forms.{Form, Step, After, Then, While, Others, Chain}
use Rattle.avp_unlang.specs.RefusedForms.{Failing, AfterFails, ThenFails, WhileFails, OthersFails}
use Rattle.avp_unlang.specs.RefusedPolicies.{without_place}
use Rattle.avp_unlang.specs.declared.faults.PolicyKind.{PolicyKind}
use Rattle.avp_unlang.proofs.Determined.{IsOne, IsSure}

-- one place, and one kind
abbrev pub AreSame : ℕ → PolicyKind → ℕ → PolicyKind → Type 0
AreSame left kind other more = (left ≡ other) × (without_place kind ≡ without_place more)

pub record SettlesAt {S A : Type 0} (form : Form S A) (fails : Failing S) (p : S) : Type 0 where
  pub apart : (x : A) (rest : S) (left : ℕ) (kind : PolicyKind) → form p x rest → fails p left kind → ⊥
  pub once : (left other : ℕ) (kind more : PolicyKind) → fails p left kind → fails p other more → AreSame left kind other more

-- the same of a step
pub record StepsAt {S : Type 0} (step : Step S) (fails : Failing S) (p : S) : Type 0 where
  pub apart : (rest : S) (left : ℕ) (kind : PolicyKind) → step p rest → fails p left kind → ⊥
  pub once : (left other : ℕ) (kind more : PolicyKind) → fails p left kind → fails p other more → AreSame left kind other more

pub then_settles : {S A B : Type 0} (first : Form S A) (first_fails : Failing S) (next : A → Form S B) (next_fails : A → Failing S) (p : S)
    → IsOne first → SettlesAt first first_fails p → ((x : A) (mid : S) → SettlesAt (next x) (next_fails x) mid)
    → SettlesAt (Then first next) (ThenFails first first_fails next_fails) p
then_settles first first_fails next next_fails p one begin more = record {
  apart = apart;
  once = once;
} where
  apart : (y : _) (rest : _) (left : ℕ) (kind : PolicyKind) → Then first next p y rest → ThenFails first first_fails next_fails p left kind → ⊥
  apart y rest left kind h (inl f) = begin.apart h.0 h.1 left kind h.2 f
  apart y rest left kind h (inr f) =
      let at = one p h.0 f.0 h.1 f.1 h.2 f.2 in
      (more f.0 f.1).apart y rest left kind (subst (λ m. next f.0 m y rest) at.1 (subst (λ x. next x h.1 y rest) at.0 h.3)) f.3

  once : (left other : ℕ) (kind also : PolicyKind) → ThenFails first first_fails next_fails p left kind → ThenFails first first_fails next_fails p other also → AreSame left kind other also
  once left other kind also (inl f) (inl g) = begin.once left other kind also f g
  once left other kind also (inl f) (inr g) = absurd (begin.apart g.0 g.1 left kind g.2 f)
  once left other kind also (inr f) (inl g) = absurd (begin.apart f.0 f.1 other also f.2 g)
  once left other kind also (inr f) (inr g) =
      let at = one p f.0 g.0 f.1 g.1 f.2 g.2 in
      (more g.0 g.1).once left other kind also (subst (λ m. next_fails g.0 m left kind) at.1 (subst (λ x. next_fails x f.1 left kind) at.0 f.3)) g.3

pub after_settles : {S A : Type 0} (step : Step S) (step_fails : Failing S) (next : Form S A) (next_fails : Failing S) (p : S)
    → IsSure step → StepsAt step step_fails p → ((mid : S) → SettlesAt next next_fails mid)
    → SettlesAt (After step next) (AfterFails step step_fails next_fails) p
after_settles step step_fails next next_fails p sure begin more = record {
  apart = apart;
  once = once;
} where
  apart : (y : _) (rest : _) (left : ℕ) (kind : PolicyKind) → After step next p y rest → AfterFails step step_fails next_fails p left kind → ⊥
  apart y rest left kind h (inl f) = begin.apart h.0 left kind h.1 f
  apart y rest left kind h (inr f) = (more f.0).apart y rest left kind (subst (λ m. next m y rest) (sure p h.0 f.0 h.1 f.1) h.2) f.2

  once : (left other : ℕ) (kind also : PolicyKind) → AfterFails step step_fails next_fails p left kind → AfterFails step step_fails next_fails p other also → AreSame left kind other also
  once left other kind also (inl f) (inl g) = begin.once left other kind also f g
  once left other kind also (inl f) (inr g) = absurd (begin.apart g.0 left kind g.1 f)
  once left other kind also (inr f) (inl g) = absurd (begin.apart f.0 other also f.1 g)
  once left other kind also (inr f) (inr g) = (more g.0).once left other kind also (subst (λ m. next_fails m left kind) (sure p f.0 g.0 f.1 g.1) f.2) g.2

module _ {S A : Type 0} (begins : S → Bool) (form : Form S A) (fails : Failing S) (one : IsOne form) (each : (p : S) → SettlesAt form fails p) where
  not_both : (b : Bool) → b ≡ false → b ≡ true → ⊥
  not_both b e f = cc

  while_apart : (p : S) (xs : List A) (rest : S) (left : ℕ) (kind : PolicyKind) → While begins form p xs rest → WhileFails begins form fails p left kind → ⊥
  while_apart p [] rest left kind h (WhileFails.here starts f) = not_both (begins p) h.0 starts
  while_apart p [] rest left kind h (WhileFails.later x mid starts read f) = not_both (begins p) h.0 starts
  while_apart p (y ∷ ys) rest left kind h (WhileFails.here starts f) = (each p).apart y h.1 left kind h.2 f
  while_apart p (y ∷ ys) rest left kind h (WhileFails.later x mid starts read f) =
      let at = one p y x h.1 mid h.2 read in while_apart mid ys rest left kind (subst (λ m. While begins form m ys rest) at.1 h.3) f

  while_once : (p : S) (left other : ℕ) (kind also : PolicyKind) → WhileFails begins form fails p left kind → WhileFails begins form fails p other also → AreSame left kind other also
  while_once p left other kind also (WhileFails.here starts f) (WhileFails.here begun g) = (each p).once left other kind also f g
  while_once p left other kind also (WhileFails.here starts f) (WhileFails.later x mid begun read g) = absurd ((each p).apart x mid left kind read f)
  while_once p left other kind also (WhileFails.later x mid starts read f) (WhileFails.here begun g) = absurd ((each p).apart x mid other also read g)
  while_once p left other kind also (WhileFails.later x mid starts read f) (WhileFails.later y end begun more g) =
      let at = one p x y mid end read more in while_once end left other kind also (subst (λ m. WhileFails begins form fails m left kind) at.1 f) g

  pub while_settles : (p : S) → SettlesAt (While begins form) (WhileFails begins form fails) p
  while_settles p = record { apart = while_apart p; once = while_once p }

module _ {S A : Type 0} (step : Step S) (form : Form S A) (fails : S → Failing S) (sure : IsSure step) (one : IsOne form)
    (each : (p next : S) → SettlesAt form (fails p) next) where
  others_apart : (p : S) (xs : List A) (rest : S) (left : ℕ) (kind : PolicyKind) → Others step form p xs rest → OthersFails step form fails p left kind → ⊥
  others_apart p [] rest left kind h (OthersFails.here next goes f) = h.0 next goes
  others_apart p [] rest left kind h (OthersFails.later next x mid goes read f) = h.0 next goes
  others_apart p (y ∷ ys) rest left kind h (OthersFails.here next goes f) =
      (each p next).apart y h.2 left kind (subst (λ n. form n y h.2) (sure p h.0 next h.1 goes) h.3) f
  others_apart p (y ∷ ys) rest left kind h (OthersFails.later next x mid goes read f) =
      let at = one next y x h.2 mid (subst (λ n. form n y h.2) (sure p h.0 next h.1 goes) h.3) read in
      others_apart mid ys rest left kind (subst (λ m. Others step form m ys rest) at.1 h.4) f

  others_once : (p : S) (left other : ℕ) (kind also : PolicyKind) → OthersFails step form fails p left kind → OthersFails step form fails p other also → AreSame left kind other also
  others_once p left other kind also (OthersFails.here next goes f) (OthersFails.here after came g) =
      (each p after).once left other kind also (subst (λ n. fails p n left kind) (sure p next after goes came) f) g
  others_once p left other kind also (OthersFails.here next goes f) (OthersFails.later after x mid came read g) =
      absurd ((each p after).apart x mid left kind read (subst (λ n. fails p n left kind) (sure p next after goes came) f))
  others_once p left other kind also (OthersFails.later next x mid goes read f) (OthersFails.here after came g) =
      absurd ((each p next).apart x mid other also read (subst (λ n. fails p n other also) (sure p after next came goes) g))
  others_once p left other kind also (OthersFails.later next x mid goes read f) (OthersFails.later after y end came more g) =
      let at = one after x y mid end (subst (λ n. form n x mid) (sure p next after goes came) read) more in
      others_once end left other kind also (subst (λ m. OthersFails step form fails m left kind) at.1 f) g

  pub others_settle : (p : S) → SettlesAt (Others step form) (OthersFails step form fails) p
  others_settle p = record { apart = others_apart p; once = others_once p }

-- one or more values with a step between any two
pub chain_settles : {S A : Type 0} (step : Step S) (form : Form S A) (first_fails : Failing S) (fails : S → Failing S) → IsSure step → IsOne form
    → (p : S) → SettlesAt form first_fails p → ((before next : S) → SettlesAt form (fails before) next)
    → SettlesAt (Chain step form) (ThenFails form first_fails (λ x. OthersFails step form fails)) p
chain_settles step form first_fails fails sure one p begin each = record {
  apart = apart;
  once = whole.once;
} where
  whole : SettlesAt (Then form (λ x. Others step form)) (ThenFails form first_fails (λ x. OthersFails step form fails)) p
  whole = then_settles form first_fails (λ x. Others step form) (λ x. OthersFails step form fails) p one begin (λ x mid. others_settle step form fails sure one each mid)

  apart : (xs : List _) (rest : _) (left : ℕ) (kind : PolicyKind) → Chain step form p xs rest → ThenFails form first_fails (λ x. OthersFails step form fails) p left kind → ⊥
  apart [] rest left kind h f = absurd h
  apart (x ∷ xs) rest left kind h f = whole.apart xs rest left kind (x, h.0, h.1, h.2) f
