-- Where a text is refused first, and for what: a twin of each form by which texts spell values. What is before that
-- place is read as the form says, and what is there is not what the form wants next.
use Rattle.std.specs.Prelude.{◌≡◌, ◌≢◌, ◌⊎◌, ℕ, zero, suc, Bool, true, false, Option, None, Some, length}
use Rattle.avp_unlang.specs.Between.{Follows}
use Rattle.avp_unlang.specs.Forms.{Form, Step}
use Rattle.avp_unlang.specs.Places.{Place, counted}
use Rattle.avp_unlang.specs.Tokens.{next_token, skipped}
use Rattle.avp_unlang.specs.declared.faults.PolicyKind.{PolicyKind}
use Rattle.avp_unlang.specs.declared.faults.PolicyKind.TheVariants as kinds
use Rattle.avp_unlang.specs.declared.faults.Refusal.{Refusal}
use Rattle.avp_unlang.specs.declared.text.tokens.Token.{Token}
use Rattle.avp_unlang.specs.declared.text.tokens.Token.TheVariants.{Unreadable}

-- fails p left kind: what is read from the place p on is refused for this kind, at the token from which on so many
-- octets of the text are left
abbrev pub Failing : Type 0 → Type 1
Failing S = S → ℕ → PolicyKind → Type 0

-- refused there for this kind
abbrev pub Refused : {S : Type 0} → ℕ → PolicyKind → Failing S
Refused at why p left kind = (left ≡ at) × (kind ≡ why)

-- refused there if there is a kind to be refused for
abbrev pub RefusedIf : {S : Type 0} → ℕ → Option PolicyKind → Failing S
RefusedIf at why p left kind = (left ≡ at) × (why ≡ Some kind)

-- a step, and then a value
abbrev pub AfterFails : {S : Type 0} → Step S → Failing S → Failing S → Failing S
AfterFails step step_fails next_fails p left kind =
    step_fails p left kind ⊎ ((mid : _) × step p mid × next_fails mid left kind)

-- a value, and then what it makes of the text after it
abbrev pub ThenFails : {S A : Type 0} → Form S A → Failing S → (A → Failing S) → Failing S
ThenFails first first_fails next_fails p left kind =
    first_fails p left kind
    ⊎ ((x : _) × (mid : _) × first p x mid × next_fails x mid left kind)

-- values while the next token begins one
pub data WhileFails {S A : Type 0} (begins : S → Bool) (form : Form S A) (fails : Failing S)
    : S → ℕ → PolicyKind → Type 0 where
  here : {p : S} {left : ℕ} {kind : PolicyKind}
      → begins p ≡ true → fails p left kind
      → WhileFails begins form fails p left kind
  later : {p : S} {left : ℕ} {kind : PolicyKind} (x : A) (mid : S)
      → begins p ≡ true → form p x mid → WhileFails begins form fails mid left kind
      → WhileFails begins form fails p left kind

-- after a value, others with a step before each; fails is also told the place before the step, where the step's token
-- begins
pub data OthersFails {S A : Type 0} (step : Step S) (form : Form S A) (fails : S → Failing S)
    : S → ℕ → PolicyKind → Type 0 where
  here : {p : S} {left : ℕ} {kind : PolicyKind} (next : S)
      → step p next → fails p next left kind
      → OthersFails step form fails p left kind
  later : {p : S} {left : ℕ} {kind : PolicyKind} (next : S) (x : A) (mid : S)
      → step p next → form next x mid → OthersFails step form fails mid left kind
      → OthersFails step form fails p left kind

-- one or more values with a step between any two
abbrev pub ChainFails : {S A : Type 0} → Step S → Form S A → Failing S → Failing S
ChainFails step form fails =
    ThenFails form fails (λ x. OthersFails step form (λ before. fails))

-- ---- tokens

-- how many octets of the text are left from the next token on
unfoldable pub left_at : Place → ℕ
left_at p = length (skipped p.line false p.text).1

-- what a token is refused for where it does not fit
abbrev pub unfit : Token → PolicyKind
unfit Unreadable = kinds.Unreadable
unfit _ = kinds.Misplaced

-- the next token does not fit
abbrev pub Unfit : Failing Place
Unfit p = Refused (left_at p) (unfit (next_token p).0) p

-- a token is wanted, and is not there
abbrev pub Misses : Token → Failing Place
Misses token p left kind = ((rest : Place) → Follows token p rest → ⊥) × Unfit p left kind

-- ---- limits

-- the size has no room for so much of a part that begins there
abbrev pub Lacks : ℕ → ℕ → Failing Place
Lacks n at p left kind = (counted n p ≡ None) × Refused at kinds.TooLarge p left kind

-- what is read after a sign that begins there, where n more signs may be nested, the sign counted
abbrev pub DeepFails : ℕ → ℕ → Failing Place → Failing Place
DeepFails zero sign fails p left kind = Refused sign kinds.TooDeep p left kind
DeepFails (suc n) sign fails p left kind = fails p left kind

-- ---- answers of readers

-- what a reader says of a refusal: its place and its kind, unless memory was short
abbrev pub Tells : (ℕ → PolicyKind → Type 0) → Refusal → Type 0
Tells fails refusal = refusal.kind ≢ kinds.Memory → fails refusal.left refusal.kind
