-- How texts spell values: each case is chosen by what comes next, so a place spells at most one value of a form.
use Rattle.std.specs.Prelude.{◌≡◌, ◌≢◌, Bool, true, false, List, [], ◌∷◌, Option, Some, Result, Ok, Err}
use Rattle.avp_unlang.specs.declared.faults.PolicyKind.TheVariants.{Memory}
use Rattle.avp_unlang.specs.declared.faults.Refusal.{Refusal}

-- form p x rest: from the place p a value x is spelled, and reading goes on at rest
abbrev pub Form : Type 0 → Type 0 → Type 1
Form S A = S → A → S → Type 0

-- step p rest: what is wanted is at p, and reading goes on at rest
abbrev pub Step : Type 0 → Type 1
Step S = S → S → Type 0

-- nothing more is read, and this value is spelled
abbrev pub Gives : {S A : Type 0} → A → Form S A
Gives x p y rest = (y ≡ x) × (rest ≡ p)

-- nothing more is read, and this value is spelled if it is one
abbrev pub Becomes : {S A : Type 0} → Option A → Form S A
Becomes value p y rest = (value ≡ Some y) × (rest ≡ p)

-- a step, and then a value
abbrev pub After : {S A : Type 0} → Step S → Form S A → Form S A
After step next p y rest = (mid : _) × step p mid × next mid y rest

-- a value, and then what it makes of the text after it
abbrev pub Then : {S A B : Type 0} → Form S A → (A → Form S B) → Form S B
Then first next p y rest = (x : _) × (mid : _) × first p x mid × next x mid y rest

-- the same two as `do` blocks: a line `x ← form` is a value and then the rest, and a line that is a step goes before it
infixl 10 ◌>>=◌
abbrev pub ◌>>=◌ : {S A B : Type 0} → Form S A → (A → Form S B) → Form S B
first >>= next = Then first next

infixl 10 ◌>>◌
abbrev pub ◌>>◌ : {S A : Type 0} → Step S → Form S A → Form S A
step >> next = After step next

-- values while the next token begins one
abbrev pub While : {S A : Type 0} → (S → Bool) → Form S A → Form S (List A)
While begins form p [] rest = (begins p ≡ false) × (rest ≡ p)
While begins form p (x ∷ xs) rest =
    (begins p ≡ true) × (end : _) × form p x end × While begins form end xs rest

-- after a value: no further one, or a step between them and the next one
abbrev pub Others : {S A : Type 0} → Step S → Form S A → Form S (List A)
Others step form p [] rest = ((next : _) → step p next → ⊥) × (rest ≡ p)
Others step form p (x ∷ xs) rest =
    (next : _) × step p next × (end : _) × form next x end × Others step form end xs rest

-- one or more values with a step between any two
abbrev pub Chain : {S A : Type 0} → Step S → Form S A → Form S (List A)
Chain step form p [] rest = ⊥
Chain step form p (x ∷ xs) rest = (end : _) × form p x end × Others step form end xs rest

-- A refusal: nothing is spelled, unless memory was short. A form is a relation and no function, and so no definition
-- that `Meets` takes.
abbrev pub Refuses : {S A : Type 0} → (A → S → Type 0) → Refusal → Type 0
Refuses spelled refusal = refusal.kind ≢ Memory → (x : _) (rest : _) → spelled x rest → ⊥

-- What a reader answers: what is spelled and where reading goes on, or a refusal.
abbrev pub Reads : {S A : Type 0} → (A → S → Type 0) → Result (A × S) Refusal → Type 0
Reads spelled (Ok x) = spelled x.0 x.1
Reads spelled (Err refusal) = Refuses spelled refusal

-- The same of a step.
abbrev pub Takes : {S : Type 0} → (S → Type 0) → Result S Refusal → Type 0
Takes step (Ok rest) = step rest
Takes step (Err refusal) = (rest : _) → step rest → ⊥

-- The same of a whole text.
abbrev pub ReadsAll : {A : Type 0} → (A → Type 0) → Result A Refusal → Type 0
ReadsAll spelled (Ok x) = spelled x
ReadsAll spelled (Err refusal) = refusal.kind ≢ Memory → (x : _) → spelled x → ⊥
