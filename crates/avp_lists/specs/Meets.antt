-- What a call answers, by a definition that speaks of no memory: a call that runs out of memory promises nothing more,
-- and every other answer is exactly the definition's.
use Rattle.std.specs.Prelude.{◌≡◌, ⊤, Bool, true, false, Option, None, Some, Result, Ok, Err}

abbrev pub Unless : Bool → Type 0 → Type 0
Unless true P = ⊤
Unless false P = P

-- is_memory: which errors are want of memory, as their type's own definition says
abbrev pub Meets : {A E : Type 0} → (E → Bool) → Result A E → Result A E → Type 0
Meets is_memory (Ok x) definition = definition ≡ Ok x
Meets is_memory (Err fault) definition = Unless (is_memory fault) (definition ≡ Err fault)

-- the same of a definition that leaves open which error there is
abbrev pub Finds : {A E : Type 0} → (E → Bool) → Result A E → Option A → Type 0
Finds is_memory (Ok x) definition = definition ≡ Some x
Finds is_memory (Err fault) definition = Unless (is_memory fault) (definition ≡ None)
