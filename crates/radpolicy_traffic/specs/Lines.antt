-- Lines of the input.
use Rattle.std.specs.Prelude.{◌≡◌, ℕ, List, drop}

-- The text is the line without some octets at its front.
abbrev pub IsEndOf : List ℕ → List ℕ → Type 0
IsEndOf line text = (k : ℕ) × (text ≡ drop k line)
