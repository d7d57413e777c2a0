-- What a line is.
use Rattle.std.specs.Prelude.{ℕ, List, ⊤}
use Rattle.radpolicy_traffic.specs.Lines.{IsEndOf}
use Rattle.radpolicy_traffic.specs.declared.marks.Mark.{Mark}
use Rattle.radpolicy_traffic.specs.declared.marks.Mark.TheVariants.{Attribute}

-- The text of an attribute is the line without its front.
abbrev pub IsMarkOf : List ℕ → Mark → Type 0
IsMarkOf line (Attribute owner lines text) = IsEndOf line text.now
IsMarkOf line _ = ⊤

-- No attribute.
abbrev pub IsNoAttribute : Mark → Type 0
IsNoAttribute (Attribute owner lines text) = ⊥
IsNoAttribute _ = ⊤
