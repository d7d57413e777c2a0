-- Two texts that come in parts, and the first line in which they differ.
use Rattle.std.specs.Prelude.{◌≡◌, ◌<◌, ℕ, ◌==◌, if◌then◌else◌, List, [], ◌∷◌, ◌++◌, drop, length, Option, None, Some}
use Rattle.std.specs.Global.{Vec}
use Rattle.text_comparison.specs.Lines.{first_line, kept, last_line, line_number}
use Rattle.text_comparison.specs.Parts.{IsBeginning, IsPlace}
use Rattle.text_comparison.specs.declared.comparisons.Comparison.{Comparison}
use Rattle.text_comparison.specs.declared.comparisons.OtherLine.{OtherLine}

-- what both texts begin with
abbrev pub common : List ℕ → List ℕ → List ℕ
common [] now = []
common (o ∷ earlier) [] = []
common (o ∷ earlier) (p ∷ now) = if o == p then o ∷ common earlier now else []

-- what a text has after what it begins with
abbrev pub after : List ℕ → List ℕ → List ℕ
after front text = drop (length front) text

-- ---- the first line in which they differ

-- The line in which this front of a text ends, where the text goes on with that, as far as it is kept; none where the
-- text ends with the line before.
abbrev pub IsLine : List ℕ → List ℕ → Option (Vec ℕ) → Type 0
IsLine front rest None = (last_line front ≡ []) × (rest ≡ [])
IsLine front rest (Some line) = (line.items ≡ kept (last_line front ++ first_line rest))
    × (last_line front ≡ [] → rest ≡ [] → ⊥)

pub record IsOther (earlier now : List ℕ) (other : OtherLine) : Type 0 where
  pub number : other.number ≡ line_number (common earlier now)
  pub line : IsLine (common earlier now) (after (common earlier now) earlier) other.earlier
  pub line_now : IsLine (common earlier now) (after (common earlier now) now) other.current

-- there is none exactly where the texts are the same
abbrev pub IsFirstOther : List ℕ → List ℕ → Option OtherLine → Type 0
IsFirstOther earlier now None = earlier ≡ now
IsFirstOther earlier now (Some other) = (earlier ≡ now → ⊥) × IsOther earlier now other

-- ---- as they come

-- so much of two texts was compared
pub record AreCompared (earlier now : List ℕ) (comparison : Comparison) : Type 0 where
  pub place : IsPlace (common earlier now) comparison.place
  pub rest : IsBeginning (after (common earlier now) earlier) comparison.earlier
  pub rest_now : IsBeginning (after (common earlier now) now) comparison.current

-- two texts may go on so: of one that is shorter than the other no more comes
abbrev pub GoOn : List ℕ → List ℕ → List ℕ → List ℕ → Type 0
GoOn earlier now more_earlier more_now = (length earlier < length now → more_earlier ≡ [])
    × (length now < length earlier → more_now ≡ [])
