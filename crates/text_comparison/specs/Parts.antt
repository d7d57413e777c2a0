-- What is held of a text that comes in parts.
use Rattle.std.specs.Prelude.{◌≡◌, List, ℕ}
use Rattle.text_comparison.specs.Lines.{first_line, has_line_end, kept, last_line, line_number}
use Rattle.text_comparison.specs.declared.lines.Beginning.{Beginning}
use Rattle.text_comparison.specs.declared.lines.Place.{Place}

-- this is the end of a text
pub record IsPlace (text : List ℕ) (place : Place) : Type 0 where
  pub number : place.number ≡ line_number text
  pub line : place.line.items ≡ kept (last_line text)

-- a text begins with this
pub record IsBeginning (text : List ℕ) (beginning : Beginning) : Type 0 where
  pub line : beginning.line.items ≡ kept (first_line text)
  pub ended : beginning.is_ended ≡ has_line_end text
