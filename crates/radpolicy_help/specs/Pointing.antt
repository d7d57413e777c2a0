-- A line as it is shown on a terminal, and a caret below one of its octets.
use Rattle.std.specs.Prelude.{◌≡◌, ◌==◌, if◌then◌else◌, ℕ, false, List, [], ◌∷◌, ◌++◌, chars, codes, flat_map, replicate}
use Rattle.unicode_width.specs.Width.{str_width}
use Rattle.radpolicy_common.specs.VisibleText.{IsVisibleText}
use Rattle.radpolicy_common.specs.declared.terminals.LineBreaks.TheVariants.{Escaped}

-- a tab is shown as four spaces
abbrev pub untabbed_octet : ℕ → List ℕ
untabbed_octet o = if o == 9 then codes "    " else o ∷ []

abbrev pub untabbed : List ℕ → List ℕ
untabbed octets = flat_map untabbed_octet octets

-- what is shown of a line's octets
abbrev pub IsShown : List ℕ → List ℕ → Type 0
IsShown octets text = IsVisibleText Escaped (untabbed octets) text

-- how many columns of a terminal a text takes
abbrev pub columns : List ℕ → ℕ
columns text = str_width false (chars text)

-- A line of these octets before and after a place, as it is shown, and a caret: below the first column of what is shown
-- of the octets after the place.
pub record PointsBetween (front back line caret : List ℕ) : Type 0 where
  pub front_shown : List ℕ
  pub back_shown : List ℕ
  pub is_front : IsShown front front_shown
  pub is_back : IsShown back back_shown
  pub is_line : line ≡ front_shown ++ back_shown
  pub is_caret : caret ≡ replicate (columns front_shown) 32 ++ codes "^"
