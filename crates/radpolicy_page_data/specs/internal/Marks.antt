-- Transactions that are not at their end, and how the lists at a position come of those at such a mark or before.
use Rattle.std.specs.Prelude.{◌≡◌, ◌<◌, ℕ, List, [], ◌∷◌, Option, None, Some}
use Rattle.avp_lists.specs.declared.lists.State.{State}
use Rattle.avp_step.specs.Trace.{Entry}
use Rattle.radpolicy_page_data.specs.Differences.{AreSplices, lists_at}
use Rattle.radpolicy_page_data.specs.declared.differences.Difference.{Difference}
use Rattle.radpolicy_page_data.specs.declared.differences.Difference.TheVariants.{Again, Spliced}
use Rattle.radpolicy_page_data.specs.declared.differences.Mark.{Mark}

-- the lists of the mark are those at its position, which is before this one
abbrev pub IsMark : List Entry → ℕ → Mark → Type 0
IsMark trace k mark = (mark.position < k) × (mark.lists ≡ lists_at trace mark.position)

abbrev pub AreMarks : List Entry → ℕ → List Mark → Type 0
AreMarks trace k [] = Unit {0}
AreMarks trace k (mark ∷ marks) = IsMark trace k mark × AreMarks trace k marks

abbrev pub IsMarkIfGiven : List Entry → ℕ → Option Mark → Type 0
IsMarkIfGiven trace k None = Unit {0}
IsMarkIfGiven trace k (Some mark) = IsMark trace k mark

-- the position at the mark, whose lists are these
abbrev pub IsAgain : Option Mark → State → ℕ → Type 0
IsAgain None lists earlier = ⊥
IsAgain (Some mark) lists earlier = (mark.position ≡ earlier) × (mark.lists ≡ lists)

-- the lists are those at the mark, or splices make them of those before
abbrev pub IsDifference : Option Mark → State → State → Difference → Type 0
IsDifference mark before lists (Again earlier) = IsAgain mark lists earlier
IsDifference mark before lists (Spliced request reply control) =
    AreSplices request reply control before lists
