-- Which operators make a list longer, and which can only make it shorter: tests that the code makes before an edit.
use Rattle.std.specs.Prelude.{Bool, true, false, not, List}
use Rattle.std.specs.List.{list_any}
use Rattle.avp_lists.specs.declared.pairs.Pair.{Pair}
use Rattle.avp_lists.specs.declared.edits.Op.{Op}
use Rattle.avp_lists.specs.declared.edits.Op.TheVariants.{AddNew, Replace, Append, Prepend, RemoveEqual, KeepEqual, RemoveAll}

-- an operator makes a list longer, by whether one that is selected is there
abbrev pub lengthens : Op → Bool → Bool
lengthens AddNew there = not there
lengthens Replace there = not there
lengthens Append there = true
lengthens Prepend there = true
lengthens RemoveEqual there = false
lengthens KeepEqual there = false
lengthens RemoveAll there = false

-- an operator makes the list longer, where these are selected
abbrev pub adds_one : Op → (Pair → Bool) → List Pair → Bool
adds_one op test pairs = lengthens op (list_any test pairs)

-- an operator takes pairs away and adds none
abbrev pub removes : Op → Bool
removes AddNew = false
removes Replace = false
removes Append = false
removes Prepend = false
removes RemoveEqual = true
removes KeepEqual = true
removes RemoveAll = true
