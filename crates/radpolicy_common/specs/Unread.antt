-- For what files may be refused. Whether there is memory, and whether a file can be read, is the system's to say.
use Rattle.std.specs.Prelude.{◌≡◌, ◌<◌, ℕ, List, length}
use Rattle.std.specs.Borrow.{Bor}
use Rattle.std.specs.List.{Contains}
use Rattle.radpolicy.specs.Plans.{AreDistinct, names_of_paths}
use Rattle.radpolicy_common.specs.declared.files.Unread.{Unread}
use Rattle.radpolicy_common.specs.declared.files.Unread.TheVariants.{File, Memory, NoDictionary, SameNames}

-- what is read under this name: want of memory, or that it can't be read
abbrev pub IsRefusalOf : List ℕ → Unread → Type 0
IsRefusalOf name Memory = Unit {0}
IsRefusalOf name NoDictionary = ⊥
IsRefusalOf name SameNames = ⊥
IsRefusalOf name (File path) = path.now ≡ name

-- files at these paths: want of memory, or that one of them can't be read
abbrev pub IsRefusalOfFiles : List (Bor (List ℕ)) → Unread → Type 0
IsRefusalOfFiles paths Memory = Unit {0}
IsRefusalOfFiles paths NoDictionary = ⊥
IsRefusalOfFiles paths SameNames = ⊥
IsRefusalOfFiles paths (File path) = Contains paths path

-- a set of dictionary files at these paths: that none is named; that two have one last component; and else as above
abbrev pub IsRefusalOfSet : List (Bor (List ℕ)) → Unread → Type 0
IsRefusalOfSet paths Memory = 0 < length paths
IsRefusalOfSet paths NoDictionary = length paths ≡ 0
IsRefusalOfSet paths SameNames = ¬ (AreDistinct (names_of_paths paths))
IsRefusalOfSet paths (File path) = AreDistinct (names_of_paths paths) × Contains paths path
