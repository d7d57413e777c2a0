-- How many records have each difference, and the names of the first of them.
use Rattle.std.specs.Prelude.{ℕ, ◌+◌, Bool, true, false, nat_lt, if◌then◌else◌, List, [], ◌∷◌, ◌++◌, bytes_eq, codes, length, map}
use Rattle.std.specs.List.{list_any}
use Rattle.radpolicy_replay_records.specs.declared.difference_counts.DifferenceCount.{DifferenceCount}
use Rattle.radpolicy_replay_records.specs.declared.difference_counts.TheConstants.{MAX_DIFFERENCES, MAX_NAMES}

abbrev pub has_difference : List ℕ → DifferenceCount → Bool
has_difference difference count = bytes_eq count.difference difference

-- the names of so many records, each on a line, with one more if there is room for it
abbrev pub names_with : ℕ → List ℕ → List ℕ → List ℕ
names_with records names name =
    if nat_lt records MAX_NAMES then names ++ name ++ codes "\n" else names

abbrev pub one_more : List ℕ → DifferenceCount → DifferenceCount
one_more name count = record count {
  records = count.records + 1;
  names = names_with count.records count.names name;
}

-- a count with one record more, where it is of this difference
abbrev pub counted_again : List ℕ → List ℕ → DifferenceCount → DifferenceCount
counted_again name difference count =
    if has_difference difference count then one_more name count else count

abbrev pub first_record : List ℕ → List ℕ → DifferenceCount
first_record name difference =
    record { difference = difference; records = 1; names = name ++ codes "\n" }

-- the count of a new difference, if there is room for it
abbrev pub new_count : Bool → List ℕ → List ℕ → List DifferenceCount
new_count true name difference = first_record name difference ∷ []
new_count false name difference = []

abbrev pub with_difference : List DifferenceCount → List ℕ → List ℕ → List DifferenceCount
with_difference counts name difference =
    if list_any (has_difference difference) counts
    then map (counted_again name difference) counts
    else counts ++ new_count (nat_lt (length counts) MAX_DIFFERENCES) name difference

-- the counts with one record more, of this name and with this difference, if it has one
abbrev pub differences_with : List DifferenceCount → List ℕ → List ℕ → List DifferenceCount
differences_with counts name [] = counts
differences_with counts name (o ∷ os) = with_difference counts name (o ∷ os)
