-- How many records each line of the policies made different.
use Rattle.std.specs.Prelude.{ℕ, ◌+◌, Bool, not, if◌then◌else◌, List, ◌++◌, filter, map}
use Rattle.std.specs.List.{list_any}
use Rattle.radpolicy_changing_lines.specs.Differences.{same_line}
use Rattle.radpolicy_changing_lines.specs.declared.differences.PolicyLine.{PolicyLine}
use Rattle.radpolicy_replay_records.specs.declared.line_counts.LineCount.{LineCount}

-- a count with one record more, where its line is among these
abbrev pub counted_once : List PolicyLine → LineCount → LineCount
counted_once lines count =
    if list_any (same_line count.line) lines
    then record count { records = count.records + 1 } else count

abbrev pub is_counted : List LineCount → PolicyLine → Bool
is_counted counts line = list_any (λ count. same_line line count.line) counts

abbrev pub is_new : List LineCount → PolicyLine → Bool
is_new counts line = not (is_counted counts line)

abbrev pub first_count : PolicyLine → LineCount
first_count line = record { line = line; records = 1 }

-- the counts with one record more that these lines made different; a line without a count gets its first
abbrev pub with_lines : List LineCount → List PolicyLine → List LineCount
with_lines counts lines =
    map (counted_once lines) counts ++ map first_count (filter (is_new counts) lines)
