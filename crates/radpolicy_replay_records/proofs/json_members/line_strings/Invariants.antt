use Rattle.std.proofs.Common.{◌≡◌, ◌++◌, drop, filter, length, map}
use Rattle.std.specs.List.{slice_split}
use Rattle.avp_dict.specs.Lines.{is_line_end}
use Rattle.avp_dict.specs.Words.{is_word}
use Rattle.avp_dict.specs.internal.Views.{views}
use Rattle.radpolicy_replay_records.proofs.json_members.line_strings.Given as goal

abbrev pub invariant-loop-line : goal.invariant-loop-line
invariant-loop-line l =
    views l.strings.items ++ map (drop l.blanks) (filter is_word (slice_split is_line_end l.rest))
    ≡ map (drop l.blanks) (filter is_word (slice_split is_line_end l.lines))

abbrev pub decreases-loop-line : goal.decreases-loop-line
decreases-loop-line l = length l.rest
