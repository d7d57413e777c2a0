use Rattle.std.proofs.Common.{◌≡◌, ◌++◌, take}
use Rattle.std.specs.List.{flat_map}
use Rattle.radpolicy.specs.Reports.{note_line}
use Rattle.radpolicy.proofs.reports.checks.push_notes.Given as goal

abbrev pub invariant-loop-note : goal.invariant-loop-note
invariant-loop-note l = l.text.items ≡ l.fn.text.items ++ flat_map (note_line l.files) (take l.note-index l.notes)
