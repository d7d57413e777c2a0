use Rattle.std.proofs.Common.{◌≡◌, ◌++◌, length}
use Rattle.std.specs.List.{flat_map}
use Rattle.radpolicy_record_answers.specs.Comparisons.{pairs_of}
use Rattle.radpolicy_record_answers.specs.Differences.{added_line, instances_change, removed_line}
use Rattle.radpolicy_record_answers.proofs.differences.Printer.push_all_instances.Given as goal

abbrev pub invariant-loop-rest : goal.invariant-loop-rest
invariant-loop-rest l = l.text.items
    ++ flat_map (instances_change (removed_line l.self.old.now l.self.redaction.now) (added_line l.self.new.now l.self.redaction.now) (pairs_of l.old) (pairs_of l.new)) l.rest
    ≡ l.fn.text.items
    ++ flat_map (instances_change (removed_line l.self.old.now l.self.redaction.now) (added_line l.self.new.now l.self.redaction.now) (pairs_of l.old) (pairs_of l.new)) l.ids

abbrev pub decreases-loop-rest : goal.decreases-loop-rest
decreases-loop-rest l = length l.rest
