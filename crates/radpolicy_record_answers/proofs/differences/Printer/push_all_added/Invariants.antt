use Rattle.std.proofs.Common.{◌≡◌, ◌++◌, length}
use Rattle.std.specs.List.{flat_map}
use Rattle.radpolicy_common.specs.ChangeTexts.{AllFit}
use Rattle.radpolicy_record_answers.specs.Comparisons.{pairs_of}
use Rattle.radpolicy_record_answers.specs.Differences.{added_line}
use Rattle.radpolicy_record_answers.proofs.differences.Printer.push_all_added.Given as goal

abbrev pub invariant-loop-rest : goal.invariant-loop-rest
invariant-loop-rest l = record {
  fit : AllFit l.self.new.now (pairs_of l.rest);
  text : l.text.items ++ flat_map (added_line l.self.new.now l.self.redaction.now) (pairs_of l.rest)
      ≡ l.fn.text.items ++ flat_map (added_line l.self.new.now l.self.redaction.now) (pairs_of l.pairs);
}

abbrev pub decreases-loop-rest : goal.decreases-loop-rest
decreases-loop-rest l = length l.rest
