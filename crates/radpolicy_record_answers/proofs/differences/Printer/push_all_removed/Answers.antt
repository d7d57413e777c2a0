use Rattle.std.proofs.Common.{◌++◌}
use Rattle.std.specs.List.{flat_map}
use Rattle.radpolicy_record_answers.specs.Comparisons.{pairs_of}
use Rattle.radpolicy_record_answers.specs.Differences.{removed_line}
use Rattle.radpolicy_record_answers.proofs.Fitting.{later_fit, later_text}
use Rattle.radpolicy_record_answers.proofs.differences.Printer.push_all_removed.Goals as goal

pub loop-rest-preserved : goal.loop-rest-preserved
loop-rest-preserved c =
    let line = removed_line c.args.self.now.old.now c.args.self.now.redaction.now in
    record {
      fit = later_fit c.args.self.now.old.now c.loop-rest.rest.now c.in-len1-up.len_at_least c.loop-rest.invariant.fit;
      text = later_text line c.loop-rest.rest.now c.pair-item.result c.loop-rest.text.items c.push_removed.new.text.items (c.args.text.now.items ++ flat_map line (pairs_of c.args.pairs.now))
          c.in-len1-up.len_at_least c.pair-item.is c.in_ok-push_removed.ensures c.loop-rest.invariant.text;
    }
