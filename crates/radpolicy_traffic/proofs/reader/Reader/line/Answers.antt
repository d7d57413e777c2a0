use Rattle.std.proofs.Common.{arith}
use Rattle.radpolicy_traffic.proofs.Growing.{are_from_among, are_from_self, from_among, from_new}
use Rattle.radpolicy_traffic.proofs.reader.Reader.line.Goals as goal

pub returns-in-Request-clause-held : goal.returns-in-Request-clause-held
returns-in-Request-clause-held c =
    let records = c.args.self.now.records.items in
    let line = c.args.line.now in c.begin.ensures.held line records (are_from_self line records)

pub returns-in-Request-clause-taken : goal.returns-in-Request-clause-taken
returns-in-Request-clause-taken c =
    let records = c.args.self.now.records.items in
    let line = c.args.line.now in c.begin.ensures.taken line records (are_from_self line records)

pub returns-then-begins_unannounced : goal.returns-then-begins_unannounced
returns-then-begins_unannounced c =
    let records = c.args.self.now.records.items in
    let line = c.args.line.now in
    record {
      kept = c.push.ensures.count;
      held = c.push.ensures.held line records (are_from_self line records)
          (from_new line records c.in_ok-begun.begun.record (c.in_ok-begun.ensures line c.mark_of-mark.ensures));
      taken = c.push.ensures.taken line records (are_from_self line records);
    }

pub returns : goal.returns
returns c =
    let records = c.args.self.now.records.items in
    let line = c.args.line.now in
    let changed = c.take_mark.new.self.records.items in
    let from = c.in_ok-take_mark.ensures.held line c.mark_of-mark.ensures in
    record {
      kept = omega (arith, c.take.ensures.count, c.take_mark.ensures.count);
      held = are_from_among line records changed c.take.new.self.records.items from c.take.ensures.held;
      taken = from_among line records changed c.take.result from c.take.ensures.taken;
    }
