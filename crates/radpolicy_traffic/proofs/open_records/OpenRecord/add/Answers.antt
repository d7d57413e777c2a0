use Rattle.std.proofs.lemmas.Result.{on_ok_weaker}
use Rattle.radpolicy_traffic.proofs.Growing.{grown_counted, grown_same}
use Rattle.radpolicy_traffic.proofs.open_records.OpenRecord.add.Goals as goal

pub returns-then-not-has_room : goal.returns-then-not-has_room
returns-then-not-has_room c = λ line end. c.give_up.ensures line

pub returns : goal.returns
returns c = λ line end. on_ok_weaker c.push.result
    (λ grown. grown_counted line c.args.self.now.record c.count.new.self.record c.push.new.self c.count.ensures grown)
    (c.push.ensures.grown line end)

pub returns-then-eq : goal.returns-then-eq
returns-then-eq c = λ line end. grown_same line c.args.self.now.record
