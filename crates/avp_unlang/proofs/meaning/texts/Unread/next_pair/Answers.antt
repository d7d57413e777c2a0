use Rattle.std.proofs.Common.{◌<◌, ap, length, sym, ◌∙◌}
use Rattle.avp_unlang.specs.internal.SpelledOctets.{after_pair, before, octets_of_pairs}
use Rattle.avp_unlang.specs.internal.UnreadTexts.{unread}
use Rattle.avp_unlang.proofs.PairsRead.{lone_digit, nothing_paired, pair_taken, two_shorter, where_some}
use Rattle.avp_unlang.proofs.meaning.texts.Unread.next_pair.Goals as goal

pub returns-in_err-high-clause-read : goal.returns-in_err-high-clause-read
returns-in_err-high-clause-read g c =
    let a = c.args.around.now in
    nothing_paired (unread a c.args.self.now) (unread a c.next.new.self) c.next.result c.next.ensures.read c.in_err-high.was
    ∙ sym (ap (λ r. after_pair r (octets_of_pairs (unread a c.next.new.self))) c.from_residual.ensures)

pub returns-in-Some-clause-read : goal.returns-in-Some-clause-read
returns-in-Some-clause-read g c =
    let a = c.args.around.now in
    pair_taken (unread a c.args.self.now) (unread a c.next.new.self) (unread a c.next-2.new.self) c.in_ok-high.high c.in-Some.low c.in_ok-high.ensures.read c.in-Some.ensures.read
    ∙ sym (ap (λ o. before o (octets_of_pairs (unread a c.next-2.new.self))) c.octet_spelled.ensures)

pub returns-in-Some-clause-shorter : goal.returns-in-Some-clause-shorter
returns-in-Some-clause-shorter g c =
    let a = c.args.around.now in
    where_some c.octet_spelled.result (length (unread a c.next-2.new.self) < length (unread a c.args.self.now))
    (two_shorter (unread a c.args.self.now) (unread a c.next.new.self) (unread a c.next-2.new.self) c.in_ok-high.high c.in-Some.low c.in_ok-high.ensures.read c.in-Some.ensures.read)

pub returns-in-None-clause-read : goal.returns-in-None-clause-read
returns-in-None-clause-read g c =
    let a = c.args.around.now in
    lone_digit (unread a c.args.self.now) (unread a c.next.new.self) (unread a c.next-2.new.self) c.in_ok-high.high c.next-2.result c.in_ok-high.ensures.read c.next-2.ensures.read c.in-None.is
