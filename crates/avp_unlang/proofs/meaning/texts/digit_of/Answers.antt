use Rattle.avp_unlang.proofs.UnreadOctets.{lower_digit, upper_digit}
use Rattle.avp_unlang.proofs.meaning.texts.digit_of.Goals as goal

pub returns-then-at-eq0 : goal.returns-then-at-eq0
returns-then-at-eq0 c = upper_digit c.args.octet c.args.at c.from.result c.if-at-eq0.true c.from.ensures

pub returns-else-at-eq0 : goal.returns-else-at-eq0
returns-else-at-eq0 c = lower_digit c.args.octet c.args.at c.from-else-at-eq0.result c.if-at-eq0.false c.from-else-at-eq0.ensures
