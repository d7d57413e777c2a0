use Rattle.std.proofs.Common.{◌≡◌, length}
use Rattle.avp_unlang.specs.internal.UnreadTexts.{IsLegible, unread}
use Rattle.avp_unlang.proofs.meaning.texts.Unread.next.Given as goal

abbrev pub invariant-loop-octet : goal.invariant-loop-octet
invariant-loop-octet g l = record {
  legible : IsLegible l.around l.self;
  left : unread l.around l.fn.self ≡ unread l.around l.self;
}

abbrev pub decreases-loop-octet : goal.decreases-loop-octet
decreases-loop-octet g l = length l.self.parts.now
