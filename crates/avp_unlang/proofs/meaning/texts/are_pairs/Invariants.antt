use Rattle.std.proofs.Common.{◌≡◌, is_some, length}
use Rattle.avp_unlang.specs.internal.SpelledOctets.{octets_of_pairs}
use Rattle.avp_unlang.specs.internal.UnreadTexts.{IsLegible, unread}
use Rattle.avp_unlang.proofs.meaning.texts.are_pairs.Given as goal

abbrev pub invariant-loop-octet : goal.invariant-loop-octet
invariant-loop-octet g l = record {
  legible : IsLegible l.around l.digits;
  so_far : is_some (octets_of_pairs (unread l.around l.digits)) ≡ is_some (octets_of_pairs (unread l.around l.fn.digits));
}

abbrev pub decreases-loop-octet : goal.decreases-loop-octet
decreases-loop-octet g l = length (unread l.around l.digits)
