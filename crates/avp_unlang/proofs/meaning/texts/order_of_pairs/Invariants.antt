use Rattle.std.proofs.Common.{◌≡◌, [], true, is_some, length}
use Rattle.std.specs.Cmp.Lexicographic.{slice_cmp}
use Rattle.std.specs.Option.{unwrap_or}
use Rattle.std.specs.Ordering.{nat_cmp}
use Rattle.avp_unlang.specs.internal.SpelledOctets.{octets_of_pairs}
use Rattle.avp_unlang.specs.internal.UnreadTexts.{IsLegible, unread}
use Rattle.avp_unlang.proofs.meaning.texts.order_of_pairs.Given as goal

abbrev pub invariant-loop-octet : goal.invariant-loop-octet
invariant-loop-octet g l = record {
  left : IsLegible l.around l.left;
  digits : IsLegible l.around l.digits;
  pairs : is_some (octets_of_pairs (unread l.around l.digits)) ≡ true;
  so_far :
      slice_cmp nat_cmp (unread l.around l.left) (unwrap_or (octets_of_pairs (unread l.around l.digits)) [])
      ≡ slice_cmp nat_cmp (unread l.around l.fn.left) (unwrap_or (octets_of_pairs (unread l.around l.fn.digits)) []);
}

abbrev pub decreases-loop-octet : goal.decreases-loop-octet
decreases-loop-octet g l = length (unread l.around l.left)
