use Rattle.std.proofs.Common.{◌≡◌, length}
use Rattle.std.specs.Cmp.Lexicographic.{slice_cmp}
use Rattle.std.specs.Ordering.{nat_cmp}
use Rattle.avp_unlang.specs.internal.UnreadTexts.{IsLegible, unread}
use Rattle.avp_unlang.proofs.meaning.texts.order_of_octets.Given as goal

abbrev pub invariant-loop-octet : goal.invariant-loop-octet
invariant-loop-octet g l = record {
  left : IsLegible l.around l.left;
  right : IsLegible l.around l.right;
  so_far : slice_cmp nat_cmp (unread l.around l.left) (unread l.around l.right) ≡ slice_cmp nat_cmp (unread l.around l.fn.left) (unread l.around l.fn.right);
}

abbrev pub decreases-loop-octet : goal.decreases-loop-octet
decreases-loop-octet g l = length (unread l.around l.left)
