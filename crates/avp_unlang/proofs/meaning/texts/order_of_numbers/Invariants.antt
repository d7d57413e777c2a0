use Rattle.std.proofs.Common.{◌≡◌, length}
use Rattle.std.specs.Option.{unwrap_or}
use Rattle.std.specs.Ordering.{nat_cmp}
use Rattle.avp_dict.specs.Words.{digits}
use Rattle.avp_unlang.specs.internal.UnreadTexts.{IsLegible, unread}
use Rattle.avp_unlang.proofs.TextSteps.{by_length, with_digit}
use Rattle.avp_unlang.proofs.meaning.texts.order_of_numbers.Given as goal

abbrev pub invariant-loop-digit : goal.invariant-loop-digit
invariant-loop-digit g l = record {
  left : IsLegible l.around l.left;
  right : IsLegible l.around l.right;
  so_far :
      by_length l.order (with_digit l.digit (unread l.around l.left)) (with_digit l.beside (unread l.around l.right))
      ≡ nat_cmp (unwrap_or (digits 10 (unread l.around l.fn.left)) 0) (unwrap_or (digits 10 (unread l.around l.fn.right)) 0);
}

abbrev pub decreases-loop-digit : goal.decreases-loop-digit
decreases-loop-digit g l = length (with_digit l.digit (unread l.around l.left))
