use Rattle.std.proofs.Common.{suc, length, ◌+◌, ◌*◌, ◌≤◌}
use Rattle.avp_unlang.specs.declared.text.tokens.Sign.TheVariants.{And, Or}
use Rattle.avp_unlang.specs.declared.text.tokens.Token.TheVariants.{Operator}
use Rattle.avp_unlang.specs.Conditions.{Within, Both}
use Rattle.avp_unlang.specs.Between.{Follows}
use Rattle.avp_unlang.specs.RefusedConditions.{BothFails, EitherFails, WithinFails}
use Rattle.avp_unlang.specs.RefusedForms.{OthersFails}
use Rattle.avp_unlang.proofs.Chains.{IsFront}
use Rattle.avp_unlang.proofs.RefusedReads.{IsCarried}
use Rattle.avp_unlang.proofs.text.conditions.+conditions.Given as goal

abbrev pub decreases-closed : goal.decreases-closed
decreases-closed l = 4 * l.depth

abbrev pub decreases-negated : goal.decreases-negated
decreases-negated l = 4 * l.depth

abbrev pub decreases-operand : goal.decreases-operand
decreases-operand l = 4 * l.depth + 1

abbrev pub decreases-both : goal.decreases-both
decreases-both l = 4 * l.depth + 2

abbrev pub decreases-either : goal.decreases-either
decreases-either l = 4 * l.depth + 3

abbrev pub invariant-both-loop-next : goal.invariant-both-loop-next
invariant-both-loop-next l = record {
  front : IsFront (Follows (Operator And)) (Within l.profile l.dictionary (suc l.depth)) l.fn.at l.conds.items l.rest;
  within : length l.rest.text ≤ length l.fn.at.text;
  refused : IsCarried (OthersFails (Follows (Operator And)) (Within l.profile l.dictionary (suc l.depth)) (λ before. (WithinFails l.profile l.dictionary (suc l.depth)))) l.rest (BothFails (Within l.profile l.dictionary (suc l.depth)) (WithinFails l.profile l.dictionary (suc l.depth))) l.fn.at;
}

abbrev pub decreases-both-loop-next : goal.decreases-both-loop-next
decreases-both-loop-next l = length l.rest.text

abbrev pub invariant-either-loop-next : goal.invariant-either-loop-next
invariant-either-loop-next l = record {
  front : IsFront (Follows (Operator Or)) (Both (Within l.profile l.dictionary (suc l.depth))) l.fn.at l.conds.items l.rest;
  within : length l.rest.text ≤ length l.fn.at.text;
  refused : IsCarried (OthersFails (Follows (Operator Or)) (Both (Within l.profile l.dictionary (suc l.depth))) (λ before. BothFails (Within l.profile l.dictionary (suc l.depth)) (WithinFails l.profile l.dictionary (suc l.depth)))) l.rest (EitherFails (Within l.profile l.dictionary (suc l.depth)) (WithinFails l.profile l.dictionary (suc l.depth))) l.fn.at;
}

abbrev pub decreases-either-loop-next : goal.decreases-either-loop-next
decreases-either-loop-next l = length l.rest.text
