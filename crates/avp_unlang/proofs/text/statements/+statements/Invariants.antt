use Rattle.std.proofs.Common.{suc, length, ◌+◌, ◌*◌, ◌≤◌, ◌<◌}
use Rattle.avp_unlang.specs.Statements.{BranchIs, Nested, begins_word}
use Rattle.avp_unlang.specs.Between.{Follows}
use Rattle.avp_unlang.specs.RefusedForms.{OthersFails, WhileFails, left_at}
use Rattle.avp_unlang.specs.RefusedStatements.{BranchFails, BranchesFail, NestedFails}
use Rattle.avp_unlang.proofs.Chains.{IsFront}
use Rattle.avp_unlang.proofs.RefusedReads.{IsCarried}
use Rattle.avp_unlang.proofs.ValueRuns.{IsRun}
use Rattle.avp_unlang.proofs.StatementsOne.{elsif_word}
use Rattle.avp_unlang.proofs.text.statements.+statements.Given as goal

abbrev pub decreases-block : goal.decreases-block
decreases-block l = 8 * l.depth

abbrev pub decreases-branch : goal.decreases-branch
decreases-branch l = 8 * l.depth + 1

abbrev pub decreases-transaction : goal.decreases-transaction
decreases-transaction l = 8 * l.depth + 1

abbrev pub decreases-otherwise : goal.decreases-otherwise
decreases-otherwise l = 8 * l.depth + 1

abbrev pub decreases-branches : goal.decreases-branches
decreases-branches l = 8 * l.depth + 3

abbrev pub decreases-conditional : goal.decreases-conditional
decreases-conditional l = 8 * l.depth + 4

abbrev pub decreases-statement : goal.decreases-statement
decreases-statement l = 8 * l.depth + 5

abbrev pub decreases-statements : goal.decreases-statements
decreases-statements l = 8 * l.depth + 6

abbrev pub invariant-statements-loop-alloc : goal.invariant-statements-loop-alloc
invariant-statements-loop-alloc l = record {
  run : IsRun begins_word (Nested l.profile l.dictionary (suc l.depth)) l.initial.rest l.statements.items l.rest;
  within : length l.rest.text ≤ length l.initial.rest.text;
  refused : IsCarried (WhileFails begins_word (Nested l.profile l.dictionary (suc l.depth)) (NestedFails l.profile l.dictionary (suc l.depth))) l.rest
      (WhileFails begins_word (Nested l.profile l.dictionary (suc l.depth)) (NestedFails l.profile l.dictionary (suc l.depth))) l.initial.rest;
}

abbrev pub decreases-statements-loop-alloc : goal.decreases-statements-loop-alloc
decreases-statements-loop-alloc l = length l.rest.text

abbrev pub invariant-branches-loop-next : goal.invariant-branches-loop-next
invariant-branches-loop-next l = record {
  front : IsFront (Follows elsif_word) (BranchIs l.profile l.dictionary l.depth (Nested l.profile l.dictionary l.depth)) l.fn.at l.branches.items l.rest;
  within : length l.rest.text < length l.fn.at.text;
  refused : IsCarried (OthersFails (Follows elsif_word) (BranchIs l.profile l.dictionary l.depth (Nested l.profile l.dictionary l.depth)) (λ before. BranchFails l.profile l.dictionary l.depth (Nested l.profile l.dictionary l.depth) (NestedFails l.profile l.dictionary l.depth) (left_at before))) l.rest
      (BranchesFail l.profile l.dictionary l.depth (Nested l.profile l.dictionary l.depth) (NestedFails l.profile l.dictionary l.depth) l.fn.begin.left) l.fn.at;
}

abbrev pub decreases-branches-loop-next : goal.decreases-branches-loop-next
decreases-branches-loop-next l = length l.rest.text
