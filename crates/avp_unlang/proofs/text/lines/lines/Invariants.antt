use Rattle.std.proofs.Common.{◌≤◌, length}
use Rattle.avp_unlang.specs.Lines.{LineIs, begins_line}
use Rattle.avp_unlang.specs.RefusedForms.{WhileFails}
use Rattle.avp_unlang.specs.RefusedLines.{LineFails}
use Rattle.avp_unlang.proofs.RefusedReads.{IsCarried}
use Rattle.avp_unlang.proofs.ValueRuns.{IsRun}
use Rattle.avp_unlang.proofs.text.lines.lines.Given as goal

abbrev pub invariant-loop-alloc : goal.invariant-loop-alloc
invariant-loop-alloc l = record {
  run : IsRun begins_line (LineIs l.profile l.dictionary l.own) l.initial.rest l.lines.items l.rest;
  within : length l.rest.text ≤ length l.initial.rest.text;
  refused : IsCarried (WhileFails begins_line (LineIs l.profile l.dictionary l.own) (LineFails l.profile l.dictionary l.own)) l.rest (WhileFails begins_line (LineIs l.profile l.dictionary l.own) (LineFails l.profile l.dictionary l.own)) l.initial.rest;
}

abbrev pub decreases-loop-alloc : goal.decreases-loop-alloc
decreases-loop-alloc l = length l.rest.text
