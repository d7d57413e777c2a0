use Rattle.std.proofs.Common.{length}
use Rattle.avp_unlang.specs.Parts.{is_left, PartIs}
use Rattle.avp_unlang.specs.RefusedForms.{WhileFails}
use Rattle.avp_unlang.specs.RefusedLines.{PartFails}
use Rattle.avp_unlang.proofs.RefusedReads.{IsCarried}
use Rattle.avp_unlang.proofs.ValueRuns.{IsRun}
use Rattle.avp_unlang.proofs.text.parts.parts.Given as goal

abbrev pub invariant-loop-rest : goal.invariant-loop-rest
invariant-loop-rest l = record {
  run : IsRun is_left (PartIs l.profile l.dictionary) l.initial.rest l.parts.items l.rest;
  refused : IsCarried (WhileFails is_left (PartIs l.profile l.dictionary) (PartFails l.profile l.dictionary l.quoted.left)) l.rest
      (WhileFails is_left (PartIs l.profile l.dictionary) (PartFails l.profile l.dictionary l.quoted.left)) l.initial.rest;
}

abbrev pub decreases-loop-rest : goal.decreases-loop-rest
decreases-loop-rest l = length l.rest
