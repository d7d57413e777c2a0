use Rattle.std.proofs.Common.{◌≡◌, length}
use Rattle.avp_dict.specs.Lines.{texts_of}
use Rattle.avp_dict.specs.RequestLines.{is_idle_line, without_front}
use Rattle.avp_dict.specs.internal.LineEnds.{IsIdleRead}
use Rattle.avp_dict.proofs.request.lines.without_idle_lines.Given as goal

abbrev pub invariant-loop-line : goal.invariant-loop-line
invariant-loop-line l = record {
  lines : without_front is_idle_line (texts_of l.rest) ≡ without_front is_idle_line (texts_of l.text);
  idle : IsIdleRead l.text l.rest;
}

abbrev pub decreases-loop-line : goal.decreases-loop-line
decreases-loop-line l = length l.rest
