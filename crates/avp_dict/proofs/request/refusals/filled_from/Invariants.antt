use Rattle.std.proofs.Common.{◌≤◌, ◌-◌, length}
use Rattle.avp_dict.specs.internal.LineEnds.{IsPastBlanks}
use Rattle.avp_dict.proofs.request.refusals.filled_from.Given as goal

abbrev pub invariant-loop-octet : goal.invariant-loop-octet
invariant-loop-octet l = record {
  within : l.place ≤ length l.text;
  blanks : IsPastBlanks l.text l.fn.offset l.place;
}

abbrev pub decreases-loop-octet : goal.decreases-loop-octet
decreases-loop-octet l = length l.text - l.place
