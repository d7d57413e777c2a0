use Rattle.std.proofs.Common.{◌≡◌, ◌<◌, ◌⊎◌, length}
use Rattle.avp_unlang.specs.Parts.{begins_octet, OctetIs}
use Rattle.avp_unlang.proofs.ValueRuns.{IsRun}
use Rattle.avp_unlang.proofs.text.parts.octets.Given as goal

abbrev pub invariant-loop-found : goal.invariant-loop-found
invariant-loop-found l = record {
  run : IsRun begins_octet OctetIs l.initial.rest l.octets.items l.rest;
  moved : (length l.rest < length l.initial.rest) ⊎ (l.rest ≡ l.initial.rest);
}

abbrev pub decreases-loop-found : goal.decreases-loop-found
decreases-loop-found l = length l.rest
