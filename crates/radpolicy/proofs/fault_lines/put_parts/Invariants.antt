use Rattle.std.proofs.Common.{◌≡◌, take}
use Rattle.std.specs.List.{flat_map}
use Rattle.std.specs.Io.KnownBytes.{Appends}
use Rattle.radpolicy.proofs.fault_lines.put_parts.Given as goal

abbrev pub invariant-loop-part : goal.invariant-loop-part
invariant-loop-part g l = record {
  takes : Appends (g.O.Output.taken l.initial.out) (g.O.Output.taken l.out) (flat_map (λ part. part.now) (take l.part-index l.parts));
  stays : g.O.Output.has_failed l.out ≡ g.O.Output.has_failed l.initial.out;
}
