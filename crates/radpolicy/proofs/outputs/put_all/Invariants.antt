use Rattle.std.proofs.Common.{◌≡◌, ◌-◌, ◌≤◌, length, take}
use Rattle.std.specs.Io.KnownBytes.{Appends}
use Rattle.radpolicy.proofs.outputs.put_all.Given as goal

abbrev pub invariant-loop-done : goal.invariant-loop-done
invariant-loop-done g l = record {
  within : l.done ≤ length l.octets;
  stays : g.O.Output.has_failed l.out ≡ g.O.Output.has_failed l.initial.out;
  takes : Appends (g.O.Output.taken l.initial.out) (g.O.Output.taken l.out) (take l.done l.octets);
}

abbrev pub decreases-loop-done : goal.decreases-loop-done
decreases-loop-done g l = length l.octets - l.done
