use Rattle.std.proofs.Common.{length, ◌-◌, ◌%◌, ◌++◌, ◌≡◌, ◌≤◌, drop, map, replicate, take}
use Rattle.avp_dict.specs.Words.{lower}
use Rattle.avp_dict.proofs.tables.keys.folded.Given as goal

abbrev pub invariant-loop-i : goal.invariant-loop-i
invariant-loop-i l = record {
  whole : l.i % 16 ≡ 0;
  within : l.i ≤ 128;
  done : l.octets ≡ map lower (take l.i (l.name ++ replicate (128 - length l.name) 0)) ++ drop l.i (l.name ++ replicate (128 - length l.name) 0);
}

abbrev pub decreases-loop-i : goal.decreases-loop-i
decreases-loop-i l = 128 - l.i
