use Rattle.std.proofs.Common.{◌≡◌, ◌++◌, take, drop}
use Rattle.avp_packet.specs.Hiding.{masked}
use Rattle.avp_packet.proofs.hiding.masked.Given as goal

abbrev pub invariant-loop-place : goal.invariant-loop-place
invariant-loop-place g l = l.octets ≡ masked (take l.place l.mask) (take l.place l.block) ++ drop l.place l.mask
