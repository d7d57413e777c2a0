use Rattle.std.proofs.Common.{◌≡◌, length}
use Rattle.radpolicy_clients.specs.Addresses.{same_bits}
use Rattle.radpolicy_clients.proofs.addresses.same_bits.Given as goal

abbrev pub invariant-loop-a : goal.invariant-loop-a
invariant-loop-a l = same_bits l.count l.a l.b ≡ same_bits l.fn.count l.fn.a l.fn.b

abbrev pub decreases-loop-a : goal.decreases-loop-a
decreases-loop-a l = length l.a
