use Rattle.std.proofs.Common.{◌≡◌, length}
use Rattle.std.specs.Option.{option_copied}
use Rattle.radpolicy_clients.specs.Clients.{client_for}
use Rattle.radpolicy_clients.specs.internal.Choosing.{over}
use Rattle.radpolicy_clients.proofs.clients.Clients.find.Given as goal

abbrev pub invariant-loop-rest : goal.invariant-loop-rest
invariant-loop-rest l = over (option_copied l.found) (client_for l.rest l.address) ≡ client_for l.self l.address

abbrev pub decreases-loop-rest : goal.decreases-loop-rest
decreases-loop-rest l = length l.rest
