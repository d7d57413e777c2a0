use Rattle.std.proofs.Common.{◌≡◌, ◌+◌, ◌≤◌, length}
use Rattle.avp_dict.specs.Lines.{texts_of}
use Rattle.radpolicy_clients.specs.Lines.{clients_from, clients_of_lines}
use Rattle.radpolicy_clients.specs.internal.Choosing.{after}
use Rattle.radpolicy_clients.proofs.lines.read_lines.Given as goal

abbrev pub invariant-loop-octets : goal.invariant-loop-octets
invariant-loop-octets l = record {
  room : l.line + length l.rest ≤ length l.text;
  read : after l.clients (clients_from (l.line + 1) (texts_of l.rest)) ≡ clients_of_lines l.text;
}

abbrev pub decreases-loop-octets : goal.decreases-loop-octets
decreases-loop-octets l = length l.rest
