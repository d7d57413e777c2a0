use Rattle.std.proofs.Common.{◌≡◌, ◌+◌, length}
use Rattle.server_configuration.specs.Places.{line_feeds}
use Rattle.server_configuration.specs.internal.Statements.{AreWithin}
use Rattle.server_configuration.proofs.reader.read_statements.Given as goal

abbrev pub decreases-loop-cursor : goal.decreases-loop-cursor
decreases-loop-cursor l = length l.cursor.rest.now

abbrev pub invariant-loop-cursor : goal.invariant-loop-cursor
invariant-loop-cursor l = record {
  lines : l.cursor.lines ≡ 1 + line_feeds l.octets;
  within : AreWithin (1 + line_feeds l.octets) l.statements.items;
}
