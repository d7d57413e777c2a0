use Rattle.std.proofs.Common.{◌≡◌, ◌+◌, ◌≤◌, length}
use Rattle.server_configuration.specs.Places.{AreNested, BeginWithin, IsSectionOf, line_feeds}
use Rattle.server_configuration.specs.declared.reader.TheConstants.{MAX_ITEMS}
use Rattle.server_configuration.proofs.reader.read_items.Given as goal

abbrev pub decreases-loop-alloc : goal.decreases-loop-alloc
decreases-loop-alloc l = length l.cursor.rest.now

abbrev pub invariant-loop-alloc : goal.invariant-loop-alloc
invariant-loop-alloc l = record {
  lines : l.cursor.lines ≡ 1 + line_feeds l.octets;
  within : BeginWithin (1 + line_feeds l.octets) l.items.items;
  count : length l.items.items ≤ MAX_ITEMS;
  nested : AreNested l.items.items;
  open_section : IsSectionOf l.items.items l.spot.section;
}
