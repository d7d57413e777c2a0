use Rattle.std.proofs.Common.{length}
use Rattle.server_configuration.specs.internal.Readings.{IsOpenIn, IsReading}
use Rattle.server_configuration.proofs.includes.Reading.add_statements.Given as goal

abbrev pub decreases-loop-line : goal.decreases-loop-line
decreases-loop-line l = length l.opened.statements.items

abbrev pub invariant-loop-line : goal.invariant-loop-line
invariant-loop-line l = record {
  reading : IsReading l.self;
  opened : IsOpenIn l.self.files.items l.self.items.items l.opened;
}
