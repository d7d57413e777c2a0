use Rattle.std.proofs.Common.{length}
use Rattle.server_configuration.specs.internal.Readings.{IsIncludeIn, IsReading}
use Rattle.server_configuration.proofs.includes.Reading.open_names.Given as goal

abbrev pub decreases-loop-name : goal.decreases-loop-name
decreases-loop-name g l = length l.names.items

abbrev pub invariant-loop-name : goal.invariant-loop-name
invariant-loop-name g l = record {
  reading : IsReading l.self;
  include : IsIncludeIn l.self.files.items l.self.items.items l.include;
}
