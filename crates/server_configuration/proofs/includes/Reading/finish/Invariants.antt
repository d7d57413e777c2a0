use Rattle.server_configuration.specs.internal.Readings.{IsReading}
use Rattle.server_configuration.proofs.includes.Reading.finish.Given as goal

abbrev pub invariant-loop : goal.invariant-loop
invariant-loop g l = IsReading l.self
