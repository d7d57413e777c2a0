use Rattle.std.proofs.Common.{◌≡◌, ◌++◌, drop}
use Rattle.server_configuration.specs.Lookups.{places_in}
use Rattle.server_configuration.proofs.configurations.Configuration.children.Given as goal

abbrev pub invariant-loop-place : goal.invariant-loop-place
invariant-loop-place l =
    l.places.items ++ places_in l.section l.place (drop l.place l.self.items.items)
    ≡ places_in l.section 0 l.self.items.items
