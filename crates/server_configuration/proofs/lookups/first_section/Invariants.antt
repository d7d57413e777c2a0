use Rattle.std.proofs.Common.{◌≡◌, drop}
use Rattle.server_configuration.specs.Lookups.{first_place, is_section_in}
use Rattle.server_configuration.proofs.lookups.first_section.Given as goal

abbrev pub invariant-loop-place : goal.invariant-loop-place
invariant-loop-place l =
    first_place (is_section_in l.section l.name) l.place (drop l.place l.items) ≡ first_place (is_section_in l.section l.name) 0 l.items
