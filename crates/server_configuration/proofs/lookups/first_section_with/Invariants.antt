use Rattle.std.proofs.Common.{◌≡◌, drop}
use Rattle.server_configuration.specs.Lookups.{first_place, is_section_with_in}
use Rattle.server_configuration.proofs.lookups.first_section_with.Given as goal

abbrev pub invariant-loop-place : goal.invariant-loop-place
invariant-loop-place l =
    first_place (is_section_with_in l.section l.name l.second) l.place (drop l.place l.items)
    ≡ first_place (is_section_with_in l.section l.name l.second) 0 l.items
