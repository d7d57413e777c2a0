-- Places of refusals.
use Rattle.std.specs.Prelude.{List}
use Rattle.server_configuration.specs.Places.{HasLine}
use Rattle.server_configuration.specs.declared.faults.Refusal.{Refusal}
use Rattle.server_configuration.specs.declared.faults.Refusal.TheVariants.{Memory, At, Unread}
use Rattle.server_configuration.specs.declared.sources.SourceFile.{SourceFile}

-- A refusal's place is a line of a file, or memory ran out.
abbrev pub IsPlaced : List SourceFile → Refusal → Type 0
IsPlaced files Memory = Unit {0}
IsPlaced files (At file line kind) = HasLine files file line
IsPlaced files (Unread file line kind path) = HasLine files file line
