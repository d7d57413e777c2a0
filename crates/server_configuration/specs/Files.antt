-- The files of a configuration.
use Rattle.std.specs.Prelude.{ℕ, ◌+◌, ◌≤◌, List, [], ◌∷◌, length}
use Rattle.server_configuration.specs.declared.sources.SourceFile.{SourceFile}

-- How many octets files hold together.
abbrev pub octets_in : List SourceFile → ℕ
octets_in [] = 0
octets_in (file ∷ files) = length file.octets.items + octets_in files

-- No more than so many includes lead to any of the files.
abbrev pub AreWithinDepth : ℕ → List SourceFile → Type 0
AreWithinDepth depth [] = Unit {0}
AreWithinDepth depth (file ∷ files) = (file.depth ≤ depth) × AreWithinDepth depth files
