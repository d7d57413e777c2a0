-- Statements of one file, and lists of items that grow.
use Rattle.std.specs.Prelude.{◌≡◌, ℕ, ◌≤◌, ◌++◌, List, [], ◌∷◌}
use Rattle.server_configuration.specs.declared.items.Item.{Item}
use Rattle.server_configuration.specs.declared.statements.Placed.{Placed}

-- The new items are the old ones and more after them.
abbrev pub Grows : List Item → List Item → Type 0
Grows old new = (more : List Item) × (new ≡ old ++ more)

-- Statements begin on a file's lines.
abbrev pub AreWithin : ℕ → List Placed → Type 0
AreWithin lines [] = Unit {0}
AreWithin lines (placed ∷ statements) = (1 ≤ placed.line) × (placed.line ≤ lines) × AreWithin lines statements
