-- Where lines of a policy come from.
use Rattle.std.specs.Prelude.{ℕ, ◌≡◌, ◌⊎◌, ◌≤◌, ◌+◌, List, [], ◌∷◌, Contains, Some, length, map, option_map, slice_get}
use Rattle.server_configuration.specs.Places.{HasLine}
use Rattle.server_configuration.specs.declared.items.Item.{Item}
use Rattle.server_configuration.specs.declared.sources.SourceFile.{SourceFile}
use Rattle.radpolicy_import_policies.specs.Statements.{places_of}
use Rattle.radpolicy_import_policies.specs.declared.origins.LineOrigin.{LineOrigin}
use Rattle.radpolicy_import_policies.specs.declared.origins.Origin.{Origin}
use Rattle.radpolicy_import_policies.specs.declared.statements.Statement.{Statement}

abbrev pub origin_in : Item → Origin
origin_in item = record { file = item.file; line = item.line }

abbrev pub origin_of_line : LineOrigin → Origin
origin_of_line line = line.origin

abbrev pub line_origins : List LineOrigin → List Origin
line_origins lines = map origin_of_line lines

-- each is a line of a file that was read
abbrev pub AreLines : List SourceFile → List Origin → Type 0
AreLines files [] = Unit {0}
AreLines files (origin ∷ origins) = HasLine files origin.file origin.line × AreLines files origins

-- a place is that of a statement, or one of so many last of all places: those of the initial lists' pairs
abbrev pub IsImported : List Statement → ℕ → ℕ → ℕ → Type 0
IsImported statements all initial place = Contains (places_of statements) place ⊎ all ≤ place + initial

-- a line is of the item at such a place
pub record IsOfItem (items : List Item) (initial : ℕ) (statements : List Statement) (line : LineOrigin) : Type 0 where
  pub place : ℕ
  pub found : option_map origin_in (slice_get items place) ≡ Some line.origin
  pub is_imported : IsImported statements (length items) initial place
