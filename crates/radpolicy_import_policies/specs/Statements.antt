-- How many statements a server's section has, and where they are.
use Rattle.std.specs.Prelude.{ℕ, ◌+◌, ◌++◌, List, [], ◌∷◌, map}
use Rattle.radpolicy_import_policies.specs.declared.statements.StatementKind.{StatementKind}
use Rattle.radpolicy_import_policies.specs.declared.statements.StatementKind.TheVariants as kind
use Rattle.radpolicy_import_policies.specs.declared.statements.Statement.{Statement}
use Rattle.radpolicy_import_policies.specs.declared.statements.Statement.TheFolds.{fold-Statement}
use Rattle.radpolicy_import_policies.specs.declared.statements.Statement.TheOpen.{Statement-F}

-- an update counts by its lines and a chain by its branches; calls of modules and sections of their own are no
-- statements
abbrev pub weight : StatementKind → ℕ
weight kind.Update = 0
weight kind.Chain = 0
weight kind.Module = 0
weight kind.OwnSection = 0
weight _ = 1

abbrev pub total : List ℕ → ℕ
total [] = 0
total (n ∷ ns) = n + total ns

abbrev pub weighed : Statement-F ℕ → ℕ
weighed statement = total statement.block + weight statement.kind

unfoldable pub count : Statement → ℕ
count = fold-Statement ℕ weighed

abbrev pub count_of : List Statement → ℕ
count_of statements = total (map count statements)

-- ---- places

abbrev pub joined : List (List ℕ) → List ℕ
joined [] = []
joined (places ∷ others) = places ++ joined others

abbrev pub placed : Statement-F (List ℕ) → List ℕ
placed statement = statement.place ∷ joined statement.block

-- the place of a statement among the items, and of each in it
unfoldable pub places_in : Statement → List ℕ
places_in = fold-Statement (List ℕ) placed

abbrev pub places_of : List Statement → List ℕ
places_of statements = joined (map places_in statements)
