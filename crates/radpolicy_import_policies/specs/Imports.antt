-- What is kept, and what is left out.
use Rattle.std.specs.Prelude.{ℕ, ◌+◌, List, [], ◌∷◌, map}
use Rattle.radpolicy_import_policies.specs.declared.imports.LeftOut.{LeftOut}
use Rattle.radpolicy_import_policies.specs.declared.imports.Warning.{Warning}
use Rattle.radpolicy_import_policies.specs.declared.origins.LineOrigin.{LineOrigin}
use Rattle.radpolicy_import_policies.specs.declared.origins.Origin.{Origin}

-- how many statements the lines are
abbrev pub kept_in : List LineOrigin → ℕ
kept_in [] = 0
kept_in (line ∷ lines) = line.statements + kept_in lines

-- how many statements the parts are
abbrev pub left_in : List LeftOut → ℕ
left_in [] = 0
left_in (part ∷ parts) = part.count + left_in parts

abbrev pub origin_of_part : LeftOut → Origin
origin_of_part part = part.origin

abbrev pub part_origins : List LeftOut → List Origin
part_origins parts = map origin_of_part parts

abbrev pub origin_of_warning : Warning → Origin
origin_of_warning warning = warning.origin

abbrev pub warning_origins : List Warning → List Origin
warning_origins warnings = map origin_of_warning warnings
