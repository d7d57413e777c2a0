-- Marks of items, and lines of items that are marked.
use Rattle.std.specs.Prelude.{ℕ, ◌≡◌, List, Bool, true, false, Some, get_or, option_map, slice_get}
use Rattle.server_configuration.specs.declared.items.Item.{Item}
use Rattle.radpolicy_import_policies.specs.Origins.{origin_in}
use Rattle.radpolicy_import_policies.specs.declared.origins.LineOrigin.{LineOrigin}

-- no mark is set at other places than these
abbrev pub MarksOnly : (ℕ → Type 0) → List Bool → Type 0
MarksOnly P marks = (place : ℕ) → get_or marks place false ≡ true → P place

pub record IsMarked (items : List Item) (marks : List Bool) (line : LineOrigin) : Type 0 where
  pub place : ℕ
  pub found : option_map origin_in (slice_get items place) ≡ Some line.origin
  pub mark : get_or marks place false ≡ true
