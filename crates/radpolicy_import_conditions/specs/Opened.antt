-- Conditions without the brackets that change nothing: those round `&&` in `&&`, and round `||` in `||`.
use Rattle.std.specs.Prelude.{◌≡◌, List, [], ◌∷◌, None}
use Rattle.std.specs.List.{flat_map}
use Rattle.avp_unlang.specs.declared.tree.Branch.{Branch}
use Rattle.avp_unlang.specs.declared.tree.Cond.{Cond}
use Rattle.avp_unlang.specs.declared.tree.Cond.TheFolds.{fold-Cond}
use Rattle.avp_unlang.specs.declared.tree.Cond.TheOpen.{Cond-F, Any, All}
use Rattle.avp_unlang.specs.declared.tree.Cond.TheViews.{out-Cond, roll-Cond}
use Rattle.avp_unlang.specs.declared.tree.Statement.{Statement}
use Rattle.avp_unlang.specs.declared.tree.Statement.TheVariants.{If}
use Rattle.avp_unlang.specs.declared.tree.Statement.TheViews.{out-Branch}
use Rattle.radpolicy_import_conditions.specs.declared.printing.Join.{Join}
use Rattle.radpolicy_import_conditions.specs.declared.printing.Join.TheVariants.{And, Or}

-- what a condition is, by its form, beside others with `&&` or `||` between them
abbrev pub parts_in : Join → Cond → Cond-F Cond → List Cond
parts_in And k (All parts) = parts
parts_in Or k (Any parts) = parts
parts_in join k form = k ∷ []

abbrev pub parts : Join → Cond → List Cond
parts join k = parts_in join k (out-Cond k)

abbrev pub opened_layer : Cond-F Cond → Cond
opened_layer (Any conds) = roll-Cond (Any (flat_map (parts Or) conds))
opened_layer (All conds) = roll-Cond (All (flat_map (parts And) conds))
opened_layer form = roll-Cond form

-- a condition, each of whose parts is without such brackets
unfoldable pub opened : Cond → Cond
opened = fold-Cond Cond opened_layer

abbrev pub opened_parts : Join → Cond → List Cond
opened_parts join k = parts join (opened k)

-- one `if` of the condition, of an empty block and without `else`
pub record Says (policy : List Statement) (k : Cond) : Type 0 where
  pub branch : Branch
  pub alone : policy ≡ If (branch ∷ []) None ∷ []
  pub asks : (out-Branch branch).cond ≡ opened k
  pub empty : (out-Branch branch).block ≡ []
