-- Which policies look at what was captured.
use Rattle.std.specs.Prelude.{Bool, false, ◌||◌, List, Option, Some, None}
use Rattle.std.specs.List.{list_any}
use Rattle.avp_unlang.specs.Evaluations.{cond_uses_captures, is_capture, itself}
use Rattle.avp_unlang.specs.declared.tree.Branch.{Branch}
use Rattle.avp_unlang.specs.declared.tree.Line.{Line}
use Rattle.avp_unlang.specs.declared.tree.Source.{Source}
use Rattle.avp_unlang.specs.declared.tree.Source.TheVariants as source
use Rattle.avp_unlang.specs.declared.tree.Statement.{Statement}
use Rattle.avp_unlang.specs.declared.tree.Statement.TheFolds.{fold-Statement, fold-Branch}
use Rattle.avp_unlang.specs.declared.tree.Statement.TheOpen.{Statement-F, Branch-F, Update, If, Transaction, Word}

-- ---- update lines

abbrev pub source_uses_captures : Source → Bool
source_uses_captures (source.Text raw parts) = list_any is_capture parts
source_uses_captures (source.WiderText raw tag parts) = list_any is_capture parts
source_uses_captures _ = false

-- whether something captured is put into the text of a line
abbrev pub line_uses_captures : Line → Bool
line_uses_captures line = source_uses_captures line.source

-- ---- statements

abbrev pub block_captures : Option (List Bool) → Bool
block_captures None = false
block_captures (Some block) = list_any itself block

abbrev pub statement_layer_captures : Statement-F Bool Bool → Bool
statement_layer_captures (Update n lines) = list_any line_uses_captures lines
statement_layer_captures (If branches otherwise) =
    list_any itself branches || block_captures otherwise
statement_layer_captures (Transaction n block) = list_any itself block
statement_layer_captures (Word n word) = false

abbrev pub branch_layer_captures : Branch-F Bool Bool → Bool
branch_layer_captures b = cond_uses_captures b.cond || list_any itself b.block

abbrev pub statement_uses_captures : Statement → Bool
statement_uses_captures =
    fold-Statement Bool Bool statement_layer_captures branch_layer_captures

abbrev pub branch_uses_captures : Branch → Bool
branch_uses_captures = fold-Branch Bool Bool statement_layer_captures branch_layer_captures

-- whether a policy looks at what was captured: in a text or in a condition
abbrev pub uses_captures : List Statement → Bool
uses_captures statements = list_any statement_uses_captures statements

-- the same of the branches of an `if`, and of its last block
abbrev pub branches_use_captures : List Branch → Bool
branches_use_captures branches = list_any branch_uses_captures branches

abbrev pub else_uses_captures : Option (List Statement) → Bool
else_uses_captures None = false
else_uses_captures (Some block) = uses_captures block
