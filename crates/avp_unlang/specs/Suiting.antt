-- When a policy suits a dictionary: its attributes are known, its literals fit, and what it compares is of one type, or
-- a text or a pattern beside a type that is compared with those.
use Rattle.std.specs.Prelude.{ℕ, Bool, true, false, not, ◌&&◌, List, Option, Some, None}
use Rattle.std.specs.List.{list_all}
use Rattle.avp_dict.specs.Limits.{fits}
use Rattle.avp_dict.specs.Sent.{is_container}
use Rattle.avp_dict.specs.declared.entries.Kind.{Kind}
use Rattle.avp_dict.specs.declared.entries.Kind.TheVariants as kinds
use Rattle.avp_dict.specs.Dictionary.{Dictionary}
use Rattle.avp_unlang.specs.Conditions.{is_beside_texts}
use Rattle.avp_unlang.specs.Policies.{SpellsPolicy}
use Rattle.avp_unlang.specs.References.{type_of}
use Rattle.avp_unlang.specs.Resolutions.{line_suits, pair_of}
use Rattle.avp_unlang.specs.declared.tree.Comparand.{Comparand}
use Rattle.avp_unlang.specs.declared.tree.Comparand.TheVariants.{Literal, Instance}
use Rattle.avp_unlang.specs.declared.tree.Comparison.{Comparison}
use Rattle.avp_unlang.specs.declared.tree.Branch.{Branch}
use Rattle.avp_unlang.specs.declared.tree.Cond.{Cond}
use Rattle.avp_unlang.specs.declared.tree.Cond.TheFolds.{fold-Cond}
use Rattle.avp_unlang.specs.declared.tree.Cond.TheOpen.{Cond-F, Any, All, Not, Last, Present, PresentSelected, Compare, CompareMeant, CompareTexts, Match, MatchText, MatchGroup, Captured}
use Rattle.avp_unlang.specs.declared.tree.Part.{Part}
use Rattle.avp_unlang.specs.declared.tree.Part.TheVariants as part
use Rattle.avp_unlang.specs.declared.tree.TextSide.{TextSide}
use Rattle.avp_unlang.specs.declared.tree.TextSide.TheVariants as side
use Rattle.avp_unlang.specs.declared.tree.Statement.{Statement}
use Rattle.avp_unlang.specs.declared.tree.Statement.TheFolds.{fold-Statement, fold-Branch}
use Rattle.avp_unlang.specs.declared.tree.Statement.TheOpen.{Statement-F, Branch-F, Update, If, Transaction, Word}

abbrev pub same_kind : Kind → Kind → Bool
same_kind kinds.Text kinds.Text = true
same_kind kinds.Bytes kinds.Bytes = true
same_kind kinds.Addr kinds.Addr = true
same_kind kinds.Integer kinds.Integer = true
same_kind kinds.Date kinds.Date = true
same_kind kinds.Byte kinds.Byte = true
same_kind kinds.Short kinds.Short = true
same_kind kinds.Signed kinds.Signed = true
same_kind kinds.Integer64 kinds.Integer64 = true
same_kind kinds.Ether kinds.Ether = true
same_kind _ _ = false

-- ---- conditions

-- a literal that fits, or a reference to values of this type
abbrev pub comparand_suits : Dictionary → Comparison → Comparand → Bool
comparand_suits dictionary c (Literal value) = fits (pair_of c.id value) dictionary
comparand_suits dictionary c (Instance list id) = same_kind c.kind (type_of dictionary id)

-- the type that a comparison keeps is that of its attribute
abbrev pub comparison_suits : Dictionary → Comparison → Bool
comparison_suits dictionary c =
    same_kind c.kind (type_of dictionary c.id) && comparand_suits dictionary c c.comparand

-- values are put in as what they mean, of attributes that have values
abbrev pub part_suits : Part → Bool
part_suits (part.Meant list id selection) = not (is_container id)
part_suits (part.Instance list id) = false
part_suits _ = true

-- an instance is of a type that is compared with texts
abbrev pub side_suits : Dictionary → TextSide → Bool
side_suits dictionary (side.Text parts) = list_all part_suits parts
side_suits dictionary (side.Instance list id selection) =
    not (is_container id) && is_beside_texts dictionary id

abbrev pub itself : Bool → Bool
itself b = b

abbrev pub cond_layer_suits : Dictionary → Cond-F Bool → Bool
cond_layer_suits dictionary (Any parts) = list_all itself parts
cond_layer_suits dictionary (All parts) = list_all itself parts
cond_layer_suits dictionary (Not part) = part
cond_layer_suits dictionary (Last word) = true
cond_layer_suits dictionary (Present list id) = true
cond_layer_suits dictionary (PresentSelected list id selection) = true
cond_layer_suits dictionary (Compare comparison) = comparison_suits dictionary comparison
cond_layer_suits dictionary (CompareMeant comparison) = true
cond_layer_suits dictionary (Match matching) = not (is_container matching.id)
cond_layer_suits dictionary (CompareTexts comparison) =
    side_suits dictionary comparison.left && list_all part_suits comparison.right
cond_layer_suits dictionary (MatchText matching) = not (is_container matching.id)
cond_layer_suits dictionary (MatchGroup matching) = true
cond_layer_suits dictionary (Captured group) = true

unfoldable pub cond_suits : Dictionary → Cond → Bool
cond_suits dictionary = fold-Cond Bool (cond_layer_suits dictionary)

-- ---- statements

abbrev pub block_suits : Option (List Bool) → Bool
block_suits None = true
block_suits (Some block) = list_all itself block

abbrev pub statement_layer_suits : Dictionary → Statement-F Bool Bool → Bool
statement_layer_suits dictionary (Update n updates) = list_all (line_suits dictionary) updates
statement_layer_suits dictionary (If branches otherwise) =
    list_all itself branches && block_suits otherwise
statement_layer_suits dictionary (Transaction n block) = list_all itself block
statement_layer_suits dictionary (Word n word) = true

abbrev pub branch_layer_suits : Dictionary → Branch-F Bool Bool → Bool
branch_layer_suits dictionary b = cond_suits dictionary b.cond && list_all itself b.block

abbrev pub statement_suits : Dictionary → Statement → Bool
statement_suits dictionary =
    fold-Statement Bool Bool (statement_layer_suits dictionary) (branch_layer_suits dictionary)

abbrev pub branch_suits : Dictionary → Branch → Bool
branch_suits dictionary =
    fold-Branch Bool Bool (statement_layer_suits dictionary) (branch_layer_suits dictionary)

abbrev pub policy_suits : Dictionary → List Statement → Bool
policy_suits dictionary statements = list_all (statement_suits dictionary) statements

-- the branches of an `if`, and its last block
abbrev pub branches_suit : Dictionary → List Branch → Bool
branches_suit dictionary bs = list_all (branch_suits dictionary) bs

abbrev pub else_suits : Dictionary → Option (List Statement) → Bool
else_suits dictionary None = true
else_suits dictionary (Some block) = policy_suits dictionary block

-- ---- texts

-- a text spells the policy by the dictionary
abbrev pub IsSpelled : Dictionary → List Statement → Type 0
IsSpelled dictionary statements = (text : List ℕ) × SpellsPolicy dictionary text statements
