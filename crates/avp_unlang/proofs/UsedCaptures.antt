-- Which of each kind of condition and statement look at what was captured.
use Rattle.std.proofs.Common.{◌≡◌, ℕ, Bool, true, false, ◌||◌, List, [], ◌∷◌, map, Option, None, Some, refl, sym, ap, ◌∙◌}
use Rattle.std.specs.List.{list_any}
use Rattle.avp_lists.specs.declared.tags.Selection.{Selection}
use Rattle.avp_lists.specs.declared.pairs.AttrId.{AttrId}
use Rattle.avp_lists.specs.declared.lists.List.{List as Name}
use Rattle.avp_unlang.specs.CaptureUse.{branch_layer_captures, branch_uses_captures, branches_use_captures, else_uses_captures, line_uses_captures, statement_layer_captures, statement_uses_captures, uses_captures}
use Rattle.avp_unlang.specs.Evaluations.{cond_layer_captures, cond_uses_captures, is_capture, itself, side_has_captures}
use Rattle.avp_unlang.specs.declared.codes.Code.{Code}
use Rattle.avp_unlang.specs.declared.tree.Branch.{Branch, out-Branch}
use Rattle.avp_unlang.specs.declared.tree.Comparison.{Comparison}
use Rattle.avp_unlang.specs.declared.tree.Cond.{Cond}
use Rattle.avp_unlang.specs.declared.tree.Cond.TheFolds.{fold-roll-Cond}
use Rattle.avp_unlang.specs.declared.tree.Cond.TheOpen as cond_layer
use Rattle.avp_unlang.specs.declared.tree.Cond.TheVariants.{Any, All, Not, Last, Present, PresentSelected, Compare, CompareMeant, CompareTexts, Match, MatchText, MatchGroup, Captured, rolls-Any, rolls-All, rolls-Not, rolls-Last, rolls-Present, rolls-PresentSelected, rolls-Compare, rolls-CompareMeant, rolls-CompareTexts, rolls-Match, rolls-MatchText, rolls-MatchGroup, rolls-Captured}
use Rattle.avp_unlang.specs.declared.tree.GroupMatching.{GroupMatching}
use Rattle.avp_unlang.specs.declared.tree.Line.{Line}
use Rattle.avp_unlang.specs.declared.tree.Matching.{Matching}
use Rattle.avp_unlang.specs.declared.tree.MeantComparison.{MeantComparison}
use Rattle.avp_unlang.specs.declared.tree.Statement.{Statement}
use Rattle.avp_unlang.specs.declared.tree.TextComparison.{TextComparison}
use Rattle.avp_unlang.specs.declared.tree.Statement.TheFolds.{fold-roll-Statement, fold_out-Branch}
use Rattle.avp_unlang.specs.declared.tree.Statement.TheOpen as layer
use Rattle.avp_unlang.specs.declared.tree.Statement.TheVariants.{Update, If, Transaction, Word, rolls-Update, rolls-If, rolls-Transaction, rolls-Word}

pub any_itself : {A : Type 0} (f : A → Bool) (xs : List A) → list_any itself (map f xs) ≡ list_any f xs
any_itself f [] = refl
any_itself f (x ∷ xs) = ap (λ b. f x || b) (any_itself f xs)

-- ---- conditions

pub uses_any : (cs : List Cond) → cond_uses_captures (Any cs) ≡ list_any cond_uses_captures cs
unfolding cond_uses_captures
uses_any cs =
    ap cond_uses_captures (sym (rolls-Any cs)) ∙ fold-roll-Cond Bool cond_layer_captures (cond_layer.Any cs)
    ∙ any_itself cond_uses_captures cs

pub uses_all : (cs : List Cond) → cond_uses_captures (All cs) ≡ list_any cond_uses_captures cs
unfolding cond_uses_captures
uses_all cs =
    ap cond_uses_captures (sym (rolls-All cs)) ∙ fold-roll-Cond Bool cond_layer_captures (cond_layer.All cs)
    ∙ any_itself cond_uses_captures cs

pub uses_not : (part : Cond) → cond_uses_captures (Not part) ≡ cond_uses_captures part
unfolding cond_uses_captures
uses_not part =
    ap cond_uses_captures (sym (rolls-Not part)) ∙ fold-roll-Cond Bool cond_layer_captures (cond_layer.Not part)

pub uses_last : (word : Code) → cond_uses_captures (Last word) ≡ false
unfolding cond_uses_captures
uses_last word =
    ap cond_uses_captures (sym (rolls-Last word)) ∙ fold-roll-Cond Bool cond_layer_captures (cond_layer.Last word)

pub uses_present : (list : Name) (id : AttrId) → cond_uses_captures (Present list id) ≡ false
unfolding cond_uses_captures
uses_present list id =
    ap cond_uses_captures (sym (rolls-Present list id)) ∙ fold-roll-Cond Bool cond_layer_captures (cond_layer.Present list id)

pub uses_present_selected : (list : Name) (id : AttrId) (selection : Selection) → cond_uses_captures (PresentSelected list id selection) ≡ false
unfolding cond_uses_captures
uses_present_selected list id selection =
    ap cond_uses_captures (sym (rolls-PresentSelected list id selection)) ∙ fold-roll-Cond Bool cond_layer_captures (cond_layer.PresentSelected list id selection)

pub uses_compare : (k : Comparison) → cond_uses_captures (Compare k) ≡ false
unfolding cond_uses_captures
uses_compare k =
    ap cond_uses_captures (sym (rolls-Compare k)) ∙ fold-roll-Cond Bool cond_layer_captures (cond_layer.Compare k)

pub uses_compare_meant : (k : MeantComparison) → cond_uses_captures (CompareMeant k) ≡ false
unfolding cond_uses_captures
uses_compare_meant k =
    ap cond_uses_captures (sym (rolls-CompareMeant k)) ∙ fold-roll-Cond Bool cond_layer_captures (cond_layer.CompareMeant k)

pub uses_match : (m : Matching) → cond_uses_captures (Match m) ≡ false
unfolding cond_uses_captures
uses_match m =
    ap cond_uses_captures (sym (rolls-Match m)) ∙ fold-roll-Cond Bool cond_layer_captures (cond_layer.Match m)

pub uses_compare_texts : (k : TextComparison) → cond_uses_captures (CompareTexts k) ≡ (side_has_captures k.left || list_any is_capture k.right)
unfolding cond_uses_captures
uses_compare_texts k =
    ap cond_uses_captures (sym (rolls-CompareTexts k)) ∙ fold-roll-Cond Bool cond_layer_captures (cond_layer.CompareTexts k)

pub uses_match_text : (m : Matching) → cond_uses_captures (MatchText m) ≡ false
unfolding cond_uses_captures
uses_match_text m =
    ap cond_uses_captures (sym (rolls-MatchText m)) ∙ fold-roll-Cond Bool cond_layer_captures (cond_layer.MatchText m)

pub uses_match_group : (m : GroupMatching) → cond_uses_captures (MatchGroup m) ≡ true
unfolding cond_uses_captures
uses_match_group m =
    ap cond_uses_captures (sym (rolls-MatchGroup m)) ∙ fold-roll-Cond Bool cond_layer_captures (cond_layer.MatchGroup m)

pub uses_captured : (group : ℕ) → cond_uses_captures (Captured group) ≡ true
unfolding cond_uses_captures
uses_captured group =
    ap cond_uses_captures (sym (rolls-Captured group)) ∙ fold-roll-Cond Bool cond_layer_captures (cond_layer.Captured group)

-- ---- statements

pub uses_Update : (n : ℕ) (ls : List Line) → statement_uses_captures (Update n ls) ≡ list_any line_uses_captures ls
uses_Update n ls =
    ap statement_uses_captures (sym (rolls-Update n ls)) ∙ fold-roll-Statement Bool Bool statement_layer_captures branch_layer_captures (layer.Update n ls)

pub uses_If : (bs : List Branch) (otherwise : Option (List Statement)) → statement_uses_captures (If bs otherwise) ≡ (branches_use_captures bs || else_uses_captures otherwise)
uses_If bs None =
    ap statement_uses_captures (sym (rolls-If bs None)) ∙ fold-roll-Statement Bool Bool statement_layer_captures branch_layer_captures (layer.If bs None)
    ∙ ap (λ b. b || false) (any_itself branch_uses_captures bs)
uses_If bs (Some block) =
    ap statement_uses_captures (sym (rolls-If bs (Some block))) ∙ fold-roll-Statement Bool Bool statement_layer_captures branch_layer_captures (layer.If bs (Some block))
    ∙ ap (λ b. b || list_any itself (map statement_uses_captures block)) (any_itself branch_uses_captures bs)
    ∙ ap (λ b. branches_use_captures bs || b) (any_itself statement_uses_captures block)

pub uses_Transaction : (n : ℕ) (block : List Statement) → statement_uses_captures (Transaction n block) ≡ uses_captures block
uses_Transaction n block =
    ap statement_uses_captures (sym (rolls-Transaction n block)) ∙ fold-roll-Statement Bool Bool statement_layer_captures branch_layer_captures (layer.Transaction n block)
    ∙ any_itself statement_uses_captures block

pub uses_Word : (n : ℕ) (code : Code) → statement_uses_captures (Word n code) ≡ false
uses_Word n code =
    ap statement_uses_captures (sym (rolls-Word n code)) ∙ fold-roll-Statement Bool Bool statement_layer_captures branch_layer_captures (layer.Word n code)

pub uses_Branch : (b : Branch) → branch_uses_captures b ≡ (cond_uses_captures (out-Branch b).cond || uses_captures (out-Branch b).block)
uses_Branch b =
    fold_out-Branch Bool Bool statement_layer_captures branch_layer_captures b
    ∙ ap (λ x. cond_uses_captures (out-Branch b).cond || x) (any_itself statement_uses_captures (out-Branch b).block)
