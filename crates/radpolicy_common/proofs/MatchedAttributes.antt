-- The attributes that each kind of condition and statement compares with patterns.
use Rattle.std.proofs.Common.{◌≡◌, ℕ, List, [], ◌∷◌, ◌++◌, Option, Some, None, sym, ap, ◌∙◌, map, append_assoc, append-nil}
use Rattle.std.specs.List.{flat_map}
use Rattle.avp_lists.specs.declared.lists.List.{List as Name}
use Rattle.avp_lists.specs.declared.pairs.AttrId.{AttrId}
use Rattle.avp_lists.specs.declared.tags.Selection.{Selection}
use Rattle.avp_unlang.specs.declared.codes.Code.{Code}
use Rattle.avp_unlang.specs.declared.tree.Branch.{Branch}
use Rattle.avp_unlang.specs.declared.tree.Comparison.{Comparison}
use Rattle.avp_unlang.specs.declared.tree.Cond.{Cond}
use Rattle.avp_unlang.specs.declared.tree.Cond.TheFolds.{fold-roll-Cond}
use Rattle.avp_unlang.specs.declared.tree.Cond.TheOpen as cond
use Rattle.avp_unlang.specs.declared.tree.Cond.TheVariants.{Any, All, Not, Last, Present, PresentSelected, Compare, CompareMeant, CompareTexts, Match, MatchText, MatchGroup, Captured, rolls-Any, rolls-All, rolls-Not, rolls-Last, rolls-Present, rolls-PresentSelected, rolls-Compare, rolls-CompareMeant, rolls-CompareTexts, rolls-Match, rolls-MatchText, rolls-MatchGroup, rolls-Captured}
use Rattle.avp_unlang.specs.declared.tree.Line.{Line}
use Rattle.avp_unlang.specs.declared.tree.GroupMatching.{GroupMatching}
use Rattle.avp_unlang.specs.declared.tree.Matching.{Matching}
use Rattle.avp_unlang.specs.declared.tree.MeantComparison.{MeantComparison}
use Rattle.avp_unlang.specs.declared.tree.TextComparison.{TextComparison}
use Rattle.avp_unlang.specs.declared.tree.Statement.{Statement}
use Rattle.avp_unlang.specs.declared.tree.Statement.TheFolds.{fold-roll-Statement, fold_out-Branch}
use Rattle.avp_unlang.specs.declared.tree.Statement.TheOpen as layer
use Rattle.avp_unlang.specs.declared.tree.Statement.TheVariants.{Update, If, Transaction, Word, rolls-Update, rolls-If, rolls-Transaction, rolls-Word}
use Rattle.avp_unlang.specs.declared.tree.Statement.TheViews.{out-Branch}
use Rattle.radpolicy_common.specs.Secrets.{branch_matched, cond_matched, matched_by_key, matched_in, matched_in_branch, matched_in_cond, matched_of, statement_matched}
use Rattle.radpolicy_common.specs.internal.PolicyLines.{matched_if_given}
use Rattle.radpolicy_common.proofs.PolicyLines.{flat_mapped}

-- ---- conditions

pub in_any : (parts : List Cond) → matched_in_cond (Any parts) ≡ flat_map matched_in_cond parts
unfolding matched_in_cond
in_any parts =
    ap matched_in_cond (sym (rolls-Any parts)) ∙ fold-roll-Cond (List AttrId) cond_matched (cond.Any parts)
    ∙ flat_mapped matched_in_cond parts

pub in_all : (parts : List Cond) → matched_in_cond (All parts) ≡ flat_map matched_in_cond parts
unfolding matched_in_cond
in_all parts =
    ap matched_in_cond (sym (rolls-All parts)) ∙ fold-roll-Cond (List AttrId) cond_matched (cond.All parts)
    ∙ flat_mapped matched_in_cond parts

pub in_not : (part : Cond) → matched_in_cond (Not part) ≡ matched_in_cond part
unfolding matched_in_cond
in_not part = ap matched_in_cond (sym (rolls-Not part)) ∙ fold-roll-Cond (List AttrId) cond_matched (cond.Not part)

in_match : (m : Matching) → matched_in_cond (Match m) ≡ m.id ∷ matched_by_key m.pattern
unfolding matched_in_cond
in_match m = ap matched_in_cond (sym (rolls-Match m)) ∙ fold-roll-Cond (List AttrId) cond_matched (cond.Match m)

in_match_text : (m : Matching) → matched_in_cond (MatchText m) ≡ m.id ∷ matched_by_key m.pattern
unfolding matched_in_cond
in_match_text m = ap matched_in_cond (sym (rolls-MatchText m)) ∙ fold-roll-Cond (List AttrId) cond_matched (cond.MatchText m)

pub in_match_group : (m : GroupMatching) → matched_in_cond (MatchGroup m) ≡ matched_by_key m.pattern
unfolding matched_in_cond
in_match_group m = ap matched_in_cond (sym (rolls-MatchGroup m)) ∙ fold-roll-Cond (List AttrId) cond_matched (cond.MatchGroup m)

-- an attribute, and what its pattern adds
module _ (m : Matching) (old one new : List AttrId) where
  two_pushed : one ≡ old ++ m.id ∷ [] → new ≡ one ++ matched_by_key m.pattern → new ≡ old ++ (m.id ∷ matched_by_key m.pattern)
  two_pushed first second = second ∙ ap (λ x. x ++ matched_by_key m.pattern) first ∙ append_assoc old (m.id ∷ []) (matched_by_key m.pattern)

  pub match_pushed : one ≡ old ++ m.id ∷ [] → new ≡ one ++ matched_by_key m.pattern → new ≡ old ++ matched_in_cond (Match m)
  match_pushed first second = two_pushed first second ∙ ap (λ x. old ++ x) (sym (in_match m))

  pub match_text_pushed : one ≡ old ++ m.id ∷ [] → new ≡ one ++ matched_by_key m.pattern → new ≡ old ++ matched_in_cond (MatchText m)
  match_text_pushed first second = two_pushed first second ∙ ap (λ x. old ++ x) (sym (in_match_text m))

-- others have none
module _ (old : List AttrId) where
  none_in : (c : Cond) → matched_in_cond c ≡ [] → old ≡ old ++ matched_in_cond c
  none_in c e = sym (append-nil old) ∙ ap (λ x. old ++ x) (sym e)

  pub none_in_last : (word : Code) → old ≡ old ++ matched_in_cond (Last word)
  unfolding matched_in_cond
  none_in_last word = none_in (Last word) (ap matched_in_cond (sym (rolls-Last word)) ∙ fold-roll-Cond (List AttrId) cond_matched (cond.Last word))

  pub none_in_present : (list : Name) (id : AttrId) → old ≡ old ++ matched_in_cond (Present list id)
  unfolding matched_in_cond
  none_in_present list id = none_in (Present list id) (ap matched_in_cond (sym (rolls-Present list id)) ∙ fold-roll-Cond (List AttrId) cond_matched (cond.Present list id))

  pub none_in_present_selected : (list : Name) (id : AttrId) (selection : Selection) → old ≡ old ++ matched_in_cond (PresentSelected list id selection)
  unfolding matched_in_cond
  none_in_present_selected list id selection = none_in (PresentSelected list id selection) (ap matched_in_cond (sym (rolls-PresentSelected list id selection)) ∙ fold-roll-Cond (List AttrId) cond_matched (cond.PresentSelected list id selection))

  pub none_in_compare : (k : Comparison) → old ≡ old ++ matched_in_cond (Compare k)
  unfolding matched_in_cond
  none_in_compare k = none_in (Compare k) (ap matched_in_cond (sym (rolls-Compare k)) ∙ fold-roll-Cond (List AttrId) cond_matched (cond.Compare k))

  pub none_in_compare_meant : (k : MeantComparison) → old ≡ old ++ matched_in_cond (CompareMeant k)
  unfolding matched_in_cond
  none_in_compare_meant k = none_in (CompareMeant k) (ap matched_in_cond (sym (rolls-CompareMeant k)) ∙ fold-roll-Cond (List AttrId) cond_matched (cond.CompareMeant k))

  pub none_in_compare_texts : (k : TextComparison) → old ≡ old ++ matched_in_cond (CompareTexts k)
  unfolding matched_in_cond
  none_in_compare_texts k = none_in (CompareTexts k) (ap matched_in_cond (sym (rolls-CompareTexts k)) ∙ fold-roll-Cond (List AttrId) cond_matched (cond.CompareTexts k))

  pub none_in_captured : (group : ℕ) → old ≡ old ++ matched_in_cond (Captured group)
  unfolding matched_in_cond
  none_in_captured group = none_in (Captured group) (ap matched_in_cond (sym (rolls-Captured group)) ∙ fold-roll-Cond (List AttrId) cond_matched (cond.Captured group))

-- ---- statements

in_if : (branches : List Branch) (otherwise : Option (List Statement)) → matched_in (If branches otherwise) ≡ flat_map matched_in_branch branches ++ matched_if_given otherwise
unfolding matched_in matched_in_branch
in_if branches None =
    ap matched_in (sym (rolls-If branches None)) ∙ fold-roll-Statement (List AttrId) (List AttrId) statement_matched branch_matched (layer.If branches None)
    ∙ ap (λ ns. ns ++ []) (flat_mapped matched_in_branch branches)
in_if branches (Some block) =
    ap matched_in (sym (rolls-If branches (Some block)))
    ∙ fold-roll-Statement (List AttrId) (List AttrId) statement_matched branch_matched (layer.If branches (Some block))
    ∙ ap (λ ns. ns ++ flat_map (λ (ms : List AttrId). ms) (map matched_in block)) (flat_mapped matched_in_branch branches)
    ∙ ap (λ ns. flat_map matched_in_branch branches ++ ns) (flat_mapped matched_in block)

pub in_transaction : (n : ℕ) (block : List Statement) → matched_in (Transaction n block) ≡ matched_of block
unfolding matched_in
in_transaction n block =
    ap matched_in (sym (rolls-Transaction n block))
    ∙ fold-roll-Statement (List AttrId) (List AttrId) statement_matched branch_matched (layer.Transaction n block)
    ∙ flat_mapped matched_in block

branch_out : (b : Branch) → matched_in_branch b ≡ matched_in_cond (out-Branch b).cond ++ matched_of (out-Branch b).block
unfolding matched_in matched_in_branch
branch_out b =
    fold_out-Branch (List AttrId) (List AttrId) statement_matched branch_matched b
    ∙ ap (λ ns. matched_in_cond (out-Branch b).cond ++ ns) (flat_mapped matched_in (out-Branch b).block)

-- others have none
module _ (old : List AttrId) where
  none_in_statement : (s : Statement) → matched_in s ≡ [] → old ≡ old ++ matched_in s
  none_in_statement s e = sym (append-nil old) ∙ ap (λ x. old ++ x) (sym e)

  pub none_in_update : (n : ℕ) (lines : List Line) → old ≡ old ++ matched_in (Update n lines)
  unfolding matched_in
  none_in_update n lines =
      none_in_statement (Update n lines)
      (ap matched_in (sym (rolls-Update n lines)) ∙ fold-roll-Statement (List AttrId) (List AttrId) statement_matched branch_matched (layer.Update n lines))

  pub none_in_word : (n : ℕ) (word : Code) → old ≡ old ++ matched_in (Word n word)
  unfolding matched_in
  none_in_word n word =
      none_in_statement (Word n word)
      (ap matched_in (sym (rolls-Word n word)) ∙ fold-roll-Statement (List AttrId) (List AttrId) statement_matched branch_matched (layer.Word n word))

-- ---- as the code gathers them

pub branch_pushed : (b : Branch) (cond : Cond) (block : List Statement) (old one new : List AttrId) → cond ≡ (out-Branch b).cond → block ≡ (out-Branch b).block
    → one ≡ old ++ matched_in_cond cond → new ≡ one ++ matched_of block → new ≡ old ++ matched_in_branch b
branch_pushed b cond block old one new e f g h =
    h ∙ ap (λ x. x ++ matched_of block) g ∙ append_assoc old (matched_in_cond cond) (matched_of block)
    ∙ ap (λ x. old ++ (matched_in_cond x ++ matched_of block)) e ∙ ap (λ x. old ++ (matched_in_cond (out-Branch b).cond ++ matched_of x)) f
    ∙ ap (λ x. old ++ x) (sym (branch_out b))

module _ (s : Statement) (branches bs : List Branch) (otherwise : Option (List Statement)) (old one : List AttrId) where
  pub if_pushed : s ≡ If branches otherwise → otherwise ≡ None → bs ≡ branches → one ≡ old ++ flat_map matched_in_branch bs → one ≡ old ++ matched_in s
  if_pushed e n f g =
      g ∙ ap (λ x. old ++ flat_map matched_in_branch x) f ∙ ap (λ x. old ++ x) (sym (append-nil (flat_map matched_in_branch branches)))
      ∙ ap (λ x. old ++ x) (sym (ap matched_in (e ∙ ap (If branches) n) ∙ in_if branches None))

  pub if_else_pushed : (block xs : List Statement) (new : List AttrId) → s ≡ If branches otherwise → otherwise ≡ Some block → bs ≡ branches
      → one ≡ old ++ flat_map matched_in_branch bs → xs ≡ block → new ≡ one ++ matched_of xs → new ≡ old ++ matched_in s
  if_else_pushed block xs new e n f g k l =
      l ∙ ap (λ x. one ++ matched_of x) k ∙ ap (λ x. x ++ matched_of block) (g ∙ ap (λ x. old ++ flat_map matched_in_branch x) f)
      ∙ append_assoc old (flat_map matched_in_branch branches) (matched_of block)
      ∙ ap (λ x. old ++ x) (sym (ap matched_in (e ∙ ap (If branches) n) ∙ in_if branches (Some block)))
