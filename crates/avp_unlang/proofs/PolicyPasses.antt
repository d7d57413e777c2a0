-- Which patterns each kind of statement compares with.
use Rattle.std.proofs.Common.{◌≡◌, ℕ, Bool, true, false, ◌&&◌, List, map, Option, None, Some, Result, Ok, Err, OnOk, IfErr, refl, sym, ap, ◌∙◌}
use Rattle.std.specs.List.{list_all}
use Rattle.avp_patterns.specs.Patterns.{Written}
use Rattle.avp_unlang.specs.PolicyPatterns.{branch_layer_passes, branch_patterns_pass, branches_pass, cond_patterns_pass, else_passes, passes, policy_patterns_pass, statement_layer_passes, statement_patterns_pass}
use Rattle.avp_unlang.specs.declared.codes.Code.{Code}
use Rattle.avp_unlang.specs.declared.tree.Branch.{Branch, out-Branch}
use Rattle.avp_unlang.specs.declared.tree.Line.{Line}
use Rattle.avp_unlang.specs.declared.tree.Statement.{Statement}
use Rattle.avp_unlang.specs.declared.tree.Statement.TheFolds.{fold-roll-Statement, fold_out-Branch}
use Rattle.avp_unlang.specs.declared.tree.Statement.TheOpen as layer
use Rattle.avp_unlang.specs.declared.tree.Statement.TheVariants.{Update, If, Transaction, Word, rolls-Update, rolls-If, rolls-Transaction, rolls-Word}
use Rattle.avp_unlang.proofs.Truths.{all_passes}

module _ (test : Written → Bool) where
  pub passes_Update : (n : ℕ) (ls : List Line) → statement_patterns_pass test (Update n ls) ≡ true
  passes_Update n ls =
      ap (statement_patterns_pass test) (sym (rolls-Update n ls)) ∙ fold-roll-Statement Bool Bool statement_layer_passes (branch_layer_passes test) (layer.Update n ls)

  pub passes_If : (bs : List Branch) (otherwise : Option (List Statement)) → statement_patterns_pass test (If bs otherwise) ≡ (branches_pass test bs && else_passes test otherwise)
  passes_If bs None =
      ap (statement_patterns_pass test) (sym (rolls-If bs None)) ∙ fold-roll-Statement Bool Bool statement_layer_passes (branch_layer_passes test) (layer.If bs None)
      ∙ ap (λ b. b && true) (all_passes (branch_patterns_pass test) bs)
  passes_If bs (Some block) =
      ap (statement_patterns_pass test) (sym (rolls-If bs (Some block))) ∙ fold-roll-Statement Bool Bool statement_layer_passes (branch_layer_passes test) (layer.If bs (Some block))
      ∙ ap (λ b. b && list_all passes (map (statement_patterns_pass test) block)) (all_passes (branch_patterns_pass test) bs)
      ∙ ap (λ b. branches_pass test bs && b) (all_passes (statement_patterns_pass test) block)

  pub passes_Transaction : (n : ℕ) (block : List Statement) → statement_patterns_pass test (Transaction n block) ≡ policy_patterns_pass test block
  passes_Transaction n block =
      ap (statement_patterns_pass test) (sym (rolls-Transaction n block)) ∙ fold-roll-Statement Bool Bool statement_layer_passes (branch_layer_passes test) (layer.Transaction n block)
      ∙ all_passes (statement_patterns_pass test) block

  pub passes_Word : (n : ℕ) (code : Code) → statement_patterns_pass test (Word n code) ≡ true
  passes_Word n code =
      ap (statement_patterns_pass test) (sym (rolls-Word n code)) ∙ fold-roll-Statement Bool Bool statement_layer_passes (branch_layer_passes test) (layer.Word n code)

  pub passes_Branch : (b : Branch) → branch_patterns_pass test b ≡ (cond_patterns_pass test (out-Branch b).cond && policy_patterns_pass test (out-Branch b).block)
  passes_Branch b =
      fold_out-Branch Bool Bool statement_layer_passes (branch_layer_passes test) b
      ∙ ap (λ x. cond_patterns_pass test (out-Branch b).cond && x) (all_passes (statement_patterns_pass test) (out-Branch b).block)

-- what follows from what holds where all went well
pub on_ok : {A E : Type 0} (r : Result A E) (P Q : Type 0) → (P → Q) → OnOk r P → OnOk r Q
on_ok (Ok x) P Q f p = f p
on_ok (Err e) P Q f p = tt

-- what holds anyway, where something failed
pub on_err : {A E : Type 0} (r : Result A E) (P : Type 0) → P → IfErr r (λ _. P)
on_err (Ok x) P p = tt
on_err (Err e) P p = p

-- what follows from what holds where something failed
pub err_of : {A E : Type 0} (r : Result A E) (P Q : Type 0) → (P → Q) → IfErr r (λ _. P) → IfErr r (λ _. Q)
err_of (Ok x) P Q f p = tt
err_of (Err e) P Q f p = f p

pub left_fails : (a b : Bool) → a ≡ false → (a && b) ≡ false
left_fails a b e = ap (λ x. x && b) e

pub right_fails : (a b : Bool) → b ≡ false → (a && b) ≡ false
right_fails true b e = e
right_fails false b e = refl
