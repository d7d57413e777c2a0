-- Where each kind of statement looks at an attribute that is answered.
use Rattle.std.proofs.Common.{◌≡◌, ℕ, List, [], ◌∷◌, ◌++◌, Option, Some, None, refl, sym, ap, ◌∙◌, map, append_assoc, append-nil}
use Rattle.std.specs.List.{flat_map}
use Rattle.avp_dict.specs.Dictionary.{Dictionary}
use Rattle.avp_unlang.specs.declared.codes.Code.{Code}
use Rattle.avp_unlang.specs.declared.tree.Branch.{Branch}
use Rattle.avp_unlang.specs.declared.tree.Line.{Line}
use Rattle.avp_unlang.specs.declared.tree.Statement.{Statement}
use Rattle.avp_unlang.specs.declared.tree.Statement.TheFolds.{fold-roll-Statement, fold_out-Branch}
use Rattle.avp_unlang.specs.declared.tree.Statement.TheOpen as layer
use Rattle.avp_unlang.specs.declared.tree.Statement.TheVariants.{Update, If, Transaction, Word, rolls-Update, rolls-If, rolls-Transaction, rolls-Word}
use Rattle.avp_unlang.specs.declared.tree.Statement.TheViews.{out-Branch}
use Rattle.policy_warnings.specs.ServerAttributes.{answered_if_given, answered_in, answered_in_branch, answered_warnings, branch_warned, cond_warned, line_warned, statement_warned}
use Rattle.policy_warnings.specs.declared.warnings.Warning.{Warning}

flat_mapped : {X : Type 0} (f : X → List Warning) (xs : List X) → flat_map (λ (ws : List Warning). ws) (map f xs) ≡ flat_map f xs
flat_mapped f [] = refl
flat_mapped f (x ∷ xs) = ap (λ rest. f x ++ rest) (flat_mapped f xs)

module _ (d : Dictionary) where
  pub in_update : (n : ℕ) (lines : List Line) → answered_in d (Update n lines) ≡ flat_map (line_warned d) lines
  unfolding answered_in
  in_update n lines =
      ap (answered_in d) (sym (rolls-Update n lines)) ∙ fold-roll-Statement (List Warning) (List Warning) (statement_warned d) (branch_warned d) (layer.Update n lines)

  pub in_if : (branches : List Branch) (otherwise : Option (List Statement)) → answered_in d (If branches otherwise) ≡ flat_map (answered_in_branch d) branches ++ answered_if_given d otherwise
  unfolding answered_in answered_in_branch
  in_if branches None =
      ap (answered_in d) (sym (rolls-If branches None))
      ∙ fold-roll-Statement (List Warning) (List Warning) (statement_warned d) (branch_warned d) (layer.If branches None)
      ∙ ap (λ ws. ws ++ []) (flat_mapped (answered_in_branch d) branches)
  in_if branches (Some block) =
      ap (answered_in d) (sym (rolls-If branches (Some block)))
      ∙ fold-roll-Statement (List Warning) (List Warning) (statement_warned d) (branch_warned d) (layer.If branches (Some block))
      ∙ ap (λ ws. ws ++ flat_map (λ (vs : List Warning). vs) (map (answered_in d) block)) (flat_mapped (answered_in_branch d) branches)
      ∙ ap (λ ws. flat_map (answered_in_branch d) branches ++ ws) (flat_mapped (answered_in d) block)

  pub in_transaction : (n : ℕ) (block : List Statement) → answered_in d (Transaction n block) ≡ answered_warnings d block
  unfolding answered_in
  in_transaction n block =
      ap (answered_in d) (sym (rolls-Transaction n block))
      ∙ fold-roll-Statement (List Warning) (List Warning) (statement_warned d) (branch_warned d) (layer.Transaction n block)
      ∙ flat_mapped (answered_in d) block

  pub in_word : (n : ℕ) (word : Code) → answered_in d (Word n word) ≡ []
  unfolding answered_in
  in_word n word =
      ap (answered_in d) (sym (rolls-Word n word)) ∙ fold-roll-Statement (List Warning) (List Warning) (statement_warned d) (branch_warned d) (layer.Word n word)

  pub branch_out : (b : Branch) → answered_in_branch d b ≡ cond_warned d (out-Branch b).line (out-Branch b).cond ++ answered_warnings d (out-Branch b).block
  unfolding answered_in answered_in_branch
  branch_out b =
      fold_out-Branch (List Warning) (List Warning) (statement_warned d) (branch_warned d) b
      ∙ ap (λ ws. cond_warned d (out-Branch b).line (out-Branch b).cond ++ ws) (flat_mapped (answered_in d) (out-Branch b).block)

-- ---- as the code gathers them

module _ (d : Dictionary) where
  pub branch_pushed : (b : Branch) (old one new : List Warning) (block : List Statement) → one ≡ old ++ cond_warned d (out-Branch b).line (out-Branch b).cond
      → block ≡ (out-Branch b).block → new ≡ one ++ answered_warnings d block → new ≡ old ++ answered_in_branch d b
  branch_pushed b old one new block f g h =
      let own = cond_warned d (out-Branch b).line (out-Branch b).cond in
      let rest = answered_warnings d (out-Branch b).block in
      h ∙ ap (λ x. one ++ answered_warnings d x) g ∙ ap (λ x. x ++ rest) f ∙ append_assoc old own rest ∙ ap (λ x. old ++ x) (sym (branch_out d b))

  module _ (s : Statement) (branches bs : List Branch) (otherwise : Option (List Statement)) (old one : List Warning) where
    pub if_pushed : s ≡ If branches otherwise → otherwise ≡ None → bs ≡ branches → one ≡ old ++ flat_map (answered_in_branch d) bs → one ≡ old ++ answered_in d s
    if_pushed e n f g =
        g ∙ ap (λ x. old ++ flat_map (answered_in_branch d) x) f ∙ ap (λ x. old ++ x) (sym (append-nil (flat_map (answered_in_branch d) branches)))
        ∙ ap (λ x. old ++ x) (sym (ap (answered_in d) (e ∙ ap (If branches) n) ∙ in_if d branches None))

    pub if_else_pushed : (block xs : List Statement) (new : List Warning) → s ≡ If branches otherwise → otherwise ≡ Some block → bs ≡ branches
        → one ≡ old ++ flat_map (answered_in_branch d) bs → xs ≡ block → new ≡ one ++ answered_warnings d xs → new ≡ old ++ answered_in d s
    if_else_pushed block xs new e n f g k l =
        l ∙ ap (λ x. one ++ answered_warnings d x) k ∙ ap (λ x. x ++ answered_warnings d block) (g ∙ ap (λ x. old ++ flat_map (answered_in_branch d) x) f)
        ∙ append_assoc old (flat_map (answered_in_branch d) branches) (answered_warnings d block)
        ∙ ap (λ x. old ++ x) (sym (ap (answered_in d) (e ∙ ap (If branches) n) ∙ in_if d branches (Some block)))

  pub word_pushed : (s : Statement) (n : ℕ) (word : Code) (old : List Warning) → s ≡ Word n word → old ≡ old ++ answered_in d s
  word_pushed s n word old e = sym (append-nil old) ∙ ap (λ x. old ++ x) (sym (ap (answered_in d) e ∙ in_word d n word))
