-- The equations of each kind of statement.
use Rattle.std.proofs.Common.{arith, ◌≡◌, ℕ, ◌+◌, List, [], ◌∷◌, Option, Some, None, sym, ap, ◌∙◌, map}
use Rattle.avp_unlang.specs.declared.codes.Code.{Code}
use Rattle.avp_unlang.specs.declared.tree.Line.{Line}
use Rattle.avp_unlang.specs.declared.tree.Statement.{Statement}
use Rattle.avp_unlang.specs.declared.tree.Statement.TheOpen as open'
use Rattle.avp_unlang.specs.declared.tree.Statement.TheVariants.{Update, If, Transaction, Word, rolls-Update, rolls-If, rolls-Transaction, rolls-Word}
use Rattle.avp_unlang.specs.declared.tree.Statement.TheFolds.{fold-roll-Statement}
use Rattle.avp_unlang.specs.declared.tree.Branch.{Branch}
use Rattle.avp_unlang.specs.Meaning.{Point}
use Rattle.avp_step.specs.internal.Frames.{else_steps, else_skips}
use Rattle.avp_step.specs.Trace.{Evaluating, Steps, Guarded, goes_on, steps, guarded, statement_steps, guarded_steps, line_steps, branch_steps, all_steps, then_steps, closed, entered, word_step}
use Rattle.avp_step.specs.internal.Skips.{skips, statement_skips, branch_skips}
use Rattle.avp_dict.specs.Dictionary.{Dictionary}

module _ (d : Dictionary) (by : Evaluating) where
  pub steps_Update : (n : ℕ) (lines : List Line) (p : Point) → steps d by (Update n lines) p ≡ line_steps d p.outcome.state lines p
  steps_Update n lines p =
      ap (λ s. steps d by s p) (sym (rolls-Update n lines))
      ∙ ap (λ (f : Steps). f p) (fold-roll-Statement Steps Guarded (statement_steps d by) guarded_steps (open'.Update n lines))

  pub steps_If : (bs : List Branch) (otherwise : Option (List Statement)) (p : Point) → steps d by (If bs otherwise) p ≡ branch_steps by (map (guarded d by) bs) (else_steps d by otherwise) p
  steps_If bs None p =
      ap (λ s. steps d by s p) (sym (rolls-If bs None))
      ∙ ap (λ (f : Steps). f p) (fold-roll-Statement Steps Guarded (statement_steps d by) guarded_steps (open'.If bs None))
  steps_If bs (Some block) p =
      ap (λ s. steps d by s p) (sym (rolls-If bs (Some block)))
      ∙ ap (λ (f : Steps). f p) (fold-roll-Statement Steps Guarded (statement_steps d by) guarded_steps (open'.If bs (Some block)))

  pub steps_Transaction : (n : ℕ) (block : List Statement) (p : Point) → steps d by (Transaction n block) p ≡ entered n p ∷ then_steps (all_steps (map (steps d by) block)) (λ r. closed n p.outcome.state r ∷ []) (goes_on p)
  steps_Transaction n block p =
      ap (λ s. steps d by s p) (sym (rolls-Transaction n block))
      ∙ ap (λ (f : Steps). f p) (fold-roll-Statement Steps Guarded (statement_steps d by) guarded_steps (open'.Transaction n block))

  pub steps_Word : (n : ℕ) (word : Code) (p : Point) → steps d by (Word n word) p ≡ word_step n word p ∷ []
  steps_Word n word p =
      ap (λ s. steps d by s p) (sym (rolls-Word n word))
      ∙ ap (λ (f : Steps). f p) (fold-roll-Statement Steps Guarded (statement_steps d by) guarded_steps (open'.Word n word))

pub skips_Update : (n : ℕ) (lines : List Line) → skips (Update n lines) ≡ 2
skips_Update n lines = ap skips (sym (rolls-Update n lines)) ∙ fold-roll-Statement ℕ ℕ statement_skips branch_skips (open'.Update n lines)

pub skips_If : (bs : List Branch) (otherwise : Option (List Statement)) → skips (If bs otherwise) ≡ 2 + else_skips otherwise
skips_If bs None = ap skips (sym (rolls-If bs None)) ∙ fold-roll-Statement ℕ ℕ statement_skips branch_skips (open'.If bs None)
skips_If bs (Some block) = ap skips (sym (rolls-If bs (Some block))) ∙ fold-roll-Statement ℕ ℕ statement_skips branch_skips (open'.If bs (Some block)) ∙ omega arith
