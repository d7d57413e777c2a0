-- What each kind of statement is warned of.
use Rattle.std.proofs.Common.{◌≡◌, ℕ, Bool, List, [], ◌∷◌, ◌++◌, Option, Some, None, Result, Ok, Err, refl, sym, ap, ◌∙◌, map, append_assoc, append-nil}
use Rattle.std.specs.Prelude.{OnOk}
use Rattle.std.specs.List.{flat_map}
use Rattle.avp_unlang.specs.declared.codes.Code.{Code}
use Rattle.avp_unlang.specs.declared.tree.Branch.{Branch}
use Rattle.avp_unlang.specs.declared.tree.Line.{Line}
use Rattle.avp_unlang.specs.declared.tree.Statement.{Statement}
use Rattle.avp_unlang.specs.declared.tree.Statement.TheFolds.{fold-roll-Statement, fold_out-Branch}
use Rattle.avp_unlang.specs.declared.tree.Statement.TheOpen as layer
use Rattle.avp_unlang.specs.declared.tree.Statement.TheVariants.{Update, If, Transaction, Word, rolls-Update, rolls-If, rolls-Transaction, rolls-Word}
use Rattle.avp_unlang.specs.declared.tree.Statement.TheViews.{out-Branch}
use Rattle.policy_warnings.specs.Absences.{warns_of_absence}
use Rattle.policy_warnings.specs.Warnings.{branch_warnings, statement_warnings, update_warnings, warning, warning_if, warnings_if_given, warnings_in, warnings_in_branch, warnings_of}
use Rattle.policy_warnings.specs.declared.warnings.Reason.TheVariants.{AbsentComparison, TransactionBlock}
use Rattle.policy_warnings.specs.declared.warnings.Warning.{Warning}

flat_mapped : {X : Type 0} (f : X → List Warning) (xs : List X) → flat_map (λ (ws : List Warning). ws) (map f xs) ≡ flat_map f xs
flat_mapped f [] = refl
flat_mapped f (x ∷ xs) = ap (λ rest. f x ++ rest) (flat_mapped f xs)

pub in_update : (n : ℕ) (lines : List Line) → warnings_in (Update n lines) ≡ update_warnings n lines
unfolding warnings_in
in_update n lines =
    ap warnings_in (sym (rolls-Update n lines)) ∙ fold-roll-Statement (List Warning) (List Warning) statement_warnings branch_warnings (layer.Update n lines)

pub in_if : (branches : List Branch) (otherwise : Option (List Statement)) → warnings_in (If branches otherwise) ≡ flat_map warnings_in_branch branches ++ warnings_if_given otherwise
unfolding warnings_in warnings_in_branch
in_if branches None =
    ap warnings_in (sym (rolls-If branches None)) ∙ fold-roll-Statement (List Warning) (List Warning) statement_warnings branch_warnings (layer.If branches None)
    ∙ ap (λ ws. ws ++ []) (flat_mapped warnings_in_branch branches)
in_if branches (Some block) =
    ap warnings_in (sym (rolls-If branches (Some block)))
    ∙ fold-roll-Statement (List Warning) (List Warning) statement_warnings branch_warnings (layer.If branches (Some block))
    ∙ ap (λ ws. ws ++ flat_map (λ (vs : List Warning). vs) (map warnings_in block)) (flat_mapped warnings_in_branch branches)
    ∙ ap (λ ws. flat_map warnings_in_branch branches ++ ws) (flat_mapped warnings_in block)

pub in_transaction : (n : ℕ) (block : List Statement) → warnings_in (Transaction n block) ≡ warning n TransactionBlock ∷ warnings_of block
unfolding warnings_in
in_transaction n block =
    ap warnings_in (sym (rolls-Transaction n block))
    ∙ fold-roll-Statement (List Warning) (List Warning) statement_warnings branch_warnings (layer.Transaction n block)
    ∙ ap (λ ws. warning n TransactionBlock ∷ ws) (flat_mapped warnings_in block)

pub in_word : (n : ℕ) (word : Code) → warnings_in (Word n word) ≡ []
unfolding warnings_in
in_word n word = ap warnings_in (sym (rolls-Word n word)) ∙ fold-roll-Statement (List Warning) (List Warning) statement_warnings branch_warnings (layer.Word n word)

pub branch_out : (b : Branch) → warnings_in_branch b ≡ warning_if (warns_of_absence (out-Branch b).cond) (out-Branch b).line AbsentComparison ++ warnings_of (out-Branch b).block
unfolding warnings_in warnings_in_branch
branch_out b =
    fold_out-Branch (List Warning) (List Warning) statement_warnings branch_warnings b
    ∙ ap (λ ws. warning_if (warns_of_absence (out-Branch b).cond) (out-Branch b).line AbsentComparison ++ ws) (flat_mapped warnings_in (out-Branch b).block)

-- ---- as the code gathers them

pub branch_pushed : (b : Branch) (w : Bool) (old one new : List Warning) (block : List Statement) → w ≡ warns_of_absence (out-Branch b).cond
    → one ≡ old ++ warning_if w (out-Branch b).line AbsentComparison → block ≡ (out-Branch b).block → new ≡ one ++ warnings_of block
    → new ≡ old ++ warnings_in_branch b
branch_pushed b w old one new block e f g h =
    let rest = warnings_of (out-Branch b).block in
    h ∙ ap (λ x. one ++ warnings_of x) g ∙ ap (λ x. x ++ rest) (f ∙ ap (λ x. old ++ warning_if x (out-Branch b).line AbsentComparison) e)
    ∙ append_assoc old (warning_if (warns_of_absence (out-Branch b).cond) (out-Branch b).line AbsentComparison) rest
    ∙ ap (λ x. old ++ x) (sym (branch_out b))

module _ (s : Statement) (branches bs : List Branch) (otherwise : Option (List Statement)) (old one : List Warning) where
  pub if_pushed : s ≡ If branches otherwise → otherwise ≡ None → bs ≡ branches → one ≡ old ++ flat_map warnings_in_branch bs → one ≡ old ++ warnings_in s
  if_pushed e n f g =
      g ∙ ap (λ x. old ++ flat_map warnings_in_branch x) f ∙ ap (λ x. old ++ x) (sym (append-nil (flat_map warnings_in_branch branches)))
      ∙ ap (λ x. old ++ x) (sym (ap warnings_in (e ∙ ap (If branches) n) ∙ in_if branches None))

  pub if_else_pushed : (block xs : List Statement) (new : List Warning) → s ≡ If branches otherwise → otherwise ≡ Some block → bs ≡ branches
      → one ≡ old ++ flat_map warnings_in_branch bs → xs ≡ block → new ≡ one ++ warnings_of xs → new ≡ old ++ warnings_in s
  if_else_pushed block xs new e n f g k l =
      l ∙ ap (λ x. one ++ warnings_of x) k ∙ ap (λ x. x ++ warnings_of block) (g ∙ ap (λ x. old ++ flat_map warnings_in_branch x) f)
      ∙ append_assoc old (flat_map warnings_in_branch branches) (warnings_of block)
      ∙ ap (λ x. old ++ x) (sym (ap warnings_in (e ∙ ap (If branches) n) ∙ in_if branches (Some block)))

pub transaction_pushed : (s : Statement) (n : ℕ) (block xs : List Statement) (old one new : List Warning) → s ≡ Transaction n block
    → one ≡ old ++ warning n TransactionBlock ∷ [] → xs ≡ block → new ≡ one ++ warnings_of xs → new ≡ old ++ warnings_in s
transaction_pushed s n block xs old one new e f g h =
    h ∙ ap (λ x. one ++ warnings_of x) g ∙ ap (λ x. x ++ warnings_of block) f ∙ append_assoc old (warning n TransactionBlock ∷ []) (warnings_of block)
    ∙ ap (λ x. old ++ x) (sym (ap warnings_in e ∙ in_transaction n block))

pub word_pushed : (s : Statement) (n : ℕ) (word : Code) (old : List Warning) → s ≡ Word n word → old ≡ old ++ warnings_in s
word_pushed s n word old e = sym (append-nil old) ∙ ap (λ x. old ++ x) (sym (ap warnings_in e ∙ in_word n word))

pub update_pushed : (s : Statement) (n : ℕ) (lines xs : List Line) (old new : List Warning) → s ≡ Update n lines → xs ≡ lines
    → new ≡ old ++ update_warnings n xs → new ≡ old ++ warnings_in s
update_pushed s n lines xs old new e g h =
    h ∙ ap (λ x. old ++ update_warnings n x) g ∙ ap (λ x. old ++ x) (sym (ap warnings_in e ∙ in_update n lines))

pub on_ok : {A E : Type 0} (r : Result A E) (P Q : Type 0) → (P → Q) → OnOk r P → OnOk r Q
on_ok (Ok v) P Q f h = f h
on_ok (Err e) P Q f h = h
