-- The update lines of each kind of statement.
use Rattle.std.proofs.Common.{◌≡◌, ℕ, List, [], ◌∷◌, ◌++◌, Option, Some, None, Result, Ok, Err, refl, sym, ap, ◌∙◌, map, append_assoc, append-nil}
use Rattle.std.specs.Prelude.{OnOk}
use Rattle.std.specs.List.{flat_map}
use Rattle.avp_unlang.specs.declared.codes.Code.{Code}
use Rattle.avp_unlang.specs.declared.tree.Branch.{Branch}
use Rattle.avp_unlang.specs.declared.tree.Line.{Line}
use Rattle.avp_unlang.specs.declared.tree.Statement.{Statement}
use Rattle.avp_unlang.specs.declared.tree.Statement.TheFolds.{fold-roll-Statement, fold_out-Branch}
use Rattle.avp_unlang.specs.declared.tree.Statement.TheOpen as layer
use Rattle.avp_unlang.specs.declared.tree.Statement.TheVariants.{Update, If, Transaction, Word, rolls-Update, rolls-If, rolls-Transaction, rolls-Word}
use Rattle.avp_unlang.specs.declared.tree.Statement.TheViews.{out-Branch}
use Rattle.radpolicy_common.specs.internal.PolicyLines.{lines_if_given}
use Rattle.radpolicy_common.specs.Secrets.{branch_lines, joined, lines_in, lines_in_branch, lines_of, statement_lines}

pub flat_mapped : {X A : Type 0} (f : X → List A) (xs : List X) → joined (map f xs) ≡ flat_map f xs
flat_mapped f [] = refl
flat_mapped f (x ∷ xs) = ap (λ rest. f x ++ rest) (flat_mapped f xs)

pub in_update : (n : ℕ) (lines : List Line) → lines_in (Update n lines) ≡ lines
unfolding lines_in
in_update n lines =
    ap lines_in (sym (rolls-Update n lines)) ∙ fold-roll-Statement (List Line) (List Line) statement_lines branch_lines (layer.Update n lines)

pub in_if : (branches : List Branch) (otherwise : Option (List Statement)) → lines_in (If branches otherwise) ≡ flat_map lines_in_branch branches ++ lines_if_given otherwise
unfolding lines_in lines_in_branch
in_if branches None =
    ap lines_in (sym (rolls-If branches None)) ∙ fold-roll-Statement (List Line) (List Line) statement_lines branch_lines (layer.If branches None)
    ∙ ap (λ ns. ns ++ []) (flat_mapped lines_in_branch branches)
in_if branches (Some block) =
    ap lines_in (sym (rolls-If branches (Some block)))
    ∙ fold-roll-Statement (List Line) (List Line) statement_lines branch_lines (layer.If branches (Some block))
    ∙ ap (λ ns. ns ++ flat_map (λ (ms : List Line). ms) (map lines_in block)) (flat_mapped lines_in_branch branches)
    ∙ ap (λ ns. flat_map lines_in_branch branches ++ ns) (flat_mapped lines_in block)

pub in_transaction : (n : ℕ) (block : List Statement) → lines_in (Transaction n block) ≡ lines_of block
unfolding lines_in
in_transaction n block =
    ap lines_in (sym (rolls-Transaction n block))
    ∙ fold-roll-Statement (List Line) (List Line) statement_lines branch_lines (layer.Transaction n block)
    ∙ flat_mapped lines_in block

pub in_word : (n : ℕ) (word : Code) → lines_in (Word n word) ≡ []
unfolding lines_in
in_word n word = ap lines_in (sym (rolls-Word n word)) ∙ fold-roll-Statement (List Line) (List Line) statement_lines branch_lines (layer.Word n word)

pub branch_out : (b : Branch) → lines_in_branch b ≡ lines_of (out-Branch b).block
unfolding lines_in lines_in_branch
branch_out b = fold_out-Branch (List Line) (List Line) statement_lines branch_lines b ∙ flat_mapped lines_in (out-Branch b).block

-- ---- as the code gathers them

pub branch_pushed : (b : Branch) (old new : List Line) (block : List Statement) → block ≡ (out-Branch b).block → new ≡ old ++ lines_of block → new ≡ old ++ lines_in_branch b
branch_pushed b old new block e h = h ∙ ap (λ x. old ++ lines_of x) e ∙ ap (λ x. old ++ x) (sym (branch_out b))

module _ (s : Statement) (branches bs : List Branch) (otherwise : Option (List Statement)) (old one : List Line) where
  pub if_pushed : s ≡ If branches otherwise → otherwise ≡ None → bs ≡ branches → one ≡ old ++ flat_map lines_in_branch bs → one ≡ old ++ lines_in s
  if_pushed e n f g =
      g ∙ ap (λ x. old ++ flat_map lines_in_branch x) f ∙ ap (λ x. old ++ x) (sym (append-nil (flat_map lines_in_branch branches)))
      ∙ ap (λ x. old ++ x) (sym (ap lines_in (e ∙ ap (If branches) n) ∙ in_if branches None))

  pub if_else_pushed : (block xs : List Statement) (new : List Line) → s ≡ If branches otherwise → otherwise ≡ Some block → bs ≡ branches
      → one ≡ old ++ flat_map lines_in_branch bs → xs ≡ block → new ≡ one ++ lines_of xs → new ≡ old ++ lines_in s
  if_else_pushed block xs new e n f g k l =
      l ∙ ap (λ x. one ++ lines_of x) k ∙ ap (λ x. x ++ lines_of block) (g ∙ ap (λ x. old ++ flat_map lines_in_branch x) f)
      ∙ append_assoc old (flat_map lines_in_branch branches) (lines_of block)
      ∙ ap (λ x. old ++ x) (sym (ap lines_in (e ∙ ap (If branches) n) ∙ in_if branches (Some block)))

pub transaction_pushed : (s : Statement) (n : ℕ) (block xs : List Statement) (old new : List Line) → s ≡ Transaction n block → xs ≡ block
    → new ≡ old ++ lines_of xs → new ≡ old ++ lines_in s
transaction_pushed s n block xs old new e g h =
    h ∙ ap (λ x. old ++ lines_of x) g ∙ ap (λ x. old ++ x) (sym (ap lines_in e ∙ in_transaction n block))

pub word_pushed : (s : Statement) (n : ℕ) (word : Code) (old : List Line) → s ≡ Word n word → old ≡ old ++ lines_in s
word_pushed s n word old e = sym (append-nil old) ∙ ap (λ x. old ++ x) (sym (ap lines_in e ∙ in_word n word))

pub update_pushed : (s : Statement) (n : ℕ) (lines xs : List Line) (old new : List Line) → s ≡ Update n lines → xs ≡ lines
    → new ≡ old ++ xs → new ≡ old ++ lines_in s
update_pushed s n lines xs old new e g h =
    h ∙ ap (λ x. old ++ x) g ∙ ap (λ x. old ++ x) (sym (ap lines_in e ∙ in_update n lines))

pub on_ok : {A E : Type 0} (r : Result A E) (P Q : Type 0) → (P → Q) → OnOk r P → OnOk r Q
on_ok (Ok v) P Q f h = f h
on_ok (Err e) P Q f h = h
