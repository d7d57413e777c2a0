-- How deep each kind of statement is, and a policy that was read.
use Rattle.std.proofs.Common.{◌≡◌, ℕ, zero, suc, ◌+◌, ◌*◌, ◌≤◌, ◌<◌, max, List, [], ◌∷◌, Option, Some, None, map, ap, sym, ◌∙◌, arith}
use Rattle.std.specs.Prelude.{Bool, codes}
use Rattle.avp_dict.specs.Dictionary.{Dictionary}
use Rattle.avp_forms.specs.declared.profiles.Profile.{Profile}
use Rattle.avp_unlang.specs.Forms.{Form, Step, While, Chain}
use Rattle.avp_unlang.specs.Places.{Place, start_of}
use Rattle.avp_forms.specs.Profiles.{profile_of}
use Rattle.avp_unlang.specs.Policies.{SpellsPolicy}
use Rattle.avp_unlang.specs.Statements.{BlockIs, branch_of, BranchIs, Otherwise, StatementFrom, Nested, keyword_in, begins_word}
use Rattle.avp_unlang.specs.Between.{Follows}
use Rattle.avp_unlang.specs.Tokens.{next_token}
use Rattle.avp_unlang.specs.declared.text.statements.Keyword.{Keyword}
use Rattle.avp_unlang.specs.declared.text.statements.Keyword.TheVariants as keyword
use Rattle.avp_unlang.specs.declared.text.tokens.Token.TheVariants as token
use Rattle.avp_unlang.specs.declared.tree.Branch.{Branch}
use Rattle.avp_unlang.specs.declared.tree.Cond.{Cond}
use Rattle.avp_unlang.specs.declared.tree.Line.{Line}
use Rattle.avp_unlang.specs.declared.codes.Code.{Code}
use Rattle.avp_unlang.specs.declared.tree.Statement.{Statement}
use Rattle.avp_unlang.specs.declared.tree.Statement.TheFolds.{fold-roll-Branch, fold-roll-Statement}
use Rattle.avp_unlang.specs.declared.tree.Statement.TheOpen as layer
use Rattle.avp_unlang.specs.declared.tree.Statement.TheVariants.{Update, If, Transaction, Word, rolls-Update, rolls-If, rolls-Transaction, rolls-Word}
use Rattle.avp_unlang.specs.internal.Depth.{branch_depth, depth, depth_of, depth_of_branch, depth_of_branches, else_depth, greatest, statement_depth}
use Rattle.avp_unlang.proofs.SpelledParts.{Holds, block_holds, chain_holds, while_holds}

-- ---- statements by their kind

pub depth_Update : (n : ℕ) (lines : List Line) → depth (Update n lines) ≡ 1
depth_Update n lines = ap depth (sym (rolls-Update n lines)) ∙ fold-roll-Statement ℕ ℕ statement_depth branch_depth (layer.Update n lines)

pub depth_If : (bs : List Branch) (otherwise : Option (List Statement)) → depth (If bs otherwise) ≡ 1 + max (depth_of_branches bs) (else_depth otherwise)
depth_If bs None = ap depth (sym (rolls-If bs None)) ∙ fold-roll-Statement ℕ ℕ statement_depth branch_depth (layer.If bs None)
depth_If bs (Some block) = ap depth (sym (rolls-If bs (Some block))) ∙ fold-roll-Statement ℕ ℕ statement_depth branch_depth (layer.If bs (Some block))

pub depth_Transaction : (n : ℕ) (block : List Statement) → depth (Transaction n block) ≡ 2 + depth_of block
depth_Transaction n block = ap depth (sym (rolls-Transaction n block)) ∙ fold-roll-Statement ℕ ℕ statement_depth branch_depth (layer.Transaction n block)

pub depth_Word : (n : ℕ) (word : Code) → depth (Word n word) ≡ 0
depth_Word n word = ap depth (sym (rolls-Word n word)) ∙ fold-roll-Statement ℕ ℕ statement_depth branch_depth (layer.Word n word)

-- ---- lists

-- what a form spells is at most so deep
abbrev AtMost : {A : Type 0} → (A → ℕ) → ℕ → Form Place A → Type 0
AtMost f k = Holds (λ x. f x ≤ k)

more_at_most : {A : Type 0} (f : A → ℕ) (k : ℕ) (x : A) (xs : List A) → f x ≤ k → greatest (map f xs) ≤ k → greatest (map f (x ∷ xs)) ≤ k
more_at_most f k x xs first others = omega arith

while_at_most : {A : Type 0} (f : A → ℕ) (k : ℕ) (begins : Place → Bool) (form : Form Place A) → AtMost f k form → AtMost (λ xs. greatest (map f xs)) k (While begins form)
while_at_most f k begins form each = while_holds (λ x. f x ≤ k) (λ xs. greatest (map f xs) ≤ k) (omega arith) (more_at_most f k) form each begins

chain_at_most : {A : Type 0} (f : A → ℕ) (k : ℕ) (step : Step Place) (form : Form Place A) → AtMost f k form → AtMost (λ xs. greatest (map f xs)) k (Chain step form)
chain_at_most f k step form each = chain_holds (λ x. f x ≤ k) (λ xs. greatest (map f xs) ≤ k) (omega arith) (more_at_most f k) form each step

block_at_most : {A : Type 0} (f : A → ℕ) (k n : ℕ) (begins : Place → Bool) (inner : Form Place A) → AtMost f k inner → AtMost (λ xs. greatest (map f xs)) k (BlockIs n begins inner)
block_at_most f k n begins inner each = block_holds (λ x. f x ≤ k) (λ xs. greatest (map f xs) ≤ k) (omega arith) (more_at_most f k) inner each n begins

depth_of_spelled : (line : ℕ) (c : Cond) (block : List Statement) → depth_of_branch (branch_of line c block) ≡ depth_of block
depth_of_spelled line c block = fold-roll-Branch ℕ ℕ statement_depth branch_depth (record { line = line; cond = c; block = block })

-- ---- statements

module _ (profile : Profile) (dictionary : Dictionary) where
  module _ (n k : ℕ) (inner : Form Place Statement) (each : AtMost depth k inner) where
    branch_at_most : AtMost depth_of_branch k (BranchIs profile dictionary n inner)
    branch_at_most p branch rest h =
        omega (arith, ap depth_of_branch h.2.2.3.3.0, depth_of_spelled p.line h.2.2.0 h.2.2.3.0, block_at_most depth k n begins_word inner each h.2.2.1 h.2.2.3.0 h.2.2.3.1 h.2.2.3.2)

    branch_nested : (p : Place) (branch : Branch) (rest : Place) → BranchIs profile dictionary n inner p branch rest → 0 < n
    branch_nested p branch rest h = h.2.2.3.2.0

    chain_nested : (p : Place) (bs : List Branch) (rest : Place) → Chain (Follows (token.Word (codes "elsif"))) (BranchIs profile dictionary n inner) p bs rest → 0 < n
    chain_nested p [] rest h = absurd h
    chain_nested p (b ∷ bs) rest h = branch_nested p b h.0 h.1

    else_at_most : (o : Option (List Statement)) (p rest : Place) → Otherwise n inner p o rest → else_depth o ≤ k
    else_at_most None p rest h = omega arith
    else_at_most (Some block) p rest h = block_at_most depth k n begins_word inner each h.0 block rest h.2

    from_at_most : (w : Keyword) → (0 < n → k + 2 ≤ 2 * n) → AtMost depth (2 * n) (StatementFrom profile dictionary n inner w)
    from_at_most keyword.Update deep p s rest h =
        let some : 0 < n = h.2.0 in
        omega (arith, ap depth h.3.0, depth_Update p.line h.0, deep some)
    from_at_most keyword.If deep p s rest h =
        let some = chain_nested p h.0 h.1 h.2 in
        omega (arith, ap depth h.3.3.0, depth_If h.0 h.3.0, chain_at_most depth_of_branch k (Follows (token.Word (codes "elsif"))) (BranchIs profile dictionary n inner) branch_at_most p h.0 h.1 h.2, else_at_most h.3.0 h.1 h.3.1 h.3.2, deep some)
    from_at_most keyword.Transaction deep p s rest h =
        let some : 0 < n = h.2.2.0 in
        omega (arith, ap depth h.2.3.0, depth_Transaction p.line h.2.0, block_at_most depth k n begins_word inner each h.0 h.2.0 h.2.1 h.2.2, deep some)
    from_at_most (keyword.Code code) deep p s rest h = omega (arith, ap depth h.2.0, depth_Word p.line code)
    from_at_most keyword.Other deep p s rest h = absurd h

  -- inside a statement of n signs or fewer each adds two frames at most
  nested_at_most : (n : ℕ) → AtMost depth (2 * n) (Nested profile dictionary (suc n))
  nested_at_most zero p s rest h =
      from_at_most zero 0 (Nested profile dictionary zero) (λ q x r k. absurd k) (keyword_in (next_token p).0) (λ some. absurd (omega arith)) (next_token p).1 s rest h
  nested_at_most (suc n) p s rest h =
      from_at_most (suc n) (2 * n) (Nested profile dictionary (suc n)) (nested_at_most n) (keyword_in (next_token p).0) (λ _. omega arith) (next_token p).1 s rest h

pub spelled_depth : (dictionary : Dictionary) (text : List ℕ) (statements : List Statement) → SpellsPolicy dictionary text statements → depth_of statements ≤ 128
spelled_depth dictionary text statements h =
    while_at_most depth 128 begins_word (Nested (profile_of text) dictionary 65) (nested_at_most (profile_of text) dictionary 64) (start_of text) statements h.0 h.2
