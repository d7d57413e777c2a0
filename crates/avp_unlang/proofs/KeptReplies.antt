-- What statements keep of each pair of a reply list, if each pair that an update line adds has it.
use Rattle.std.proofs.Common.{◌≡◌, ℕ, zero, suc, Bool, true, false, cond, List, [], ◌∷◌, map, Option, Some, None, Result, Ok, Err, length, sym, ap, subst, refl, ◌∙◌}
use Rattle.std.specs.Prelude.{codes, nat_le}
use Rattle.std.specs.List.{All}
use Rattle.avp_lists.specs.Selections.{edited_list_selected, edited_selected}
use Rattle.avp_lists.specs.States.{max_pairs}
use Rattle.avp_lists.specs.declared.pairs.Pair.{Pair}
use Rattle.avp_lists.specs.declared.lists.List.{List as Name}
use Rattle.avp_lists.specs.declared.lists.State.{State}
use Rattle.avp_dict.specs.Dictionary.{Dictionary}
use Rattle.avp_forms.specs.Profiles.{profile_of}
use Rattle.avp_forms.specs.declared.profiles.Profile.{Profile}
use Rattle.avp_unlang.specs.Captures.{Captures, filled, no_captures}
use Rattle.avp_unlang.specs.Evaluations.{evaluated}
use Rattle.avp_unlang.specs.Forms.{Form, Chain}
use Rattle.avp_unlang.specs.Lines.{LineIs, begins_line}
use Rattle.avp_unlang.specs.Meaning.{Choice, Edited, Failed, Meaning, Point, after_body, after_line, all_lines, block_meaning, branch_meaning, edit_of, first_true, going_on, if_given, line_result, meaning, meaning_of, result_from, statement_meaning, unless_stop}
use Rattle.avp_unlang.specs.Places.{Place, start_of}
use Rattle.avp_unlang.specs.Policies.{SpellsPolicy}
use Rattle.avp_unlang.specs.Resolutions.{resolution}
use Rattle.avp_unlang.specs.Sources.{is_removal}
use Rattle.avp_unlang.specs.Statements.{BlockIs, BranchIs, Nested, Otherwise, StatementFrom, begins_word, branch_of, keyword_in, list_at}
use Rattle.avp_unlang.specs.Between.{Follows}
use Rattle.avp_unlang.specs.Tokens.{next_token}
use Rattle.avp_unlang.specs.declared.codes.Code.{Code}
use Rattle.avp_unlang.specs.declared.meaning.reasons.Reason.TheVariants.{Full}
use Rattle.avp_unlang.specs.declared.meaning.resolving.Unresolved.{Unresolved}
use Rattle.avp_unlang.specs.declared.text.statements.Keyword.{Keyword}
use Rattle.avp_unlang.specs.declared.text.statements.Keyword.TheVariants as keyword
use Rattle.avp_unlang.specs.declared.text.tokens.Token.TheVariants as token
use Rattle.avp_unlang.specs.declared.tree.Branch.{Branch}
use Rattle.avp_unlang.specs.declared.tree.Cond.{Cond}
use Rattle.avp_unlang.specs.declared.tree.Line.{Line}
use Rattle.avp_unlang.specs.declared.tree.Statement.{Statement}
use Rattle.avp_unlang.specs.declared.tree.Statement.TheFolds.{fold-Branch, fold-roll-Branch, fold-roll-Statement}
use Rattle.avp_unlang.specs.declared.tree.Statement.TheOpen as layer
use Rattle.avp_unlang.specs.declared.tree.Statement.TheVariants.{Update, If, Transaction, Word, rolls-Update, rolls-If, rolls-Transaction, rolls-Word}
use Rattle.avp_unlang.proofs.KeptEdits.{edit_keeps}
use Rattle.avp_unlang.proofs.SpelledParts.{Holds, block_holds, chain_holds, while_holds}

module _ (dictionary : Dictionary) (P : Pair → Type 0) where
  -- ---- meanings

  abbrev Keeps : Meaning → Type 0
  Keeps m = (s : State) (code : Code) (captures : Captures) → All P s.reply → All P (m s code captures).outcome.state.reply

  abbrev StatementKeeps : Statement → Type 0
  StatementKeeps statement = Keeps (meaning dictionary statement)

  abbrev BlockKeeps : List Statement → Type 0
  BlockKeeps block = Keeps (block_meaning dictionary block)

  abbrev choice : Branch → Choice
  choice = fold-Branch Meaning Choice (statement_meaning dictionary) branch_meaning

  abbrev BranchKeeps : Branch → Type 0
  BranchKeeps b = Keeps (choice b).block

  abbrev BranchesKeep : List Branch → Type 0
  BranchesKeep bs = (otherwise : Meaning) → Keeps otherwise → Keeps (first_true dictionary (map choice bs) otherwise)

  -- each pair that a line adds has it
  abbrev pub Adds : Line → Type 0
  Adds line = (captures : Captures) (s : State) (p : Pair) → is_removal line.op ≡ false → resolution dictionary (filled captures line) s ≡ Ok p → P p

  abbrev LinesKeep : List Line → Type 0
  LinesKeep ls = (entry : State) → All P entry.reply → Keeps (all_lines dictionary entry ls)

  none_keeps : BlockKeeps []
  none_keeps s code captures all = all

  next_keeps : (p : Point) (next : Meaning) → Keeps next → All P p.outcome.state.reply → All P (unless_stop p next).outcome.state.reply
  next_keeps p next keeps all =
      elim p.outcome.stopped as (λ b. All P (cond b p (next p.outcome.state p.outcome.code p.captures)).outcome.state.reply) [ true ↦ all | false ↦ keeps p.outcome.state p.outcome.code p.captures all ]

  more_keeps : (x : Statement) (xs : List Statement) → StatementKeeps x → BlockKeeps xs → BlockKeeps (x ∷ xs)
  more_keeps x xs first others s code captures all = next_keeps (meaning dictionary x s code captures) (block_meaning dictionary xs) others (first s code captures all)

  no_branches : BranchesKeep []
  no_branches otherwise keeps = keeps

  more_branches : (b : Branch) (bs : List Branch) → BranchKeeps b → BranchesKeep bs → BranchesKeep (b ∷ bs)
  more_branches b bs first others otherwise keeps s code captures all =
      let e = evaluated dictionary (choice b).cond s code captures in
      elim e.truth as (λ t. All P (cond t ((choice b).block s code e.captures) (first_true dictionary (map choice bs) otherwise s code e.captures)).outcome.state.reply) [
        | true ↦ first s code e.captures all
        | false ↦ others otherwise keeps s code e.captures all
      ]

  abbrev else_meaning : Option (List Statement) → Meaning
  else_meaning None = if_given None
  else_meaning (Some block) = if_given (Some (map (meaning dictionary) block))

  no_lines : LinesKeep []
  no_lines entry kept s code captures all = all

  module _ (line : Line) (entry : State) (ls : List Line) (kept : All P entry.reply) (others : LinesKeep ls) where
    -- after an edit, unless its list would have too many pairs
    edit_followed : (fit : Bool) (t : State) (code : Code) (captures : Captures) → All P t.reply → All P (after_line entry (cond fit (Edited t) (Failed Full)) code captures (all_lines dictionary entry ls)).outcome.state.reply
    edit_followed true t code captures all = others entry kept t code captures all
    edit_followed false t code captures all = kept

    line_followed : (r : Result Pair Unresolved) (s : State) (code : Code) (captures : Captures) → ((p : Pair) → is_removal line.op ≡ false → r ≡ Ok p → P p) → All P s.reply
        → All P (after_line entry (result_from line s r) code captures (all_lines dictionary entry ls)).outcome.state.reply
    line_followed (Ok p) s code captures adds all =
        edit_followed (nat_le (length (edited_list_selected line.selection (edit_of line p) s)) max_pairs) (edited_selected line.selection (edit_of line p) s) code captures (edit_keeps P line.selection line.list line.op p s (λ stays. adds p stays refl) all)
    line_followed (Err why) s code captures adds all = kept

  more_lines : (line : Line) (ls : List Line) → Adds line → LinesKeep ls → LinesKeep (line ∷ ls)
  unfolding line_result
  more_lines line ls adds others entry kept s code captures all =
      line_followed line entry ls kept others (resolution dictionary (filled captures line) s) s code captures (adds captures s) all

  -- ---- each kind of statement

  keeps_same : (m n : Meaning) → m ≡ n → Keeps n → Keeps m
  keeps_same m n e keeps = subst Keeps (sym e) keeps

  update_keeps : (n : ℕ) (ls : List Line) → LinesKeep ls → StatementKeeps (Update n ls)
  update_keeps n ls lines_keep =
      keeps_same (meaning dictionary (Update n ls)) (statement_meaning dictionary (layer.Update n ls))
      (ap (meaning dictionary) (sym (rolls-Update n ls)) ∙ fold-roll-Statement Meaning Choice (statement_meaning dictionary) branch_meaning (layer.Update n ls))
      (λ s code captures all. lines_keep s all s code captures all)

  if_keeps : (bs : List Branch) (otherwise : Option (List Statement)) → BranchesKeep bs → Keeps (else_meaning otherwise) → StatementKeeps (If bs otherwise)
  if_keeps bs None branches last =
      keeps_same (meaning dictionary (If bs None)) (statement_meaning dictionary (layer.If (map choice bs) None))
      (ap (meaning dictionary) (sym (rolls-If bs None)) ∙ fold-roll-Statement Meaning Choice (statement_meaning dictionary) branch_meaning (layer.If bs None))
      (branches (if_given None) last)
  if_keeps bs (Some block) branches last =
      keeps_same (meaning dictionary (If bs (Some block))) (statement_meaning dictionary (layer.If (map choice bs) (Some (map (meaning dictionary) block))))
      (ap (meaning dictionary) (sym (rolls-If bs (Some block))) ∙ fold-roll-Statement Meaning Choice (statement_meaning dictionary) branch_meaning (layer.If bs (Some block)))
      (branches (if_given (Some (map (meaning dictionary) block))) last)

  body_keeps : (entry : State) (p : Point) → All P entry.reply → All P p.outcome.state.reply → All P (after_body entry p).outcome.state.reply
  body_keeps entry p kept all = elim p.outcome.stopped as (λ b. All P (cond b (going_on entry p.outcome.code p.captures) p).outcome.state.reply) [ true ↦ kept | false ↦ all ]

  transaction_keeps : (n : ℕ) (block : List Statement) → BlockKeeps block → StatementKeeps (Transaction n block)
  transaction_keeps n block keeps =
      keeps_same (meaning dictionary (Transaction n block)) (statement_meaning dictionary (layer.Transaction n (map (meaning dictionary) block)))
      (ap (meaning dictionary) (sym (rolls-Transaction n block)) ∙ fold-roll-Statement Meaning Choice (statement_meaning dictionary) branch_meaning (layer.Transaction n block))
      (λ s code captures all. body_keeps s (block_meaning dictionary block s code captures) all (keeps s code captures all))

  word_keeps : (n : ℕ) (word : Code) → StatementKeeps (Word n word)
  word_keeps n word =
      keeps_same (meaning dictionary (Word n word)) (statement_meaning dictionary (layer.Word n word))
      (ap (meaning dictionary) (sym (rolls-Word n word)) ∙ fold-roll-Statement Meaning Choice (statement_meaning dictionary) branch_meaning (layer.Word n word)) (λ s code captures all. all)

  branch_keeps : (n : ℕ) (c : Cond) (block : List Statement) → BlockKeeps block → BranchKeeps (branch_of n c block)
  branch_keeps n c block keeps =
      subst (λ (x : Choice). Keeps x.block) (sym (fold-roll-Branch Meaning Choice (statement_meaning dictionary) branch_meaning (record { line = n; cond = c; block = block }))) keeps

  -- ---- what is spelled

  module _ (profile : Profile) (adds : (own : Name) → Holds Adds (LineIs profile dictionary own)) where
    module _ (n : ℕ) (inner : Form Place Statement) (each : Holds StatementKeeps inner) where
      blocks_keep : Holds BlockKeeps (BlockIs n begins_word inner)
      blocks_keep = block_holds StatementKeeps BlockKeeps none_keeps more_keeps inner each n begins_word

      branches_keep : Holds BranchKeeps (BranchIs profile dictionary n inner)
      branches_keep p branch rest h =
          subst BranchKeeps (sym h.2.2.3.3.0) (branch_keeps p.line h.2.2.0 h.2.2.3.0 (blocks_keep h.2.2.1 h.2.2.3.0 h.2.2.3.1 h.2.2.3.2))

      chosen_keep : Holds BranchesKeep (Chain (Follows (token.Word (codes "elsif"))) (BranchIs profile dictionary n inner))
      chosen_keep = chain_holds BranchKeeps BranchesKeep no_branches more_branches (BranchIs profile dictionary n inner) branches_keep (Follows (token.Word (codes "elsif")))

      ending_keeps : (o : Option (List Statement)) (p rest : Place) → Otherwise n inner p o rest → Keeps (else_meaning o)
      ending_keeps None p rest h = none_keeps
      ending_keeps (Some block) p rest h = blocks_keep h.0 block rest h.2

      from_keeps : (k : Keyword) → Holds StatementKeeps (StatementFrom profile dictionary n inner k)
      from_keeps keyword.Update p s rest h =
          subst StatementKeeps (sym h.3.0)
          (update_keeps p.line h.0 (block_holds Adds LinesKeep no_lines more_lines (LineIs profile dictionary (list_at p).0) (adds (list_at p).0) n begins_line (list_at p).1 h.0 h.1 h.2))
      from_keeps keyword.If p s rest h = subst StatementKeeps (sym h.3.3.0) (if_keeps h.0 h.3.0 (chosen_keep p h.0 h.1 h.2) (ending_keeps h.3.0 h.1 h.3.1 h.3.2))
      from_keeps keyword.Transaction p s rest h = subst StatementKeeps (sym h.2.3.0) (transaction_keeps p.line h.2.0 (blocks_keep h.0 h.2.0 h.2.1 h.2.2))
      from_keeps (keyword.Code code) p s rest h = subst StatementKeeps (sym h.2.0) (word_keeps p.line code)
      from_keeps keyword.Other p s rest h = absurd h

    nested_keeps : (n : ℕ) → Holds StatementKeeps (Nested profile dictionary n)
    nested_keeps zero p s rest h = absurd h
    nested_keeps (suc n) p s rest h = from_keeps n (Nested profile dictionary n) (nested_keeps n) (keyword_in (next_token p).0) (next_token p).1 s rest h

  -- the pairs of a reply list go on having it under a policy that was read
  pub policy_keeps : ((profile : Profile) (own : Name) → Holds Adds (LineIs profile dictionary own)) → (text : List ℕ) (statements : List Statement) → SpellsPolicy dictionary text statements
      → (s : State) (code : Code) → All P s.reply → All P (meaning_of dictionary statements s code).state.reply
  policy_keeps adds text statements h s code all =
      while_holds StatementKeeps BlockKeeps none_keeps more_keeps (Nested (profile_of text) dictionary 65) (nested_keeps (profile_of text) (adds (profile_of text)) 65) begins_word (start_of text) statements h.0 h.2 s code no_captures all
