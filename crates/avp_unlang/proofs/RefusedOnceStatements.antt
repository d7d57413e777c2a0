-- Statements are refused at most once, and not where they are read; and so are policies.
use Rattle.std.proofs.Common.{◌≡◌, ℕ, zero, suc, ◌+◌, ◌<◌, Bool, List, Option, Some, None, length, refl, subst, arith}
use Rattle.avp_lists.specs.declared.lists.List.{List as Name}
use Rattle.avp_dict.specs.Dictionary.{Dictionary}
use Rattle.avp_forms.specs.Profiles.{profile_of}
use Rattle.avp_forms.specs.declared.profiles.Profile.{Profile}
use Rattle.avp_unlang.specs.Between.{Counts, Follows}
use Rattle.avp_unlang.specs.Conditions.{Closed, Within}
use Rattle.avp_unlang.specs.Forms.{Form, After, Gives, Then, While}
use Rattle.avp_unlang.specs.Lines.{LineIs, begins_line}
use Rattle.avp_unlang.specs.Places.{Place, start_of}
use Rattle.avp_unlang.specs.RefusedConditions.{ClosedFails, WithinFails}
use Rattle.avp_unlang.specs.RefusedForms.{AfterFails, DeepFails, Failing, Lacks, Misses, ThenFails, WhileFails, left_at, unfit}
use Rattle.avp_unlang.specs.RefusedLines.{LineFails}
use Rattle.avp_unlang.specs.RefusedPolicies.{IsRefusedOnce, StatementsFail}
use Rattle.avp_unlang.specs.RefusedStatements.{BlockFails, BranchFails, BranchesFail, IfFails, InsideFails, NestedFails, OpenedFails, OtherwiseFails, StatementFailsFrom, TransactionFails, UpdateFailsOn}
use Rattle.avp_unlang.specs.Statements.{BlockIs, BranchIs, BranchesAre, IfIs, Nested, Otherwise, StatementFrom, TransactionOn, UpdateOn, begins_word, branch_of, keyword_in, list_at}
use Rattle.avp_unlang.specs.Tokens.{next_token}
use Rattle.avp_unlang.specs.declared.faults.PolicyKind.{PolicyKind}
use Rattle.avp_unlang.specs.declared.text.statements.Keyword.{Keyword}
use Rattle.avp_unlang.specs.declared.text.statements.Keyword.TheVariants as keyword
use Rattle.avp_unlang.specs.declared.text.tokens.Token.TheVariants as token
use Rattle.avp_unlang.specs.declared.tree.Statement.{Statement}
use Rattle.avp_unlang.specs.declared.tree.Statement.TheVariants.{Update, If, Transaction, Word}
use Rattle.avp_unlang.proofs.Determined.{IsOne}
use Rattle.avp_unlang.proofs.LinesOne.{counts_sure, follows_sure, line_one}
use Rattle.avp_unlang.proofs.RefusedOnce.{AreSame, SettlesAt, after_settles, chain_settles, then_settles, while_settles}
use Rattle.avp_unlang.proofs.RefusedOnceConditions.{closed_settles, deep_settles, gives_settles, step_settles, within_settles}
use Rattle.avp_unlang.proofs.RefusedOnceLines.{line_settles}
use Rattle.avp_unlang.proofs.RefusedOnceParts.{at_once, counts_settles, follows_settles}
use Rattle.avp_unlang.proofs.StatementsOne.{Asked, Blocked, Ended, Ending, Inside, Opened, branch_one, chained_one, condition_one, else_word, elsif_word, end_sign, nested_one, open_sign, start_sign}
use Rattle.avp_unlang.proofs.ValueRuns.{while_one}

-- ---- blocks

module _ {A : Type 0} (n : ℕ) (begins : Place → Bool) (form : Form Place A) (fails : Failing Place) (one : IsOne form) (each : (p : Place) → SettlesAt form fails p) where
  inside_settles : (p : Place) → SettlesAt (Inside begins form) (InsideFails begins form fails) p
  inside_settles p =
      then_settles (While begins form) (WhileFails begins form fails) Ended (λ xs. Misses end_sign) p (while_one begins form one) (while_settles begins form fails one each p)
      (λ xs mid. step_settles (Follows end_sign) (Misses end_sign) xs mid (follows_settles end_sign mid))

  abbrev Nesting : Form Place (List A)
  Nesting q xs rest = (0 < n) × Inside begins form q xs rest

  -- where a sign fits, no more of them may be nested, or the block is read on
  pub block_settles : (p : Place) → SettlesAt (BlockIs n begins form) (BlockFails n begins form fails) p
  block_settles p = record { apart = λ xs rest left kind h f. whole.apart xs rest left kind (h.1.0, h.1.1, (h.0, h.1.2)) f; once = whole.once } where
    none : (q : Place) → n ≡ 0 → (xs : List A) (rest : Place) → Nesting q xs rest → ⊥
    none q empty xs rest h = omega (arith, h.0, empty)

    whole : SettlesAt (After (Follows start_sign) Nesting) (AfterFails (Follows start_sign) (Misses start_sign) (DeepFails n (left_at p) (InsideFails begins form fails))) p
    whole =
        after_settles (Follows start_sign) (Misses start_sign) Nesting (DeepFails n (left_at p) (InsideFails begins form fails)) p (follows_sure start_sign) (follows_settles start_sign p)
        (λ mid. deep_settles Nesting (InsideFails begins form fails) n (left_at p) mid (none mid) (record { apart = λ xs rest left kind h f. (inside_settles mid).apart xs rest left kind h.1 f; once = (inside_settles mid).once }))

module _ (profile : Profile) (dictionary : Dictionary) (n : ℕ) (inner : Form Place Statement) (fails : Failing Place) (one : IsOne inner) (each : (p : Place) → SettlesAt inner fails p) where
  body_settles : (p : Place) → SettlesAt (BlockIs n begins_word inner) (BlockFails n begins_word inner fails) p
  body_settles = block_settles n begins_word inner fails one each

  -- ---- branches

  asked_settles : (line begin : ℕ) (p : Place) → SettlesAt (Asked profile dictionary n inner one line)
      (ThenFails (Closed (Within profile dictionary n)) (ClosedFails n begin (Within profile dictionary n) (WithinFails profile dictionary n)) (λ cond. BlockFails n begins_word inner fails)) p
  asked_settles line begin p =
      then_settles (Closed (Within profile dictionary n)) (ClosedFails n begin (Within profile dictionary n) (WithinFails profile dictionary n)) (Blocked profile dictionary n inner one line) (λ cond. BlockFails n begins_word inner fails) p
      (condition_one profile dictionary n inner one) (closed_settles profile dictionary n begin (within_settles profile dictionary n) p)
      (λ cond mid. gives_settles (BlockIs n begins_word inner) (BlockFails n begins_word inner fails) (branch_of line cond) mid (body_settles mid))

  opened_settles : (line : ℕ) (p : Place) → SettlesAt (Opened profile dictionary n inner one line) (OpenedFails profile dictionary n inner fails) p
  opened_settles line p =
      let at = after_settles (Follows open_sign) (Misses open_sign) (Asked profile dictionary n inner one line)
      (ThenFails (Closed (Within profile dictionary n)) (ClosedFails n (left_at p) (Within profile dictionary n) (WithinFails profile dictionary n)) (λ cond. BlockFails n begins_word inner fails)) p
      (follows_sure open_sign) (follows_settles open_sign p) (asked_settles line (left_at p)) in
      record { apart = at.apart; once = at.once }

  branch_settles : (word : ℕ) (p : Place) → SettlesAt (BranchIs profile dictionary n inner) (BranchFails profile dictionary n inner fails word) p
  branch_settles word p =
      let at = after_settles (Counts 1) (Lacks 1 word) (Opened profile dictionary n inner one p.line) (OpenedFails profile dictionary n inner fails) p (counts_sure 1) (counts_settles 1 word p) (opened_settles p.line) in
      record { apart = at.apart; once = at.once }

  branches_settle : (word : ℕ) (p : Place) → SettlesAt (BranchesAre profile dictionary n inner) (BranchesFail profile dictionary n inner fails word) p
  branches_settle word p =
      chain_settles (Follows elsif_word) (BranchIs profile dictionary n inner) (BranchFails profile dictionary n inner fails word) (λ before. BranchFails profile dictionary n inner fails (left_at before)) (follows_sure elsif_word)
      (branch_one profile dictionary n inner one) p (branch_settles word p) (λ before next. branch_settles (left_at before) next)

  -- ---- statements

  otherwise_settles : (p : Place) → SettlesAt (Otherwise n inner) (OtherwiseFails profile dictionary n inner fails) p
  otherwise_settles p = record { apart = apart; once = once } where
    apart : (o : Option (List Statement)) (rest : Place) (left : ℕ) (kind : PolicyKind) → Otherwise n inner p o rest → OtherwiseFails profile dictionary n inner fails p left kind → ⊥
    apart None rest left kind h f = h.0 f.0 f.1
    apart (Some block) rest left kind h f =
        (body_settles f.0).apart block rest left kind (subst (λ m. BlockIs n begins_word inner m block rest) (follows_sure else_word p h.0 f.0 h.1 f.1) h.2) f.2

    once : (left other : ℕ) (kind more : PolicyKind) → OtherwiseFails profile dictionary n inner fails p left kind → OtherwiseFails profile dictionary n inner fails p other more → AreSame left kind other more
    once left other kind more f g = (body_settles g.0).once left other kind more (subst (λ m. BlockFails n begins_word inner fails m left kind) (follows_sure else_word p f.0 g.0 f.1 g.1) f.2) g.2

  if_settles : (word : ℕ) (p : Place) → SettlesAt (IfIs profile dictionary n inner) (IfFails profile dictionary n inner fails word) p
  if_settles word p =
      then_settles (BranchesAre profile dictionary n inner) (BranchesFail profile dictionary n inner fails word) (Ending profile dictionary n inner one) (λ branches. OtherwiseFails profile dictionary n inner fails) p
      (chained_one profile dictionary n inner one) (branches_settle word p)
      (λ branches mid. gives_settles (Otherwise n inner) (OtherwiseFails profile dictionary n inner fails) (If branches) mid (otherwise_settles mid))

  transaction_settles : (line word : ℕ) (p : Place) → SettlesAt (TransactionOn n inner line) (TransactionFails profile dictionary n inner fails word) p
  transaction_settles line word p =
      after_settles (Counts 2) (Lacks 2 word) (Then (BlockIs n begins_word inner) (λ block. Gives (Transaction line block))) (BlockFails n begins_word inner fails) p (counts_sure 2) (counts_settles 2 word p)
      (λ mid. gives_settles (BlockIs n begins_word inner) (BlockFails n begins_word inner fails) (Transaction line) mid (body_settles mid))

  update_settles : (own : Name) (line : ℕ) (p : Place) → SettlesAt (UpdateOn profile dictionary n own line) (UpdateFailsOn profile dictionary n own) p
  update_settles own line p =
      gives_settles (BlockIs n begins_line (LineIs profile dictionary own)) (UpdateFailsOn profile dictionary n own) (Update line) p
      (block_settles n begins_line (LineIs profile dictionary own) (LineFails profile dictionary own) (line_one profile dictionary own) (line_settles profile dictionary own) p)

  from_settles : (word : ℕ) (why : PolicyKind) (k : Keyword) (p : Place) → SettlesAt (StatementFrom profile dictionary n inner k) (StatementFailsFrom profile dictionary n inner fails word why k) p
  from_settles word why keyword.Update p = let at = update_settles (list_at p).0 p.line (list_at p).1 in record { apart = at.apart; once = at.once }
  from_settles word why keyword.If p = let at = if_settles word p in record { apart = at.apart; once = at.once }
  from_settles word why keyword.Transaction p = let at = transaction_settles p.line word p in record { apart = at.apart; once = at.once }
  from_settles word why (keyword.Code code) p = let at = step_settles (Counts 1) (Lacks 1 word) (Word p.line code) p (counts_settles 1 word p) in record { apart = at.apart; once = at.once }
  from_settles word why keyword.Other p = record { apart = λ s rest left kind h f. h; once = at_once word why }

module _ (profile : Profile) (dictionary : Dictionary) where
  nested_settles : (n : ℕ) (p : Place) → SettlesAt (Nested profile dictionary n) (NestedFails profile dictionary n) p
  nested_settles zero p = record { apart = λ s rest left kind h f. h; once = λ left other kind more f g. absurd f }
  nested_settles (suc n) p =
      let at = from_settles profile dictionary n (Nested profile dictionary n) (NestedFails profile dictionary n) (nested_one profile dictionary n) (nested_settles n) (left_at p) (unfit (next_token p).0) (keyword_in (next_token p).0) (next_token p).1 in
      record { apart = at.apart; once = at.once }

  abbrev Policy : Form Place (List Statement)
  Policy = Then (While begins_word (Nested profile dictionary 65)) (λ statements. After (Follows token.End) (Gives statements))

  policy_settles : (p : Place) → SettlesAt Policy (StatementsFail profile dictionary) p
  policy_settles p =
      then_settles (While begins_word (Nested profile dictionary 65)) (WhileFails begins_word (Nested profile dictionary 65) (NestedFails profile dictionary 65)) (λ statements. After (Follows token.End) (Gives statements))
      (λ statements. Misses token.End) p (while_one begins_word (Nested profile dictionary 65) (nested_one profile dictionary 65))
      (while_settles begins_word (Nested profile dictionary 65) (NestedFails profile dictionary 65) (nested_one profile dictionary 65) (nested_settles 65) p)
      (λ statements mid. step_settles (Follows token.End) (Misses token.End) statements mid (follows_settles token.End mid))

same_places : (offset other left more n : ℕ) → offset + left ≡ n → other + more ≡ n → left ≡ more → offset ≡ other
same_places offset other left more n h g same = omega (arith, h, g, same)

-- a text is refused once, and not where it spells a policy
pub policies_once : IsRefusedOnce
policies_once = record {
  apart = λ dictionary text statements offset kind spelled h.
      (policy_settles (profile_of text) dictionary (start_of text)).apart statements spelled.1 h.left kind (statements, spelled.0, spelled.2, (spelled.1, spelled.3, (refl, refl))) h.fails;
  once = λ dictionary text offset other kind also h g.
      let same = (policy_settles (profile_of text) dictionary (start_of text)).once h.left g.left kind also h.fails g.fails in
      (same_places offset other h.left g.left (length text) h.placed g.placed same.0, same.1);
}
