-- Update lines and statements go on at a token of the text, and their refusals are at one; and so is that of a policy.
use Rattle.std.proofs.Common.{inl, inr, ℕ, zero, suc, Bool, true, false, List, Option, Some, None, refl, sym, subst}
use Rattle.std.specs.Prelude.{codes}
use Rattle.avp_lists.specs.declared.lists.List.{List as Name}
use Rattle.avp_lists.specs.declared.lists.List.TheVariants.{Request}
use Rattle.avp_dict.specs.Dictionary.{Dictionary}
use Rattle.avp_dict.specs.Sent.{is_container}
use Rattle.avp_dict.specs.Spellings.{is_barred}
use Rattle.avp_forms.specs.Profiles.{profile_of}
use Rattle.avp_forms.specs.declared.profiles.Profile.{Profile}
use Rattle.avp_forms.specs.declared.targets.Target.{Target}
use Rattle.avp_unlang.specs.Between.{Counts, Follows}
use Rattle.avp_unlang.specs.Conditions.{Closed, Within}
use Rattle.avp_unlang.specs.Forms.{Form, After, Gives, Then, While}
use Rattle.avp_unlang.specs.Lines.{LineIs, OpIs, TargetIs, after_reference, after_reference_from, begins_line, line_of}
use Rattle.avp_unlang.specs.Places.{Place, start_of}
use Rattle.avp_unlang.specs.References.{list_named}
use Rattle.avp_unlang.specs.RefusedConditions.{ClosedFails, WithinFails}
use Rattle.avp_unlang.specs.RefusedForms.{DeepFails, Failing, Lacks, Misses, OthersFails, ThenFails, WhileFails, left_at, unfit}
use Rattle.avp_unlang.specs.RefusedLines.{EditFails, FilledFailsBy, IgnoredFailsFrom, LineFails, OpFails, OwnFails, PartedFails, SourceFails, SourceFailsBy, SourceFailsOf, TargetFails, ValueFails, any_word, target_refusal, whole_refusal}
use Rattle.avp_unlang.specs.RefusedPolicies.{StatementsFail}
use Rattle.avp_unlang.specs.RefusedStatements.{BlockFails, BranchFails, BranchesFail, IfFails, InsideFails, NestedFails, OpenedFails, OtherwiseFails, StatementFailsFrom, TransactionFails}
use Rattle.avp_unlang.specs.RefusedValues.{WrittenFails, literal_refusal, word_refusal}
use Rattle.avp_unlang.specs.Selecting.{line_selection}
use Rattle.avp_unlang.specs.Sources.{IgnoredFrom, SourceBy, SourceIs, is_removal, whole_text}
use Rattle.avp_unlang.specs.Statements.{BlockIs, BranchIs, BranchesAre, IfIs, Nested, Otherwise, StatementFrom, TransactionOn, UpdateOn, begins_word, branch_of, keyword_in, list_at, list_from}
use Rattle.avp_unlang.specs.Tokens.{next_token}
use Rattle.avp_unlang.specs.Values.{WrittenIs}
use Rattle.avp_unlang.specs.declared.faults.PolicyKind.{PolicyKind}
use Rattle.avp_unlang.specs.declared.faults.PolicyKind.TheVariants as kinds
use Rattle.avp_unlang.specs.declared.text.references.Reference.{Reference}
use Rattle.avp_unlang.specs.declared.text.statements.Keyword.{Keyword}
use Rattle.avp_unlang.specs.declared.text.statements.Keyword.TheVariants as keyword
use Rattle.avp_unlang.specs.declared.text.tokens.Sign.TheVariants as sign
use Rattle.avp_unlang.specs.declared.text.tokens.Token.{Token}
use Rattle.avp_unlang.specs.declared.text.tokens.Token.TheVariants as token
use Rattle.avp_unlang.specs.declared.text.tokens.Token.TheVariants.{Operator, Quoted, Word}
use Rattle.avp_unlang.specs.declared.text.values.Written.{Written}
use Rattle.avp_unlang.specs.declared.text.values.Written.TheVariants as written
use Rattle.avp_unlang.specs.declared.tree.Statement.{Statement}
use Rattle.avp_unlang.specs.declared.tree.Statement.TheVariants as statement
use Rattle.avp_unlang.specs.internal.LeftTokens.{LeavesToken}
use Rattle.avp_unlang.proofs.LinesOne.{Ending, Operated, Sourced, Targeted}
use Rattle.avp_unlang.proofs.ReachedForms.{closed_kept, closed_placed, deep_placed, next_reached, parts_placed, value_placed, within_kept, within_placed, written_kept, written_placed}
use Rattle.avp_unlang.proofs.ReachedTokens.{IsKept, IsPlaced, IsReached, IsStepKept, IsTold, after_kept, after_placed, at_token, chain_kept, counts_reached, follows_reached, gives_kept, misses_placed, others_placed, then_kept, then_placed, told_at, told_if, while_kept, while_placed}
use Rattle.avp_unlang.proofs.SmallKinds.{any_word_small, not_writable_small, target_refusal_small, too_large_small, unfit_small, whole_small, word_small}

module _ (profile : Profile) (text : List ℕ) (own : Profile) (dictionary : Dictionary) where
  -- ---- texts between double quotes, all of whose refusals are where they begin

  filled_placed : (b : Bool) (target : Target) (name value : ℕ) (octets : List ℕ) (left : ℕ) (kind : PolicyKind) → LeavesToken profile name text → LeavesToken profile value text
      → FilledFailsBy b own dictionary target name value octets left kind → IsTold profile text left kind
  filled_placed true target name value octets left kind of_name of_value h = told_at profile text name kinds.NotWritable left kind not_writable_small of_name h
  filled_placed false target name value octets left kind of_name of_value (inl h) = parts_placed profile text own dictionary value octets left kind of_value h
  filled_placed false target name value octets left kind of_name of_value (inr h) =
      value_placed profile text (whole_refusal (literal_refusal own dictionary target) (whole_text h.0)) (whole_small own dictionary target (whole_text h.0)) name value left kind h.3 of_name of_value

  made_placed : (target : Target) (name value : ℕ) (w : Written) (left : ℕ) (kind : PolicyKind) → LeavesToken profile name text → LeavesToken profile value text → SourceFailsOf own dictionary target name value w left kind → IsTold profile text left kind
  made_placed target name value (written.Double octets) left kind of_name of_value h = filled_placed (is_barred target.named dictionary) target name value octets left kind of_name of_value h
  made_placed target name value (written.Literal v) left kind of_name of_value h = absurd h
  made_placed target name value (written.Instance found) left kind of_name of_value h = absurd h

  -- ---- sources

  value_is_placed : (target : Target) (name : ℕ) (p : Place) → IsReached profile text p → LeavesToken profile name text → IsPlaced profile text (ValueFails own dictionary target name) p
  value_is_placed target name p reached of_name =
      then_placed profile text (WrittenIs own dictionary target) (WrittenFails own dictionary target name) (λ w after. SourceFailsOf own dictionary target name (left_at p) w) p (written_kept profile text own dictionary target) reached
      (written_placed profile text own dictionary target name p reached of_name) (λ w mid next left kind h. made_placed target name (left_at p) w left kind of_name (at_token profile text p reached) h)

  ignored_from_kept : (t : Token) → IsStepKept profile text (IgnoredFrom t)
  ignored_from_kept (Word octets) p rest h reached = subst (IsReached profile text) (sym h) reached
  ignored_from_kept (Quoted mark octets) p rest h reached = subst (IsReached profile text) (sym h) reached
  ignored_from_kept (Operator sign.Reference) p rest h reached = follows_reached profile text (Word h.0) p rest h.1 reached
  ignored_from_kept _ p rest h reached = absurd h

  ignored_placed : (at : ℕ) (t : Token) (p : Place) → IsReached profile text p → LeavesToken profile at text → IsPlaced profile text (IgnoredFailsFrom at t) p
  ignored_placed at (Word octets) p reached of_at left kind h = absurd h
  ignored_placed at (Quoted mark octets) p reached of_at left kind h = absurd h
  ignored_placed at (Operator sign.Reference) p reached of_at left kind h =
      told_if profile text (left_at p) (word_refusal any_word (next_token p).0) left kind (word_small any_word any_word_small (next_token p).0) (at_token profile text p reached) h
  ignored_placed at t p reached of_at left kind h = told_at profile text at (unfit t) left kind (unfit_small t) of_at h

  source_by_kept : (b : Bool) (target : Target) → IsKept profile text (SourceBy b own dictionary target)
  source_by_kept true target p x rest h reached = ignored_from_kept (next_token p).0 (next_token p).1 rest h.0 (next_reached profile text p reached)
  source_by_kept false target p x rest h reached = written_kept profile text own dictionary target p h.1.0 rest h.1.1 reached

  own_placed : (b : Bool) (target : Target) (name : ℕ) (p : Place) → IsReached profile text p → LeavesToken profile name text → IsPlaced profile text (OwnFails b own dictionary target name) p
  own_placed true target name p reached of_name left kind h = told_at profile text name kinds.NotWritable left kind not_writable_small of_name h
  own_placed false target name p reached of_name left kind h = value_is_placed target name p reached of_name left kind h

  source_placed : (b : Bool) (target : Target) (name : ℕ) (p : Place) → IsReached profile text p → LeavesToken profile name text → IsPlaced profile text (SourceFailsBy b own dictionary target name) p
  source_placed true target name p reached of_name = ignored_placed (left_at p) (next_token p).0 (next_token p).1 (next_reached profile text p reached) (at_token profile text p reached)
  source_placed false target name p reached of_name = own_placed (is_container target.named.id) target name p reached of_name

  -- ---- lines

  reference_from_reached : (p : Place) (next : Token × Place) → IsReached profile text p → IsReached profile text next.1 → IsReached profile text (after_reference_from p next)
  reference_from_reached p (Operator sign.Reference, rest) reached after = after
  reference_from_reached p _ reached after = reached

  reference_reached : (p : Place) → IsReached profile text p → IsReached profile text (after_reference p)
  unfolding after_reference
  reference_reached p reached = reference_from_reached p (next_token p) reached (next_reached profile text p reached)

  target_kept : (list : Name) → IsKept profile text (TargetIs own dictionary list)
  target_kept list p found rest h reached = follows_reached profile text (Word h.0) (after_reference p) rest h.1 (reference_reached p reached)

  op_kept : IsKept profile text OpIs
  op_kept p operation rest h reached = follows_reached profile text h.0 p rest h.1 reached

  edit_placed : (name : ℕ) (found : Reference) (p : Place) → IsReached profile text p → LeavesToken profile name text → IsPlaced profile text (EditFails own dictionary name found) p
  edit_placed name found p reached of_name =
      then_placed profile text OpIs OpFails (λ operation. SourceFails own dictionary operation found.target name) p op_kept reached (λ left kind h. told_at profile text (left_at p) (unfit (next_token p).0) left kind (unfit_small (next_token p).0) (at_token profile text p reached) h.1)
      (λ operation mid next. source_placed (is_removal operation) found.target name mid next of_name)

  parted_placed : (list : Name) (p : Place) → IsReached profile text p → IsPlaced profile text (PartedFails own dictionary list) p
  parted_placed list p reached =
      let named = at_token profile text (after_reference p) (reference_reached p reached) in
      then_placed profile text (TargetIs own dictionary list) (TargetFails own dictionary list) (EditFails own dictionary (left_at (after_reference p))) p (target_kept list) reached
      (λ left kind h. told_if profile text (left_at (after_reference p)) (word_refusal (target_refusal own dictionary list) (next_token (after_reference p)).0) left kind
      (word_small (target_refusal own dictionary list) (target_refusal_small own dictionary list) (next_token (after_reference p)).0) named h) (λ found mid next. edit_placed (left_at (after_reference p)) found mid next named)

  lacks_placed : (n at : ℕ) (p : Place) → LeavesToken profile at text → IsPlaced profile text (Lacks n at) p
  lacks_placed n at p of_at left kind h = told_at profile text at kinds.TooLarge left kind too_large_small of_at h.1

  line_placed : (list : Name) (p : Place) → IsReached profile text p → IsPlaced profile text (LineFails own dictionary list) p
  line_placed list p reached =
      after_placed profile text (Counts 1) (Lacks 1 (left_at p)) (PartedFails own dictionary list) p (counts_reached profile text 1) reached (lacks_placed 1 (left_at p) p (at_token profile text p reached)) (λ mid next. parted_placed list mid next)

  line_kept : (list : Name) → IsKept profile text (LineIs own dictionary list)
  line_kept list p =
      let first = (next_token p).1.line in
      after_kept profile text (Counts 1) (Targeted own dictionary first list) (counts_reached profile text 1)
      (then_kept profile text (TargetIs own dictionary list) (Operated own dictionary first) (target_kept list)
      (λ found. then_kept profile text OpIs (Sourced own dictionary first found) op_kept
      (λ operation. then_kept profile text (SourceIs own dictionary operation found.target) (Ending own dictionary first found operation) (source_by_kept (is_removal operation) found.target)
      (λ source. gives_kept profile text (line_of first found operation (line_selection own dictionary operation found.target) source))))) p

  -- ---- blocks

  module _ {A : Type 0} (begins : Place → Bool) (form : Form Place A) (fails : Failing Place) (kept : IsKept profile text form) (each : (p : Place) → IsReached profile text p → IsPlaced profile text fails p) where
    inside_placed : (p : Place) → IsReached profile text p → IsPlaced profile text (InsideFails begins form fails) p
    inside_placed p reached =
        then_placed profile text (While begins form) (WhileFails begins form fails) (λ xs. Misses (Operator sign.BlockEnd)) p (while_kept profile text begins form kept) reached (while_placed profile text begins form fails kept each p reached)
        (λ xs mid next. misses_placed profile text (Operator sign.BlockEnd) mid next)

    block_placed : (n : ℕ) (p : Place) → IsReached profile text p → IsPlaced profile text (BlockFails n begins form fails) p
    block_placed n p reached =
        after_placed profile text (Follows (Operator sign.BlockStart)) (Misses (Operator sign.BlockStart)) (DeepFails n (left_at p) (InsideFails begins form fails)) p (follows_reached profile text (Operator sign.BlockStart)) reached
        (misses_placed profile text (Operator sign.BlockStart) p reached)
        (λ mid next. deep_placed profile text own dictionary (InsideFails begins form fails) n (left_at p) mid (at_token profile text p reached) (inside_placed mid next))

  block_kept : {A : Type 0} (n : ℕ) (begins : Place → Bool) (form : Form Place A) → IsKept profile text form → IsKept profile text (BlockIs n begins form)
  block_kept n begins form kept p xs rest h =
      after_kept profile text (Follows (Operator sign.BlockStart)) (Then (While begins form) (λ ys. After (Follows (Operator sign.BlockEnd)) (Gives ys))) (follows_reached profile text (Operator sign.BlockStart))
      (then_kept profile text (While begins form) (λ ys. After (Follows (Operator sign.BlockEnd)) (Gives ys)) (while_kept profile text begins form kept)
      (λ ys. after_kept profile text (Follows (Operator sign.BlockEnd)) (Gives ys) (follows_reached profile text (Operator sign.BlockEnd)) (gives_kept profile text ys))) p xs rest h.1

  -- ---- statements

  list_from_reached : (p : Place) (next : Token × Place) → IsReached profile text p → IsReached profile text next.1 → IsReached profile text (list_from p next).1
  list_from_reached p (Word word, rest) reached after = of_name (list_named word) where
    of_name : (o : Option Name) → IsReached profile text (elim o as (λ _. Name × Place) [ None ↦ (Request, p) | Some list ↦ (list, rest) ]).1
    of_name None = reached
    of_name (Some list) = after
  list_from_reached p _ reached after = reached

  list_reached : (p : Place) → IsReached profile text p → IsReached profile text (list_at p).1
  unfolding list_at
  list_reached p reached = list_from_reached p (next_token p) reached (next_reached profile text p reached)

  module _ (n : ℕ) (inner : Form Place Statement) (kept : IsKept profile text inner) where
    statements_block_kept : IsKept profile text (BlockIs n begins_word inner)
    statements_block_kept = block_kept n begins_word inner kept

    condition_kept : IsKept profile text (Closed (Within own dictionary n))
    condition_kept = closed_kept profile text own dictionary (Within own dictionary n) (within_kept profile text own dictionary n)

    branch_kept : IsKept profile text (BranchIs own dictionary n inner)
    branch_kept p =
        after_kept profile text (Counts 1) (After (Follows (Operator sign.Open)) (Then (Closed (Within own dictionary n)) (λ cond. Then (BlockIs n begins_word inner) (λ block. Gives (branch_of p.line cond block))))) (counts_reached profile text 1)
        (after_kept profile text (Follows (Operator sign.Open)) (Then (Closed (Within own dictionary n)) (λ cond. Then (BlockIs n begins_word inner) (λ block. Gives (branch_of p.line cond block)))) (follows_reached profile text (Operator sign.Open))
        (then_kept profile text (Closed (Within own dictionary n)) (λ cond. Then (BlockIs n begins_word inner) (λ block. Gives (branch_of p.line cond block))) condition_kept
        (λ cond. then_kept profile text (BlockIs n begins_word inner) (λ block. Gives (branch_of p.line cond block)) statements_block_kept (λ block. gives_kept profile text (branch_of p.line cond block))))) p

    branches_kept : IsKept profile text (BranchesAre own dictionary n inner)
    branches_kept = chain_kept profile text (Follows (Word (codes "elsif"))) (BranchIs own dictionary n inner) (follows_reached profile text (Word (codes "elsif"))) branch_kept

    otherwise_kept : IsKept profile text (Otherwise n inner)
    otherwise_kept p None rest h reached = subst (IsReached profile text) (sym h.1) reached
    otherwise_kept p (Some block) rest h reached = statements_block_kept h.0 block rest h.2 (follows_reached profile text (Word (codes "else")) p h.0 h.1 reached)

    if_kept : IsKept profile text (IfIs own dictionary n inner)
    if_kept =
        then_kept profile text (BranchesAre own dictionary n inner) (λ bs. Then (Otherwise n inner) (λ o. Gives (statement.If bs o))) branches_kept
        (λ bs. then_kept profile text (Otherwise n inner) (λ o. Gives (statement.If bs o)) otherwise_kept (λ o. gives_kept profile text (statement.If bs o)))

    transaction_kept : (line : ℕ) → IsKept profile text (TransactionOn n inner line)
    transaction_kept line =
        after_kept profile text (Counts 2) (Then (BlockIs n begins_word inner) (λ block. Gives (statement.Transaction line block))) (counts_reached profile text 2)
        (then_kept profile text (BlockIs n begins_word inner) (λ block. Gives (statement.Transaction line block)) statements_block_kept (λ block. gives_kept profile text (statement.Transaction line block)))

    update_kept : (list : Name) (line : ℕ) → IsKept profile text (UpdateOn own dictionary n list line)
    update_kept list line =
        then_kept profile text (BlockIs n begins_line (LineIs own dictionary list)) (λ lines. Gives (statement.Update line lines)) (block_kept n begins_line (LineIs own dictionary list) (line_kept list)) (λ lines. gives_kept profile text (statement.Update line lines))

    statement_from_kept : (k : Keyword) → IsKept profile text (StatementFrom own dictionary n inner k)
    statement_from_kept keyword.Update p s rest h reached = update_kept (list_at p).0 p.line (list_at p).1 s rest h (list_reached p reached)
    statement_from_kept keyword.If p s rest h reached = if_kept p s rest h reached
    statement_from_kept keyword.Transaction p s rest h reached = transaction_kept p.line p s rest h reached
    statement_from_kept (keyword.Code code) p s rest h reached =
        after_kept profile text (Counts 1) (Gives (statement.Word p.line code)) (counts_reached profile text 1) (gives_kept profile text (statement.Word p.line code)) p s rest h reached
    statement_from_kept keyword.Other p s rest h reached = absurd h

  module _ (n : ℕ) (inner : Form Place Statement) (fails : Failing Place) (kept : IsKept profile text inner) (each : (p : Place) → IsReached profile text p → IsPlaced profile text fails p) where
    statements_block_placed : (p : Place) → IsReached profile text p → IsPlaced profile text (BlockFails n begins_word inner fails) p
    statements_block_placed = block_placed begins_word inner fails kept each n

    opened_placed : (p : Place) → IsReached profile text p → IsPlaced profile text (OpenedFails own dictionary n inner fails) p
    opened_placed p reached =
        after_placed profile text (Follows (Operator sign.Open)) (Misses (Operator sign.Open))
        (ThenFails (Closed (Within own dictionary n)) (ClosedFails n (left_at p) (Within own dictionary n) (WithinFails own dictionary n)) (λ cond. BlockFails n begins_word inner fails)) p
        (follows_reached profile text (Operator sign.Open)) reached (misses_placed profile text (Operator sign.Open) p reached)
        (λ mid next. then_placed profile text (Closed (Within own dictionary n)) (ClosedFails n (left_at p) (Within own dictionary n) (WithinFails own dictionary n)) (λ cond. BlockFails n begins_word inner fails) mid (condition_kept n inner kept) next
        (closed_placed profile text own dictionary (Within own dictionary n) (WithinFails own dictionary n) (within_kept profile text own dictionary n) (within_placed profile text own dictionary n) n (left_at p) mid next (at_token profile text p reached))
        (λ cond end at. statements_block_placed end at))

    branch_placed : (word : ℕ) (p : Place) → IsReached profile text p → LeavesToken profile word text → IsPlaced profile text (BranchFails own dictionary n inner fails word) p
    branch_placed word p reached of_word =
        after_placed profile text (Counts 1) (Lacks 1 word) (OpenedFails own dictionary n inner fails) p (counts_reached profile text 1) reached (lacks_placed 1 word p of_word) (λ mid next. opened_placed mid next)

    branches_placed : (word : ℕ) (p : Place) → IsReached profile text p → LeavesToken profile word text → IsPlaced profile text (BranchesFail own dictionary n inner fails word) p
    branches_placed word p reached of_word =
        then_placed profile text (BranchIs own dictionary n inner) (BranchFails own dictionary n inner fails word)
        (λ branch. OthersFails (Follows (Word (codes "elsif"))) (BranchIs own dictionary n inner) (λ before. BranchFails own dictionary n inner fails (left_at before))) p (branch_kept n inner kept) reached (branch_placed word p reached of_word)
        (λ branch mid next. others_placed profile text (Follows (Word (codes "elsif"))) (BranchIs own dictionary n inner) (λ before. BranchFails own dictionary n inner fails (left_at before)) (follows_reached profile text (Word (codes "elsif"))) (branch_kept n inner kept)
        (λ before after came at. branch_placed (left_at before) after at (at_token profile text before came)) mid next)

    otherwise_placed : (p : Place) → IsReached profile text p → IsPlaced profile text (OtherwiseFails own dictionary n inner fails) p
    otherwise_placed p reached left kind h = statements_block_placed h.0 (follows_reached profile text (Word (codes "else")) p h.0 h.1 reached) left kind h.2

    if_placed : (word : ℕ) (p : Place) → IsReached profile text p → LeavesToken profile word text → IsPlaced profile text (IfFails own dictionary n inner fails word) p
    if_placed word p reached of_word =
        then_placed profile text (BranchesAre own dictionary n inner) (BranchesFail own dictionary n inner fails word) (λ branches. OtherwiseFails own dictionary n inner fails) p (branches_kept n inner kept) reached (branches_placed word p reached of_word)
        (λ branches mid next. otherwise_placed mid next)

    transaction_placed : (word : ℕ) (p : Place) → IsReached profile text p → LeavesToken profile word text → IsPlaced profile text (TransactionFails own dictionary n inner fails word) p
    transaction_placed word p reached of_word =
        after_placed profile text (Counts 2) (Lacks 2 word) (BlockFails n begins_word inner fails) p (counts_reached profile text 2) reached (lacks_placed 2 word p of_word) (λ mid next. statements_block_placed mid next)

    statement_from_placed : (word : ℕ) (t : Token) (k : Keyword) (p : Place) → IsReached profile text p → LeavesToken profile word text → IsPlaced profile text (StatementFailsFrom own dictionary n inner fails word (unfit t) k) p
    statement_from_placed word t keyword.Update p reached of_word left kind h =
        block_placed begins_line (LineIs own dictionary (list_at p).0) (LineFails own dictionary (list_at p).0) (line_kept (list_at p).0) (line_placed (list_at p).0) n (list_at p).1 (list_reached p reached) left kind h
    statement_from_placed word t keyword.If p reached of_word left kind h = if_placed word p reached of_word left kind h
    statement_from_placed word t keyword.Transaction p reached of_word left kind h = transaction_placed word p reached of_word left kind h
    statement_from_placed word t (keyword.Code code) p reached of_word left kind h = lacks_placed 1 word p of_word left kind h
    statement_from_placed word t keyword.Other p reached of_word left kind h = told_at profile text word (unfit t) left kind (unfit_small t) of_word h

  nested_kept : (n : ℕ) → IsKept profile text (Nested own dictionary n)
  nested_kept zero p s rest h reached = absurd h
  nested_kept (suc n) p s rest h reached = statement_from_kept n (Nested own dictionary n) (nested_kept n) (keyword_in (next_token p).0) (next_token p).1 s rest h (next_reached profile text p reached)

  nested_placed : (n : ℕ) (p : Place) → IsReached profile text p → IsPlaced profile text (NestedFails own dictionary n) p
  nested_placed zero p reached left kind h = absurd h
  nested_placed (suc n) p reached left kind h =
      statement_from_placed n (Nested own dictionary n) (NestedFails own dictionary n) (nested_kept n) (nested_placed n) (left_at p) (next_token p).0 (keyword_in (next_token p).0) (next_token p).1 (next_reached profile text p reached)
      (at_token profile text p reached) left kind h

  pub policy_placed : (p : Place) → IsReached profile text p → IsPlaced profile text (StatementsFail own dictionary) p
  policy_placed p reached =
      then_placed profile text (While begins_word (Nested own dictionary 65)) (WhileFails begins_word (Nested own dictionary 65) (NestedFails own dictionary 65)) (λ statements. Misses token.End) p
      (while_kept profile text begins_word (Nested own dictionary 65) (nested_kept 65)) reached (while_placed profile text begins_word (Nested own dictionary 65) (NestedFails own dictionary 65) (nested_kept 65) (nested_placed 65) p reached)
      (λ statements mid next. misses_placed profile text token.End mid next)

start_reached : (text : List ℕ) → IsReached (profile_of text) text (start_of text)
start_reached text = record { profile_is = refl; count = 0; token = refl }

-- the refusal of a text
pub statements_told : (dictionary : Dictionary) (text : List ℕ) (left : ℕ) (kind : PolicyKind) → StatementsFail (profile_of text) dictionary (start_of text) left kind → IsTold (profile_of text) text left kind
statements_told dictionary text left kind h = policy_placed (profile_of text) text (profile_of text) dictionary (start_of text) (start_reached text) left kind h
