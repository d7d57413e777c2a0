-- Where statements are refused, and for what.
use Rattle.std.specs.Prelude.{ℕ, zero, suc, Bool, codes}
use Rattle.avp_lists.specs.declared.lists.List.{List as Name}
use Rattle.avp_dict.specs.Dictionary.{Dictionary}
use Rattle.avp_forms.specs.declared.profiles.Profile.{Profile}
use Rattle.avp_unlang.specs.Between.{Counts, Follows}
use Rattle.avp_unlang.specs.Conditions.{Closed, Within}
use Rattle.avp_unlang.specs.Forms.{Form, While}
use Rattle.avp_unlang.specs.Lines.{LineIs, begins_line}
use Rattle.avp_unlang.specs.Places.{Place}
use Rattle.avp_unlang.specs.RefusedConditions.{ClosedFails, WithinFails}
use Rattle.avp_unlang.specs.RefusedForms.{AfterFails, DeepFails, Failing, Lacks, Misses, OthersFails, Refused, ThenFails, WhileFails, left_at, unfit}
use Rattle.avp_unlang.specs.RefusedLines.{LineFails}
use Rattle.avp_unlang.specs.Statements.{BranchIs, BranchesAre, Nested, begins_word, keyword_in, list_at}
use Rattle.avp_unlang.specs.Tokens.{next_token}
use Rattle.avp_unlang.specs.declared.faults.PolicyKind.{PolicyKind}
use Rattle.avp_unlang.specs.declared.text.statements.Keyword.{Keyword}
use Rattle.avp_unlang.specs.declared.text.statements.Keyword.TheVariants as keyword
use Rattle.avp_unlang.specs.declared.text.tokens.Sign.TheVariants as sign
use Rattle.avp_unlang.specs.declared.text.tokens.Token.TheVariants as token
use Rattle.avp_unlang.specs.declared.tree.Statement.{Statement}

-- ---- blocks

-- after a `{`: what inner spells one after the other, and `}`
abbrev pub InsideFails : {A : Type 0} → (Place → Bool) → Form Place A → Failing Place
    → Failing Place
InsideFails begins inner fails =
    ThenFails (While begins inner) (WhileFails begins inner fails)
    (λ xs. Misses (token.Operator sign.BlockEnd))

-- a block, where n more signs may be nested
abbrev pub BlockFails : {A : Type 0} → ℕ → (Place → Bool) → Form Place A → Failing Place
    → Failing Place
BlockFails n begins inner fails p =
    AfterFails (Follows (token.Operator sign.BlockStart)) (Misses (token.Operator sign.BlockStart))
    (DeepFails n (left_at p) (InsideFails begins inner fails)) p

-- after `update`: a list or none, and lines of it
abbrev pub UpdateFailsOn : Profile → Dictionary → ℕ → Name → Failing Place
UpdateFailsOn profile dictionary n own =
    BlockFails n begins_line (LineIs profile dictionary own) (LineFails profile dictionary own)

abbrev pub UpdateFails : Profile → Dictionary → ℕ → Failing Place
UpdateFails profile dictionary n p =
    UpdateFailsOn profile dictionary n (list_at p).0 (list_at p).1

-- ---- other statements, each begun by its word; inner are those in their blocks, and fails is where these are refused
module _ (profile : Profile) (dictionary : Dictionary) (n : ℕ) (inner : Form Place Statement)
    (fails : Failing Place) where
  -- a condition in brackets, and a block
  abbrev pub OpenedFails : Failing Place
  OpenedFails p =
      AfterFails (Follows (token.Operator sign.Open)) (Misses (token.Operator sign.Open))
      (ThenFails (Closed (Within profile dictionary n))
      (ClosedFails n (left_at p) (Within profile dictionary n) (WithinFails profile dictionary n))
      (λ cond. BlockFails n begins_word inner fails)) p

  -- after an `if` or `elsif`, which begins at word; the room for it comes first
  abbrev pub BranchFails : ℕ → Failing Place
  BranchFails word = AfterFails (Counts 1) (Lacks 1 word) OpenedFails

  abbrev pub BranchesFail : ℕ → Failing Place
  BranchesFail word =
      ThenFails (BranchIs profile dictionary n inner) (BranchFails word)
      (λ branch. OthersFails (Follows (token.Word (codes "elsif")))
      (BranchIs profile dictionary n inner) (λ before. BranchFails (left_at before)))

  -- `else` and a block, or nothing
  abbrev pub OtherwiseFails : Failing Place
  OtherwiseFails p left kind =
      (next : Place) × Follows (token.Word (codes "else")) p next
      × BlockFails n begins_word inner fails next left kind

  abbrev pub IfFails : ℕ → Failing Place
  IfFails word =
      ThenFails (BranchesAre profile dictionary n inner) (BranchesFail word)
      (λ branches. OtherwiseFails)

  abbrev pub TransactionFails : ℕ → Failing Place
  TransactionFails word =
      AfterFails (Counts 2) (Lacks 2 word) (BlockFails n begins_word inner fails)

  -- a statement after its first word, which begins at word; what is no statement is refused for this
  abbrev pub StatementFailsFrom : ℕ → PolicyKind → Keyword → Failing Place
  StatementFailsFrom word why keyword.Update p left kind =
      UpdateFails profile dictionary n p left kind
  StatementFailsFrom word why keyword.If p left kind = IfFails word p left kind
  StatementFailsFrom word why keyword.Transaction p left kind = TransactionFails word p left kind
  StatementFailsFrom word why (keyword.Code code) p left kind = Lacks 1 word p left kind
  StatementFailsFrom word why keyword.Other p left kind = Refused word why p left kind

  abbrev pub StatementFails : Failing Place
  StatementFails p =
      StatementFailsFrom (left_at p) (unfit (next_token p).0) (keyword_in (next_token p).0)
      (next_token p).1

-- a statement inside which fewer than n signs `{`, `(` and `!` are open at once
abbrev pub NestedFails : Profile → Dictionary → ℕ → Failing Place
NestedFails profile dictionary zero p left kind = ⊥
NestedFails profile dictionary (suc n) p left kind =
    StatementFails profile dictionary n (Nested profile dictionary n)
    (NestedFails profile dictionary n) p left kind
