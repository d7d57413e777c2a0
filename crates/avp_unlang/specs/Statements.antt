-- Statements: how they are spelled. Each case is chosen by the next token.
use Rattle.std.specs.Prelude.{◌≡◌, ℕ, zero, suc, ◌<◌, Bool, true, false, List, Option, Some, None, codes, bytes_eq, if◌then◌else◌}
use Rattle.avp_lists.specs.declared.lists.List.{List as Name}
use Rattle.avp_lists.specs.declared.lists.List.TheVariants.{Request}
use Rattle.avp_dict.specs.Dictionary.{Dictionary}
use Rattle.avp_forms.specs.declared.profiles.Profile.{Profile}
use Rattle.avp_unlang.specs.declared.codes.Code.{Code}
use Rattle.avp_unlang.specs.declared.text.statements.Keyword.{Keyword}
use Rattle.avp_unlang.specs.declared.text.statements.Keyword.TheVariants as keyword
use Rattle.avp_unlang.specs.declared.text.tokens.Sign.TheVariants as sign
use Rattle.avp_unlang.specs.declared.text.tokens.Token.{Token}
use Rattle.avp_unlang.specs.declared.text.tokens.Token.TheVariants as token
use Rattle.avp_unlang.specs.declared.tree.Branch.{Branch}
use Rattle.avp_unlang.specs.declared.tree.Cond.{Cond}
use Rattle.avp_unlang.specs.declared.tree.Statement.{Statement}
use Rattle.avp_unlang.specs.declared.tree.Statement.TheVariants.{Update, If, Transaction, Word}
use Rattle.avp_unlang.specs.declared.tree.Statement.TheViews.{roll-Branch}
use Rattle.avp_unlang.specs.Conditions.{Closed, Within}
use Rattle.avp_unlang.specs.Forms.{Form, Chain, Gives, While, ◌>>◌, ◌>>=◌}
use Rattle.avp_unlang.specs.Lines.{LineIs, begins_line}
use Rattle.avp_unlang.specs.Places.{Place}
use Rattle.avp_unlang.specs.References.{list_named}
use Rattle.avp_unlang.specs.Between.{Counts, Follows}
use Rattle.avp_unlang.specs.Tokens.{next_token}
use Rattle.avp_unlang.specs.Words.{code_named}

-- what a word begins
unfoldable pub keyword_named : List ℕ → Keyword
keyword_named word =
    if bytes_eq word (codes "update") then keyword.Update
    else if bytes_eq word (codes "if") then keyword.If
    else if bytes_eq word (codes "transaction") then keyword.Transaction
    else elim (code_named word) [ None ↦ keyword.Other | Some code ↦ keyword.Code code ]

abbrev pub keyword_in : Token → Keyword
keyword_in (token.Word word) = keyword_named word
keyword_in _ = keyword.Other

abbrev pub is_word_token : Token → Bool
is_word_token (token.Word word) = true
is_word_token _ = false

-- a statement begins with a word
abbrev pub begins_word : Place → Bool
begins_word p = is_word_token (next_token p).0

-- the list that is named next, and the place after it; else the request
abbrev pub list_from : Place → Token × Place → Name × Place
list_from p (token.Word word, rest) =
    elim (list_named word) [ None ↦ (Request, p) | Some list ↦ (list, rest) ]
list_from p _ = (Request, p)

unfoldable pub list_at : Place → Name × Place
list_at p = list_from p (next_token p)

-- `{`, what inner spells one after the other, and `}`
abbrev pub Braced : {A : Type 0} → (Place → Bool) → Form Place A → Form Place (List A)
Braced begins inner = do
  Follows (token.Operator sign.BlockStart)
  xs ← While begins inner
  Follows (token.Operator sign.BlockEnd)
  Gives xs

-- the same, where n more signs may be nested
abbrev pub BlockIs : {A : Type 0} → ℕ → (Place → Bool) → Form Place A → Form Place (List A)
BlockIs n begins inner p xs rest = (0 < n) × Braced begins inner p xs rest

abbrev pub branch_of : ℕ → Cond → List Statement → Branch
branch_of line cond block = roll-Branch (record { line = line; cond = cond; block = block })

-- after an `if` or `elsif` on this line: a condition in brackets, and a block; it adds one to the size
abbrev pub BranchOn : Profile → Dictionary → ℕ → Form Place Statement → ℕ → Form Place Branch
BranchOn profile dictionary n inner line = do
  Counts 1
  Follows (token.Operator sign.Open)
  cond ← Closed (Within profile dictionary n)
  block ← BlockIs n begins_word inner
  Gives (branch_of line cond block)

abbrev pub BranchIs : Profile → Dictionary → ℕ → Form Place Statement → Form Place Branch
BranchIs profile dictionary n inner p branch rest =
    BranchOn profile dictionary n inner p.line p branch rest

-- `else` and a block, or nothing
abbrev pub Otherwise : ℕ → Form Place Statement → Form Place (Option (List Statement))
Otherwise n inner p None rest =
    ((next : Place) → Follows (token.Word (codes "else")) p next → ⊥) × (rest ≡ p)
Otherwise n inner p (Some block) rest =
    (Follows (token.Word (codes "else")) >> BlockIs n begins_word inner) p block rest

-- after `update` and a list: lines of the list
abbrev pub UpdateOn : Profile → Dictionary → ℕ → Name → ℕ → Form Place Statement
UpdateOn profile dictionary n own line = do
  lines ← BlockIs n begins_line (LineIs profile dictionary own)
  Gives (Update line lines)

-- after `if`: its branch, and those of each `elsif`
abbrev pub BranchesAre : Profile → Dictionary → ℕ → Form Place Statement → Form Place (List Branch)
BranchesAre profile dictionary n inner =
    Chain (Follows (token.Word (codes "elsif"))) (BranchIs profile dictionary n inner)

-- the same, and an `else`
abbrev pub IfIs : Profile → Dictionary → ℕ → Form Place Statement → Form Place Statement
IfIs profile dictionary n inner = do
  branches ← BranchesAre profile dictionary n inner
  otherwise ← Otherwise n inner
  Gives (If branches otherwise)

-- after `transaction`: a block; it adds two to the size
abbrev pub TransactionOn : ℕ → Form Place Statement → ℕ → Form Place Statement
TransactionOn n inner line = do
  Counts 2
  block ← BlockIs n begins_word inner
  Gives (Transaction line block)

-- a code is a statement by itself; it adds one to the size
abbrev pub WordOn : Code → ℕ → Form Place Statement
WordOn code line = do
  Counts 1
  Gives (Word line code)

-- a statement after its first word, on whose line p is
abbrev pub StatementFrom : Profile → Dictionary → ℕ → Form Place Statement → Keyword
    → Form Place Statement
StatementFrom profile dictionary n inner keyword.Update p s rest =
    UpdateOn profile dictionary n (list_at p).0 p.line (list_at p).1 s rest
StatementFrom profile dictionary n inner keyword.If p s rest =
    IfIs profile dictionary n inner p s rest
StatementFrom profile dictionary n inner keyword.Transaction p s rest =
    TransactionOn n inner p.line p s rest
StatementFrom profile dictionary n inner (keyword.Code code) p s rest = WordOn code p.line p s rest
StatementFrom profile dictionary n inner keyword.Other p s rest = ⊥

abbrev pub StatementIs : Profile → Dictionary → ℕ → Form Place Statement → Form Place Statement
StatementIs profile dictionary n inner p s rest =
    StatementFrom profile dictionary n inner (keyword_in (next_token p).0) (next_token p).1 s rest

-- a statement inside which fewer than n signs `{`, `(` and `!` are open at once
abbrev pub Nested : Profile → Dictionary → ℕ → Form Place Statement
Nested profile dictionary zero p s rest = ⊥
Nested profile dictionary (suc n) p s rest =
    StatementIs profile dictionary n (Nested profile dictionary n) p s rest
