-- A place spells at most one statement, and how refusals inside one are refusals of it.
use Rattle.std.proofs.Common.{◌≡◌, ◌≢◌, ℕ, ◌<◌, zero, suc, Bool, List, Option, Some, None, Result, refl, sym, ap, subst, ◌∙◌}
use Rattle.std.specs.Prelude.{codes}
use Rattle.avp_dict.specs.Dictionary.{Dictionary}
use Rattle.avp_forms.specs.declared.profiles.Profile.{Profile}
use Rattle.avp_unlang.specs.declared.faults.Refusal.{Refusal}
use Rattle.avp_unlang.specs.declared.faults.PolicyKind.TheVariants.{Memory}
use Rattle.avp_unlang.specs.declared.text.statements.Keyword.{Keyword}
use Rattle.avp_unlang.specs.declared.text.statements.Keyword.TheVariants as keyword
use Rattle.avp_unlang.specs.declared.text.tokens.Sign.TheVariants as sign
use Rattle.avp_unlang.specs.declared.text.tokens.Token.{Token}
use Rattle.avp_unlang.specs.declared.text.tokens.Token.TheVariants as token
use Rattle.avp_unlang.specs.declared.tree.Branch.{Branch}
use Rattle.avp_unlang.specs.declared.tree.Cond.{Cond}
use Rattle.avp_unlang.specs.declared.tree.Line.{Line}
use Rattle.avp_unlang.specs.declared.tree.Statement.{Statement}
use Rattle.avp_unlang.specs.declared.tree.Statement.TheVariants.{Update, If, Transaction, Word}
use Rattle.avp_unlang.specs.Conditions.{Closed, Within}
use Rattle.avp_unlang.specs.Forms.{Form, After, Chain, Gives, Then, While, Refuses, Reads}
use Rattle.avp_unlang.specs.Lines.{LineIs, begins_line}
use Rattle.avp_unlang.specs.Places.{Place, start_of}
use Rattle.avp_forms.specs.Profiles.{profile_of}
use Rattle.avp_unlang.specs.Policies.{SpellsPolicy}
use Rattle.avp_unlang.specs.Statements.{keyword_in, begins_word, list_at, BlockIs, branch_of, BranchIs, Otherwise, StatementFrom, StatementIs, Nested}
use Rattle.avp_unlang.specs.Between.{Counts, Follows}
use Rattle.avp_unlang.specs.Tokens.{next_token}
use Rattle.avp_unlang.proofs.Chains.{chain_one}
use Rattle.avp_unlang.proofs.ConditionsOne.{closed_one, within_one}
use Rattle.avp_unlang.proofs.Determined.{IsOne, gives_one, after_one, then_one, then_stops, then_on, after_stops, after_on}
use Rattle.avp_unlang.proofs.LinesOne.{counts_sure, follows_sure, line_one}
use Rattle.avp_unlang.proofs.ValueRuns.{while_one}

-- ---- blocks

abbrev pub start_sign : Token
start_sign = token.Operator sign.BlockStart

abbrev pub end_sign : Token
end_sign = token.Operator sign.BlockEnd

abbrev pub open_sign : Token
open_sign = token.Operator sign.Open

abbrev pub else_word : Token
else_word = token.Word (codes "else")

abbrev pub elsif_word : Token
elsif_word = token.Word (codes "elsif")

abbrev pub Ended : {A : Type 0} → List A → Form Place (List A)
Ended xs = After (Follows end_sign) (Gives xs)

ended_one : {A : Type 0} (xs : List A) → IsOne (Ended xs)
ended_one xs = after_one (Follows end_sign) (Gives xs) (follows_sure end_sign) (gives_one xs)

abbrev pub Inside : {A : Type 0} → (Place → Bool) → Form Place A → Form Place (List A)
Inside begins inner = Then (While begins inner) Ended

inside_one : {A : Type 0} (begins : Place → Bool) (inner : Form Place A) → IsOne inner → IsOne (Inside begins inner)
inside_one begins inner one = then_one (While begins inner) Ended (while_one begins inner one) ended_one

pub block_one : {A : Type 0} (n : ℕ) (begins : Place → Bool) (inner : Form Place A) → IsOne inner → IsOne (BlockIs n begins inner)
block_one n begins inner one p x y r s h g = after_one (Follows start_sign) (Inside begins inner) (follows_sure start_sign) (inside_one begins inner one) p x y r s h.1 g.1

-- what a block wants is wanted of all of it
block_refused : {A : Type 0} (n : ℕ) (begins : Place → Bool) (inner : Form Place A) (p : Place) (e : Refusal)
    → Refuses (After (Follows start_sign) (Inside begins inner) p) e → Refuses (BlockIs n begins inner p) e
block_refused n begins inner p e refused = λ some xs rest h. refused some xs rest h.1

pub unopened : {A : Type 0} (n : ℕ) (begins : Place → Bool) (inner : Form Place A) (p : Place) (e : Refusal)
    → ((rest : Place) → Follows start_sign p rest → ⊥) → Refuses (BlockIs n begins inner p) e
unopened n begins inner p e none = block_refused n begins inner p e (after_stops (Follows start_sign) (Inside begins inner) p e none)

pub inside_refused : {A : Type 0} (n : ℕ) (begins : Place → Bool) (inner : Form Place A) (p start : Place) (e : Refusal)
    → Follows start_sign p start → Refuses (While begins inner start) e → Refuses (BlockIs n begins inner p) e
inside_refused n begins inner p start e opened refused =
    block_refused n begins inner p e (after_on (Follows start_sign) (Inside begins inner) (follows_sure start_sign) p start opened e
    (then_stops (While begins inner) Ended start e refused))

pub unended : {A : Type 0} (n : ℕ) (begins : Place → Bool) (inner : Form Place A) → IsOne inner → (p start : Place) (xs : List A) (end : Place) (e : Refusal)
    → Follows start_sign p start → While begins inner start xs end → ((rest : Place) → Follows end_sign end rest → ⊥) → Refuses (BlockIs n begins inner p) e
unended n begins inner one p start xs end e opened read none =
    block_refused n begins inner p e (after_on (Follows start_sign) (Inside begins inner) (follows_sure start_sign) p start opened e
    (then_on (While begins inner) Ended (while_one begins inner one) start xs end read e (after_stops (Follows end_sign) (Gives xs) end e none)))

pub block_reads : {A : Type 0} (n : ℕ) (begins : Place → Bool) (inner : Form Place A) (p start : Place) (xs : List A) (end rest : Place)
    → 0 < n → Follows start_sign p start → While begins inner start xs end → Follows end_sign end rest → BlockIs n begins inner p xs rest
block_reads n begins inner p start xs end rest some opened read ended = (some, (start, opened, (xs, end, read, (rest, ended, (refl, refl)))))

module _ (profile : Profile) (dictionary : Dictionary) (n : ℕ) (inner : Form Place Statement) (one : IsOne inner) where
  -- ---- branches

  abbrev pub Blocked : ℕ → Cond → Form Place Branch
  Blocked line cond = Then (BlockIs n begins_word inner) (λ block. Gives (branch_of line cond block))

  abbrev pub Asked : ℕ → Form Place Branch
  Asked line = Then (Closed (Within profile dictionary n)) (Blocked line)

  abbrev pub Opened : ℕ → Form Place Branch
  Opened line = After (Follows open_sign) (Asked line)

  blocked_one : (line : ℕ) (cond : Cond) → IsOne (Blocked line cond)
  blocked_one line cond = then_one (BlockIs n begins_word inner) (λ block. Gives (branch_of line cond block)) (block_one n begins_word inner one) (λ block. gives_one (branch_of line cond block))

  pub condition_one : IsOne (Closed (Within profile dictionary n))
  condition_one = closed_one (Within profile dictionary n) (within_one profile dictionary n)

  asked_one : (line : ℕ) → IsOne (Asked line)
  asked_one line = then_one (Closed (Within profile dictionary n)) (Blocked line) condition_one (blocked_one line)

  opened_one : (line : ℕ) → IsOne (Opened line)
  opened_one line = after_one (Follows open_sign) (Asked line) (follows_sure open_sign) (asked_one line)

  pub branch_one : IsOne (BranchIs profile dictionary n inner)
  branch_one p = after_one (Counts 1) (Opened p.line) (counts_sure 1) (opened_one p.line) p

  pub chained_one : IsOne (Chain (Follows elsif_word) (BranchIs profile dictionary n inner))
  chained_one = chain_one (Follows elsif_word) (BranchIs profile dictionary n inner) (follows_sure elsif_word) branch_one

  -- ---- statements

  otherwise_one : IsOne (Otherwise n inner)
  otherwise_one p None None r s h g = (refl, h.1 ∙ sym g.1)
  otherwise_one p None (Some ys) r s h g = absurd (h.0 g.0 g.1)
  otherwise_one p (Some xs) None r s h g = absurd (g.0 h.0 h.1)
  otherwise_one p (Some xs) (Some ys) r s h g =
      let at = after_one (Follows else_word) (BlockIs n begins_word inner) (follows_sure else_word) (block_one n begins_word inner one) p xs ys r s h g in
      (ap (λ (l : List Statement). Some l) at.0, at.1)

  -- a block that has to follow an `else`
  pub otherwise_refused : (p next : Place) (e : Refusal) → Follows else_word p next → Refuses (BlockIs n begins_word inner next) e → Refuses (Otherwise n inner p) e
  otherwise_refused p next e follows refused = λ some o rest h. none_of some o rest h where
    none_of : e.kind ≢ Memory → (o : Option (List Statement)) (rest : Place) → Otherwise n inner p o rest → ⊥
    none_of some None rest h = h.0 next follows
    none_of some (Some block) rest h = after_on (Follows else_word) (BlockIs n begins_word inner) (follows_sure else_word) p next follows e refused some block rest h

  abbrev pub Ending : List Branch → Form Place Statement
  Ending bs = Then (Otherwise n inner) (λ o. Gives (If bs o))

  ending_one : (bs : List Branch) → IsOne (Ending bs)
  ending_one bs = then_one (Otherwise n inner) (λ o. Gives (If bs o)) otherwise_one (λ o. gives_one (If bs o))

  abbrev pub Updating : ℕ → List Line → Form Place Statement
  Updating line ls = Gives (Update line ls)

  abbrev pub Enclosed : ℕ → Form Place Statement
  Enclosed line = Then (BlockIs n begins_word inner) (λ block. Gives (Transaction line block))

  enclosed_one : (line : ℕ) → IsOne (Enclosed line)
  enclosed_one line = then_one (BlockIs n begins_word inner) (λ block. Gives (Transaction line block)) (block_one n begins_word inner one) (λ block. gives_one (Transaction line block))

  from_one : (k : Keyword) → IsOne (StatementFrom profile dictionary n inner k)
  from_one keyword.Update p x y r s h g =
      then_one (BlockIs n begins_line (LineIs profile dictionary (list_at p).0)) (Updating p.line) (block_one n begins_line (LineIs profile dictionary (list_at p).0) (line_one profile dictionary (list_at p).0))
      (λ ls. gives_one (Update p.line ls)) (list_at p).1 x y r s h g
  from_one keyword.If p x y r s h g = then_one (Chain (Follows elsif_word) (BranchIs profile dictionary n inner)) Ending chained_one ending_one p x y r s h g
  from_one keyword.Transaction p x y r s h g = after_one (Counts 2) (Enclosed p.line) (counts_sure 2) (enclosed_one p.line) p x y r s h g
  from_one (keyword.Code code) p x y r s h g = after_one (Counts 1) (Gives (Word p.line code)) (counts_sure 1) (gives_one (Word p.line code)) p x y r s h g
  from_one keyword.Other p x y r s h g = absurd h

  statement_one : IsOne (StatementIs profile dictionary n inner)
  statement_one p x y r s h g = from_one (keyword_in (next_token p).0) (next_token p).1 x y r s h g

module _ (profile : Profile) (dictionary : Dictionary) where
  pub nested_one : (n : ℕ) → IsOne (Nested profile dictionary n)
  nested_one zero p x y r s h g = absurd h
  nested_one (suc n) p x y r s h g = statement_one profile dictionary n (Nested profile dictionary n) (nested_one n) p x y r s h g

  -- a statement is read by what stands behind its first word
  pub statement_reads : (n : ℕ) (inner : Form Place Statement) (p : Place) (q : Token × Place) (k : Keyword) (r : Result (Statement × Place) Refusal)
      → q ≡ next_token p → keyword_in q.0 ≡ k → Reads (StatementFrom profile dictionary n inner k q.1) r → Reads (StatementIs profile dictionary n inner p) r
  statement_reads n inner p q k r is first reads =
      subst (λ (t : Token × Place). Reads (StatementFrom profile dictionary n inner (keyword_in t.0) t.1) r) is (subst (λ j. Reads (StatementFrom profile dictionary n inner j q.1) r) (sym first) reads)

module _ (dictionary : Dictionary) where
  -- statements up to the end of a text
  abbrev Read : List ℕ → Place → List Statement → Place → Type 0
  Read text p statements end = While begins_word (Nested (profile_of text) dictionary 65) p statements end

  as_read : (text : List ℕ) (profile : Profile) → profile ≡ profile_of text → (p : Place) (statements : List Statement) (end : Place) → p ≡ start_of text
      → While begins_word (Nested profile dictionary 65) p statements end → Read text (start_of text) statements end
  as_read text profile by p statements end start read =
      subst (λ q. While begins_word (Nested q dictionary 65) (start_of text) statements end) by (subst (λ k. While begins_word (Nested profile dictionary 65) k statements end) start read)

  read_one : (text : List ℕ) (xs ys : List Statement) (r s : Place) → Read text (start_of text) xs r → Read text (start_of text) ys s → (xs ≡ ys) × (r ≡ s)
  read_one text xs ys r s h g = while_one begins_word (Nested (profile_of text) dictionary 65) (nested_one (profile_of text) dictionary 65) (start_of text) xs ys r s h g

  pub one_policy : (text : List ℕ) (xs ys : List Statement) → SpellsPolicy dictionary text xs → SpellsPolicy dictionary text ys → xs ≡ ys
  one_policy text xs ys h g = (read_one text xs ys h.0 g.0 h.2 g.2).0

  pub policy_ends : (text : List ℕ) (profile : Profile) → profile ≡ profile_of text → (p : Place) (statements : List Statement) (end : Place) (next : Token) → p ≡ start_of text
      → While begins_word (Nested profile dictionary 65) p statements end → next ≡ (next_token end).0 → next ≡ token.End → SpellsPolicy dictionary text statements
  policy_ends text profile by p statements end next start read is last =
      (end, (next_token end).1, as_read text profile by p statements end start read, ap (λ (t : Token). (t, (next_token end).1)) (sym is ∙ last))

  -- and up to another token
  pub policy_goes_on : (text : List ℕ) (profile : Profile) → profile ≡ profile_of text → (p : Place) (statements : List Statement) (end : Place) (next : Token) → p ≡ start_of text
      → While begins_word (Nested profile dictionary 65) p statements end → next ≡ (next_token end).0 → (next ≡ token.End → ⊥) → (others : List Statement) → SpellsPolicy dictionary text others → ⊥
  policy_goes_on text profile by p statements end next start read is last others h =
      let at = read_one text others statements h.0 end h.2 (as_read text profile by p statements end start read) in
      last (is ∙ ap (λ (t : Token × Place). t.0) (subst (λ k. next_token k ≡ (token.End, h.1)) at.1 h.3))

  pub policy_refused : (text : List ℕ) (profile : Profile) → profile ≡ profile_of text → (p : Place) (e : Refusal) → p ≡ start_of text → Refuses (While begins_word (Nested profile dictionary 65) p) e
      → e.kind ≢ Memory → (statements : List Statement) → SpellsPolicy dictionary text statements → ⊥
  policy_refused text profile by p e start refused some statements h =
      refused some statements h.0 (subst (λ k. While begins_word (Nested profile dictionary 65) k statements h.0) (sym start) (subst (λ q. While begins_word (Nested q dictionary 65) (start_of text) statements h.0) (sym by) h.2))
