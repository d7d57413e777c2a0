-- A plain policy compares with no pattern.
use Rattle.std.proofs.Common.{◌≡◌, ◌∙◌, ℕ, zero, suc, Bool, true, false, ◌&&◌, List, [], ◌∷◌, Option, Some, None, refl, sym, ap, subst}
use Rattle.std.proofs.lemmas.Bool.{and_parts}
use Rattle.std.specs.Prelude.{codes}
use Rattle.std.specs.List.{list_all}
use Rattle.avp_dict.specs.Dictionary.{Dictionary}
use Rattle.avp_forms.specs.Profiles.{profile_of}
use Rattle.avp_forms.specs.declared.profiles.Profile.{Profile}
use Rattle.avp_forms.specs.declared.profiles.Profile.TheVariants.{Plain}
use Rattle.avp_unlang.specs.declared.codes.Code.{Code}
use Rattle.avp_unlang.specs.declared.text.references.Reference.{Reference}
use Rattle.avp_unlang.specs.declared.text.statements.Keyword.{Keyword}
use Rattle.avp_unlang.specs.declared.text.statements.Keyword.TheVariants as keyword
use Rattle.avp_unlang.specs.declared.text.tokens.Sign.TheVariants as sign
use Rattle.avp_unlang.specs.declared.text.tokens.Token.{Token}
use Rattle.avp_unlang.specs.declared.text.tokens.Token.TheVariants as token
use Rattle.avp_unlang.specs.declared.tree.Branch.{Branch}
use Rattle.avp_unlang.specs.declared.tree.Cond.{Cond}
use Rattle.avp_unlang.specs.declared.tree.Relation.{Relation}
use Rattle.avp_unlang.specs.declared.tree.Statement.{Statement}
use Rattle.avp_unlang.specs.declared.tree.Statement.TheFolds.{fold-roll-Branch}
use Rattle.avp_unlang.specs.declared.tree.Statement.TheVariants.{If}
use Rattle.avp_unlang.specs.Between.{Follows}
use Rattle.avp_unlang.specs.Conditions.{Both, Closed, ComparedFrom, ComparedIs, Either, OperandFrom, RelatedBy, Within, WordFrom, all_of, any_of, comparison_of, is_by_meaning, meant_comparison, present_of, relation_of}
use Rattle.avp_unlang.specs.Forms.{Form}
use Rattle.avp_unlang.specs.Places.{Place, start_of}
use Rattle.avp_unlang.specs.Policies.{SpellsPolicy}
use Rattle.avp_unlang.specs.PolicyPatterns.{branch_layer_passes, branch_patterns_pass, cond_patterns_pass, none_passes, policy_patterns_pass, statement_layer_passes, statement_patterns_pass}
use Rattle.avp_unlang.specs.References.{type_of}
use Rattle.avp_unlang.specs.Selecting.{selection_of}
use Rattle.avp_unlang.specs.Statements.{BranchIs, Nested, Otherwise, StatementFrom, begins_word, branch_of, keyword_in}
use Rattle.avp_unlang.specs.Tokens.{next_token}
use Rattle.avp_unlang.specs.Words.{code_named}
use Rattle.avp_unlang.proofs.PolicyPasses.{passes_If, passes_Transaction, passes_Update, passes_Word}
use Rattle.avp_unlang.proofs.SpelledSuits.{Suits, block_fits, both_true, chain_fits, while_fits}
use Rattle.avp_unlang.proofs.Truths.{all_passes, passes_all, passes_any, passes_compare, passes_compare_meant, passes_last, passes_not, passes_present, passes_present_selected}

-- conditions and statements without patterns
abbrev cond_passes : Cond → Bool
cond_passes = cond_patterns_pass none_passes

abbrev statement_passes : Statement → Bool
statement_passes = statement_patterns_pass none_passes

abbrev branch_passes : Branch → Bool
branch_passes = branch_patterns_pass none_passes

passes_branch : (n : ℕ) (c : Cond) (block : List Statement) → branch_passes (branch_of n c block) ≡ (cond_passes c && policy_patterns_pass none_passes block)
passes_branch n c block =
    fold-roll-Branch Bool Bool statement_layer_passes (branch_layer_passes none_passes) (record { line = n; cond = c; block = block })
    ∙ ap (λ b. cond_passes c && b) (all_passes statement_passes block)

any_pass : (cs : List Cond) → list_all cond_passes cs ≡ true → cond_passes (any_of cs) ≡ true
any_pass [] h = passes_any none_passes [] ∙ h
any_pass (c ∷ []) h = (and_parts (cond_passes c) true h).0
any_pass (c ∷ d ∷ cs) h = passes_any none_passes (c ∷ d ∷ cs) ∙ h

all_pass : (cs : List Cond) → list_all cond_passes cs ≡ true → cond_passes (all_of cs) ≡ true
all_pass [] h = passes_all none_passes [] ∙ h
all_pass (c ∷ []) h = (and_parts (cond_passes c) true h).0
all_pass (c ∷ d ∷ cs) h = passes_all none_passes (c ∷ d ∷ cs) ∙ h

module _ (dictionary : Dictionary) where
  -- ---- conditions

  related_pass : (b : Bool) (found : Reference) (relation : Relation) → Suits cond_passes (RelatedBy b Plain dictionary found relation)
  related_pass true found relation p c rest h = ap cond_passes h.3.0 ∙ passes_compare_meant none_passes (meant_comparison dictionary found relation h.0)
  related_pass false found relation p c rest h = ap cond_passes h.3.0 ∙ passes_compare none_passes (comparison_of dictionary found relation h.0)

  present_passes : (found : Reference) (tag : Option ℕ) → cond_passes (present_of dictionary found tag) ≡ true
  present_passes found None = passes_present none_passes found.list found.target.named.id
  present_passes found (Some tag) = passes_present_selected none_passes found.list found.target.named.id (selection_of dictionary found.target)

  compared_from_passes : (found : Reference) (o : Option Relation) (p : Place) → Suits cond_passes (ComparedFrom Plain dictionary found o p)
  compared_from_passes found None p after c rest h = ap cond_passes h.0 ∙ present_passes found found.target.tag
  compared_from_passes found (Some relation) p after c rest h =
      related_pass (is_by_meaning Plain (type_of dictionary found.target.named.id)) found relation after c rest h

  compared_passes : (found : Reference) → Suits cond_passes (ComparedIs Plain dictionary found)
  compared_passes found p c rest h = compared_from_passes found (relation_of (next_token p).0) p (next_token p).1 c rest h

  word_passes : (o : Option Code) (word : List ℕ) → Suits cond_passes (WordFrom Plain dictionary o word)
  word_passes (Some code) word p c rest h = ap cond_passes h.0 ∙ passes_last none_passes code
  word_passes None word p c rest h = compared_passes h.0 p c rest h.2

  both_pass : (form : Form Place Cond) → Suits cond_passes form → Suits cond_passes (Both form)
  both_pass form each p c rest h =
      ap cond_passes h.3.0 ∙ all_pass h.0 (chain_fits cond_passes (Follows (token.Operator sign.And)) form each p h.0 h.1 h.2)

  either_passes : (form : Form Place Cond) → Suits cond_passes form → Suits cond_passes (Either form)
  either_passes form each p c rest h =
      ap cond_passes h.3.0 ∙ any_pass h.0 (chain_fits cond_passes (Follows (token.Operator sign.Or)) (Both form) (both_pass form each) p h.0 h.1 h.2)

  closed_passes : (form : Form Place Cond) → Suits cond_passes form → Suits cond_passes (Closed form)
  closed_passes form each p c rest h = ap cond_passes h.3.2.0 ∙ either_passes form each p h.0 h.1 h.2

  operand_passes : (inner : Form Place Cond) → Suits cond_passes inner → (t : Token) → Suits cond_passes (OperandFrom Plain dictionary inner t)
  operand_passes inner each (token.Operator sign.Not) p c rest h = ap cond_passes h.3.0 ∙ passes_not none_passes h.0 ∙ each p h.0 h.1 h.2
  operand_passes inner each (token.Operator sign.Open) p c rest h = closed_passes inner each p c rest h
  operand_passes inner each (token.Operator sign.Reference) p c rest h = compared_passes h.0 h.1 c rest h.3
  operand_passes inner each (token.Word word) p c rest h = word_passes (code_named word) word p c rest h
  operand_passes inner each _ p c rest h = absurd h

  within_passes : (n : ℕ) → Suits cond_passes (Within Plain dictionary n)
  within_passes zero p c rest h = absurd h
  within_passes (suc n) p c rest h = operand_passes (Within Plain dictionary n) (within_passes n) (next_token p).0 (next_token p).1 c rest h

  -- ---- statements

  module _ (n : ℕ) (inner : Form Place Statement) (each : Suits statement_passes inner) where
    branches_pass : Suits branch_passes (BranchIs Plain dictionary n inner)
    branches_pass p branch rest h =
        ap branch_passes h.2.2.3.3.0 ∙ passes_branch p.line h.2.2.0 h.2.2.3.0
        ∙ both_true (cond_passes h.2.2.0) (policy_patterns_pass none_passes h.2.2.3.0) (closed_passes (Within Plain dictionary n) (within_passes n) h.2.0 h.2.2.0 h.2.2.1 h.2.2.2)
        (block_fits statement_passes n begins_word inner each h.2.2.1 h.2.2.3.0 h.2.2.3.1 h.2.2.3.2)

    ending_passes : (bs : List Branch) → list_all branch_passes bs ≡ true → (o : Option (List Statement)) (p rest : Place) → Otherwise n inner p o rest → statement_passes (If bs o) ≡ true
    ending_passes bs pass None p rest h = passes_If none_passes bs None ∙ both_true (list_all branch_passes bs) true pass refl
    ending_passes bs pass (Some block) p rest h =
        passes_If none_passes bs (Some block) ∙ both_true (list_all branch_passes bs) (policy_patterns_pass none_passes block) pass (block_fits statement_passes n begins_word inner each h.0 block rest h.2)

    from_passes : (k : Keyword) → Suits statement_passes (StatementFrom Plain dictionary n inner k)
    from_passes keyword.Update p s rest h = ap statement_passes h.3.0 ∙ passes_Update none_passes p.line h.0
    from_passes keyword.If p s rest h =
        ap statement_passes h.3.3.0
        ∙ ending_passes h.0 (chain_fits branch_passes (Follows (token.Word (codes "elsif"))) (BranchIs Plain dictionary n inner) branches_pass p h.0 h.1 h.2) h.3.0 h.1 h.3.1 h.3.2
    from_passes keyword.Transaction p s rest h =
        ap statement_passes h.2.3.0 ∙ passes_Transaction none_passes p.line h.2.0 ∙ block_fits statement_passes n begins_word inner each h.0 h.2.0 h.2.1 h.2.2
    from_passes (keyword.Code code) p s rest h = ap statement_passes h.2.0 ∙ passes_Word none_passes p.line code
    from_passes keyword.Other p s rest h = absurd h

  nested_passes : (n : ℕ) → Suits statement_passes (Nested Plain dictionary n)
  nested_passes zero p s rest h = absurd h
  nested_passes (suc n) p s rest h = from_passes n (Nested Plain dictionary n) (nested_passes n) (keyword_in (next_token p).0) (next_token p).1 s rest h

  -- what a plain text spells has no pattern
  pub plain_passes : (text : List ℕ) (statements : List Statement) → profile_of text ≡ Plain → SpellsPolicy dictionary text statements → policy_patterns_pass none_passes statements ≡ true
  plain_passes text statements plain h =
      let all : (q : Profile) → q ≡ Plain → Suits statement_passes (Nested q dictionary 65) = λ q e. subst (λ (k : Profile). Suits statement_passes (Nested k dictionary 65)) (sym e) (nested_passes 65) in
      while_fits statement_passes begins_word (Nested (profile_of text) dictionary 65) (all (profile_of text) plain) (start_of text) statements h.0 h.2
