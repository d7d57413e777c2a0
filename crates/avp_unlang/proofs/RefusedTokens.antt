-- What is refused after a token is refused from the place before it on.
use Rattle.std.proofs.Common.{◌≡◌, ℕ, Bool, Option, Some, None, Result, sym, subst}
use Rattle.std.specs.Prelude.{IfErr}
use Rattle.avp_dict.specs.Dictionary.{Dictionary}
use Rattle.avp_forms.specs.declared.profiles.Profile.{Profile}
use Rattle.avp_forms.specs.declared.targets.Target.{Target}
use Rattle.avp_unlang.specs.Between.{Follows}
use Rattle.avp_unlang.specs.Conditions.{is_by_meaning, is_text_beside, matcher_in, relation_of}
use Rattle.avp_unlang.specs.Forms.{Form}
use Rattle.avp_unlang.specs.Places.{Place}
use Rattle.avp_unlang.specs.References.{type_of}
use Rattle.avp_unlang.specs.RefusedConditions.{ComparedFails, ComparedFailsFrom, MatchedFails, MatchedFailsOr, RelatedFails, RelatedFailsAs, RelatedFailsBy, ValueRelatedFails}
use Rattle.avp_unlang.specs.RefusedForms.{Failing, Tells, left_at, unfit}
use Rattle.avp_unlang.specs.RefusedStatements.{StatementFails, StatementFailsFrom}
use Rattle.avp_unlang.specs.Statements.{keyword_in}
use Rattle.avp_unlang.specs.Tokens.{next_token}
use Rattle.avp_unlang.specs.declared.faults.PolicyKind.{PolicyKind}
use Rattle.avp_unlang.specs.declared.faults.Refusal.{Refusal}
use Rattle.avp_unlang.specs.declared.text.references.Reference.{Reference}
use Rattle.avp_unlang.specs.declared.text.statements.Keyword.{Keyword}
use Rattle.avp_unlang.specs.declared.text.tokens.Matcher.{Matcher}
use Rattle.avp_unlang.specs.declared.text.tokens.Token.{Token}
use Rattle.avp_unlang.specs.declared.tree.Relation.{Relation}
use Rattle.avp_unlang.specs.declared.tree.Statement.{Statement}

-- by a token, where it begins, and the place after it
abbrev pub FailingBy : Type 1
FailingBy = ℕ → Token → Failing Place

module _ (from : FailingBy) (p : Place) (q : Token × Place) (begin : ℕ) (token : Token) where
  pub token_fails : q ≡ next_token p → q.0 ≡ token → begin ≡ left_at p → (left : ℕ) (kind : PolicyKind) → from begin token q.1 left kind → from (left_at p) (next_token p).0 (next_token p).1 left kind
  token_fails is first place left kind h =
      subst (λ (k : Token × Place). from (left_at p) k.0 k.1 left kind) is (subst (λ t. from (left_at p) t q.1 left kind) (sym first) (subst (λ l. from l token q.1 left kind) place h))

module _ {X : Type 0} (from : FailingBy) (p : Place) (q : Token × Place) (begin : ℕ) (token : Token) (r : Result X Refusal) where
  pub token_tells : q ≡ next_token p → q.0 ≡ token → begin ≡ left_at p → IfErr r (Tells (from begin token q.1)) → IfErr r (Tells (from (left_at p) (next_token p).0 (next_token p).1))
  token_tells is first place h =
      subst (λ (k : Token × Place). IfErr r (Tells (from (left_at p) k.0 k.1))) is
      (subst (λ t. IfErr r (Tells (from (left_at p) t q.1))) (sym first) (subst (λ l. IfErr r (Tells (from l token q.1))) place h))

module _ (profile : Profile) (dictionary : Dictionary) {X : Type 0} (r : Result X Refusal) where
  -- ---- conditions

  pub related_tells : (target : Target) (name : ℕ) (p : Place) (b : Bool) → b ≡ is_by_meaning profile (type_of dictionary target.named.id) → IfErr r (Tells (RelatedFailsBy b profile dictionary target name p))
      → IfErr r (Tells (ValueRelatedFails profile dictionary target name p))
  related_tells target name p b by h = subst (λ k. IfErr r (Tells (RelatedFailsBy k profile dictionary target name p))) by h

  -- a text that puts something in, or a value
  pub related_as_tells : (found : Reference) (name : ℕ) (p : Place) (b : Bool) → b ≡ is_text_beside profile (next_token p).0 → IfErr r (Tells (RelatedFailsAs b profile dictionary found name p))
      → IfErr r (Tells (RelatedFails profile dictionary found name p))
  related_as_tells found name p b by h = subst (λ k. IfErr r (Tells (RelatedFailsAs k profile dictionary found name p))) by h

  module _ (found : Reference) (name : ℕ) (p : Place) (token : Token) (mid : Place) (follows : Follows token p mid) where
    or_tells : (o : Option Matcher) (at : ℕ) → at ≡ left_at p → matcher_in profile token ≡ o → IfErr r (Tells (MatchedFailsOr profile dictionary found name at o token mid)) → IfErr r (Tells (ComparedFails profile dictionary found name p))
    or_tells o at place is h =
        subst (λ (k : Token × Place). IfErr r (Tells (MatchedFailsOr profile dictionary found name (left_at p) (matcher_in profile k.0) k.0 k.1))) (sym follows)
        (subst (λ m. IfErr r (Tells (MatchedFailsOr profile dictionary found name (left_at p) m token mid))) (sym is)
        (subst (λ l. IfErr r (Tells (MatchedFailsOr profile dictionary found name l o token mid))) place h))

    -- a comparison with a pattern
    pub matched_tells : (m : Matcher) (at : ℕ) → at ≡ left_at p → matcher_in profile token ≡ Some m → IfErr r (Tells (MatchedFails m at mid)) → IfErr r (Tells (ComparedFails profile dictionary found name p))
    matched_tells m at place is h = or_tells (Some m) at place is h

    -- what follows an operator that compares
    pub compared_tells : (relation : Relation) (at : ℕ) → at ≡ left_at p → matcher_in profile token ≡ None → relation_of token ≡ Some relation → IfErr r (Tells (RelatedFails profile dictionary found name mid))
        → IfErr r (Tells (ComparedFails profile dictionary found name p))
    compared_tells relation at place none related h =
        or_tells None at place none (subst (λ o. IfErr r (Tells (ComparedFailsFrom profile dictionary found name o mid))) (sym related) h)

  -- ---- statements

  pub statement_tells : (n : ℕ) (inner : Form Place Statement) (fails : Failing Place) (p : Place) (q : Token × Place) (begin : ℕ) (k : Keyword) → q ≡ next_token p → keyword_in q.0 ≡ k → begin ≡ left_at p
      → IfErr r (Tells (StatementFailsFrom profile dictionary n inner fails begin (unfit q.0) k q.1)) → IfErr r (Tells (StatementFails profile dictionary n inner fails p))
  statement_tells n inner fails p q begin k is first place h =
      subst (λ (x : Token × Place). IfErr r (Tells (StatementFailsFrom profile dictionary n inner fails (left_at p) (unfit x.0) (keyword_in x.0) x.1))) is
      (subst (λ w. IfErr r (Tells (StatementFailsFrom profile dictionary n inner fails (left_at p) (unfit q.0) w q.1))) (sym first)
      (subst (λ l. IfErr r (Tells (StatementFailsFrom profile dictionary n inner fails l (unfit q.0) k q.1))) place h))
