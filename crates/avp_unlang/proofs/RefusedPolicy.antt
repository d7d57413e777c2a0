-- A refusal of the statements of a text, or of what is after them, is one of the text.
use Rattle.std.proofs.Common.{◌≡◌, ℕ, inl, inr, List, ap, subst, ◌∙◌}
use Rattle.avp_dict.specs.Dictionary.{Dictionary}
use Rattle.avp_forms.specs.Profiles.{profile_of}
use Rattle.avp_forms.specs.declared.profiles.Profile.{Profile}
use Rattle.avp_unlang.specs.Forms.{While}
use Rattle.avp_unlang.specs.Places.{Place, start_of}
use Rattle.avp_unlang.specs.RefusedForms.{Unfit, WhileFails}
use Rattle.avp_unlang.specs.RefusedPolicies.{StatementsFail}
use Rattle.avp_unlang.specs.RefusedStatements.{NestedFails}
use Rattle.avp_unlang.specs.Statements.{Nested, begins_word}
use Rattle.avp_unlang.specs.Tokens.{next_token}
use Rattle.avp_unlang.specs.declared.faults.PolicyKind.{PolicyKind}
use Rattle.avp_unlang.specs.declared.text.tokens.Token.{Token}
use Rattle.avp_unlang.specs.declared.text.tokens.Token.TheVariants.{End}
use Rattle.avp_unlang.specs.declared.tree.Statement.{Statement}

module _ (dictionary : Dictionary) (text : List ℕ) (profile : Profile) (p : Place) (by : profile ≡ profile_of text) (start : p ≡ start_of text) where
  pub statements_fail : (left : ℕ) (kind : PolicyKind) → WhileFails begins_word (Nested profile dictionary 65) (NestedFails profile dictionary 65) p left kind
      → StatementsFail (profile_of text) dictionary (start_of text) left kind
  statements_fail left kind h =
      inl (subst (λ q. WhileFails begins_word (Nested q dictionary 65) (NestedFails q dictionary 65) (start_of text) left kind) by
      (subst (λ q. WhileFails begins_word (Nested profile dictionary 65) (NestedFails profile dictionary 65) q left kind) start h))

  pub end_fails : (statements : List Statement) (end : Place) (next : Token) → While begins_word (Nested profile dictionary 65) p statements end → next ≡ (next_token end).0 → (next ≡ End → ⊥)
      → (left : ℕ) (kind : PolicyKind) → Unfit end left kind → StatementsFail (profile_of text) dictionary (start_of text) left kind
  end_fails statements end next read is other left kind h =
      inr (
        statements,
        end,
        subst (λ q. While begins_word (Nested q dictionary 65) (start_of text) statements end) by (subst (λ q. While begins_word (Nested profile dictionary 65) q statements end) start read),
        (λ rest follows. other (is ∙ ap (λ (t : Token × Place). t.0) follows), h),
      )
