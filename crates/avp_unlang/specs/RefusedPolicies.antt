-- The first place at which a text is no policy, in the order of reading, and what it is refused for.
use Rattle.std.specs.Prelude.{◌≡◌, ℕ, suc, ◌+◌, List, length}
use Rattle.avp_dict.specs.Dictionary.{Dictionary}
use Rattle.avp_forms.specs.Profiles.{profile_of}
use Rattle.avp_forms.specs.declared.profiles.Profile.{Profile}
use Rattle.avp_patterns.specs.Patterns as patterns
use Rattle.avp_unlang.specs.Forms.{While}
use Rattle.avp_unlang.specs.Places.{start_of}
use Rattle.avp_unlang.specs.Policies.{SpellsPolicy, max_nested}
use Rattle.avp_unlang.specs.RefusedForms.{Failing, Misses, ThenFails, WhileFails}
use Rattle.avp_unlang.specs.RefusedStatements.{NestedFails}
use Rattle.avp_unlang.specs.Places.{Place}
use Rattle.avp_unlang.specs.Statements.{Nested, begins_word}
use Rattle.avp_unlang.specs.declared.faults.PolicyKind.{PolicyKind}
use Rattle.avp_unlang.specs.declared.faults.PolicyKind.TheVariants as kinds
use Rattle.avp_unlang.specs.declared.tree.Statement.{Statement}
use Rattle.avp_unlang.specs.declared.text.tokens.Token.TheVariants.{End}

-- statement after statement up to the end of the text
abbrev pub StatementsFail : Profile → Dictionary → Failing Place
StatementsFail profile dictionary =
    ThenFails (While begins_word (Nested profile dictionary (suc max_nested)))
    (WhileFails begins_word (Nested profile dictionary (suc max_nested))
    (NestedFails profile dictionary (suc max_nested)))
    (λ statements. Misses End)

-- A text is refused for this kind after so many octets. Of want of memory, and of a pattern that is too large when it
-- is compiled, nothing is said.
pub record IsRefusedAt (dictionary : Dictionary) (text : List ℕ) (offset : ℕ) (kind : PolicyKind)
    : Type 0 where
  pub left : ℕ
  pub fails : StatementsFail (profile_of text) dictionary (start_of text) left kind
  pub placed : offset + left ≡ length text

-- a kind, but for the place in a pattern of what its grammar doesn't read, which is left open
abbrev pub without_place : PolicyKind → PolicyKind
without_place (kinds.Pattern fault) = kinds.Pattern (patterns.without_place fault)
without_place kind = kind

-- A text that is refused spells no policy, and it is refused at one place for one kind.
pub record IsRefusedOnce : Type 0 where
  pub apart : (dictionary : Dictionary) (text : List ℕ) (statements : List Statement)
      (offset : ℕ) (kind : PolicyKind)
      → SpellsPolicy dictionary text statements → IsRefusedAt dictionary text offset kind → ⊥
  pub once : (dictionary : Dictionary) (text : List ℕ) (offset other : ℕ)
      (kind also : PolicyKind)
      → IsRefusedAt dictionary text offset kind → IsRefusedAt dictionary text other also
      → (offset ≡ other) × (without_place kind ≡ without_place also)
