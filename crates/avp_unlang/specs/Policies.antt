-- The policy that a text spells, and when a text is refused.
use Rattle.std.specs.Prelude.{◌≡◌, ◌≢◌, ℕ, suc, List, Result, Ok, Err}
use Rattle.avp_dict.specs.Dictionary.{Dictionary}
use Rattle.avp_forms.specs.Profiles.{profile_of}
use Rattle.avp_patterns.specs.declared.faults.PatternFault.TheVariants.{TooLarge}
use Rattle.avp_unlang.specs.declared.faults.PolicyFault.{PolicyFault}
use Rattle.avp_unlang.specs.declared.faults.PolicyKind.{PolicyKind}
use Rattle.avp_unlang.specs.declared.faults.PolicyKind.TheVariants.{Memory, Pattern}
use Rattle.avp_unlang.specs.declared.text.tokens.Token.TheVariants.{End}
use Rattle.avp_unlang.specs.declared.tree.Statement.{Statement}
use Rattle.avp_unlang.specs.Forms.{While}
use Rattle.avp_unlang.specs.Places.{Place, start_of}
use Rattle.avp_unlang.specs.PolicyPatterns.{HasPatterns}
use Rattle.avp_unlang.specs.Statements.{Nested, begins_word}
use Rattle.avp_unlang.specs.Between.{Follows}

-- how many signs `{`, `(` and `!` may be open at once
abbrev pub max_nested : ℕ
max_nested = 64

-- statement after statement up to the end of the text, which says by a comment before them how much it may hold
abbrev pub SpellsPolicy : Dictionary → List ℕ → List Statement → Type 0
SpellsPolicy dictionary text statements =
    (end : Place) × (rest : Place)
    × While begins_word (Nested (profile_of text) dictionary (suc max_nested)) (start_of text)
    statements end
    × Follows End end rest

-- A text is refused for a fault of this kind; want of memory may come at any time.
pub record IsRefusedPolicy (dictionary : Dictionary) (text : List ℕ) (kind : PolicyKind)
    : Type 0 where
  -- A pattern is too large when it is compiled: one of the policy that the text spells. Which patterns are is left open.
  pub compiled : kind ≡ Pattern TooLarge
      → (statements : List Statement) × SpellsPolicy dictionary text statements
      × HasPatterns statements
  -- Each other kind is of a text that spells no policy.
  pub unspelled : kind ≢ Memory → kind ≢ Pattern TooLarge → (statements : List Statement)
      → SpellsPolicy dictionary text statements → ⊥

-- what a reader of policies answers
abbrev pub ReadsPolicy : Dictionary → List ℕ → Result (List Statement) PolicyFault → Type 0
ReadsPolicy dictionary text (Ok statements) = SpellsPolicy dictionary text statements
ReadsPolicy dictionary text (Err fault) = IsRefusedPolicy dictionary text fault.kind
