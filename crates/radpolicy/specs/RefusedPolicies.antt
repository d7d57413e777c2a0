-- The fault with which a policy's text is refused.
use Rattle.std.specs.Prelude.{◌≡◌, ◌≢◌, ◌≤◌, List, ℕ, length, take}
use Rattle.avp_dict.specs.Dictionary.{Dictionary}
use Rattle.avp_dict.specs.LineNumbers.{line_after}
use Rattle.avp_patterns.specs.declared.faults.PatternFault.TheVariants.{TooLarge}
use Rattle.avp_unlang.specs.Faults.{BeginsToken}
use Rattle.avp_unlang.specs.Policies.{IsRefusedPolicy}
use Rattle.avp_unlang.specs.RefusedPolicies.{IsRefusedAt, without_place}
use Rattle.avp_unlang.specs.declared.faults.PolicyFault.{PolicyFault}
use Rattle.avp_unlang.specs.declared.faults.PolicyKind.TheVariants.{Memory, Pattern}

-- A text spells no policy, and the fault is that of the first place that is refused: what it is refused for, its offset
-- and its line. Or a pattern of the policy that it spells is too large when it is compiled; of its place no more is said
-- then than that a token begins there.
pub record IsRefusedWith (dictionary : Dictionary) (text : List ℕ) (f : PolicyFault) : Type 0 where
  pub some : f.kind ≢ Memory
  pub refused : IsRefusedPolicy dictionary text f.kind
  pub first : f.kind ≢ Pattern TooLarge → IsRefusedAt dictionary text f.offset f.kind
  pub within : f.offset ≤ length text
  pub token : BeginsToken f.offset text
  pub line : f.line ≡ line_after (take f.offset text)

-- Two faults are one, but for the place in a pattern of what its grammar doesn't read, and for which pattern is too
-- large.
pub record AreOne (a b : PolicyFault) : Type 0 where
  pub kind : without_place a.kind ≡ without_place b.kind
  pub offset : a.kind ≢ Pattern TooLarge → a.offset ≡ b.offset
  pub line : a.kind ≢ Pattern TooLarge → a.line ≡ b.line
