-- What is compiled of a pattern, and what its matcher searches for.
use Rattle.std.specs.Prelude.{◌≡◌, ◌≢◌, ◌≤◌, ℕ, List, [], IsUtf8, false, None, IsSome, IsSomeAnd, length}
use Rattle.regex.specs.Patterns.{Re, SameCaptures}
use Rattle.avp_patterns.specs.Patterns.{Written, expansion_at, expression_in, expression_of, unicode_at}
use Rattle.avp_patterns.specs.declared.faults.PatternFault.{PatternFault}
use Rattle.avp_patterns.specs.declared.faults.PatternFault.TheVariants as fault

-- it matches alike, with the same groups
abbrev pub SearchesFor : Written → Re → Type 0
SearchesFor w re = IsSomeAnd (expression_of w) (SameCaptures re)

-- a text that no more than the grammar may refuse
pub record IsSource (text : List ℕ) : Type 0 where
  pub filled : text ≢ []
  pub utf8 : IsUtf8 text
  pub plain : expansion_at text ≡ None
  pub of_octets : unicode_at false text ≡ None

-- why nothing is compiled of a text that is UTF-8
abbrev pub IsNotCompiled : Written → PatternFault → Type 0
IsNotCompiled w (fault.NotRead at) = (expression_in w ≡ None) × (at ≤ length w.text)
IsNotCompiled w fault.TooLarge = IsSome (expression_in w)
IsNotCompiled w fault.Memory = Unit {0}
IsNotCompiled w _ = ⊥
