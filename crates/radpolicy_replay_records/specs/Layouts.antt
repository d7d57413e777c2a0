-- Records as tests.
use Rattle.std.specs.Prelude.{ℕ, ◌-◌, Bool, true, false, not, List, length, take}
use Rattle.radpolicy_record_answers.specs.declared.verdicts.Verdict.{Verdict}
use Rattle.radpolicy_record_answers.specs.declared.verdicts.Verdict.TheVariants.{Different, Refused}

-- the test of a record of which this became: one fails that is different, and by choice one that is refused
abbrev pub has_passed : Bool → Verdict → Bool
has_passed strict Different = false
has_passed strict Refused = not strict
has_passed strict _ = true

-- a name without the blank that ends it
abbrev pub without_last : List ℕ → List ℕ
without_last name = take (length name - 1) name
