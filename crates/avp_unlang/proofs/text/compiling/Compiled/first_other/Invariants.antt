use Rattle.std.proofs.Common.{◌≡◌, ℕ, length}
use Rattle.avp_forms.specs.declared.profiles.Profile.TheVariants.{Wider}
use Rattle.avp_unlang.specs.Faults.{from_token_after}
use Rattle.avp_unlang.proofs.text.compiling.Compiled.first_other.Given as goal

abbrev pub invariant-loop-start : goal.invariant-loop-start
invariant-loop-start l = (n : ℕ) × (from_token_after Wider n l.text ≡ l.start)

abbrev pub decreases-loop-start : goal.decreases-loop-start
decreases-loop-start l = length l.start
