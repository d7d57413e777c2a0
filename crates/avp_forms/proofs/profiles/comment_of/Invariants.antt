use Rattle.std.proofs.Common.{◌≡◌, length}
use Rattle.avp_forms.specs.Profiles.{comment_of}
use Rattle.avp_forms.proofs.profiles.comment_of.Given as goal

abbrev pub invariant-loop-rest : goal.invariant-loop-rest
invariant-loop-rest l = comment_of l.rest ≡ comment_of l.line

abbrev pub decreases-loop-rest : goal.decreases-loop-rest
decreases-loop-rest l = length l.rest
