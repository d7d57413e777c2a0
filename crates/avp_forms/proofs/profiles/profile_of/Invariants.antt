use Rattle.std.proofs.Common.{◌≡◌, length}
use Rattle.avp_dict.specs.Lines.{texts_of}
use Rattle.avp_forms.specs.Profiles.{profile_of_lines}
use Rattle.avp_forms.proofs.profiles.profile_of.Given as goal

abbrev pub invariant-loop-line : goal.invariant-loop-line
invariant-loop-line l = profile_of_lines (texts_of l.rest) ≡ profile_of_lines (texts_of l.text)

abbrev pub decreases-loop-line : goal.decreases-loop-line
decreases-loop-line l = length l.rest
