use Rattle.std.proofs.Common.{◌≡◌, length}
use Rattle.avp_forms.specs.Profiles.{words_between}
use Rattle.avp_forms.proofs.profiles.next_word.Given as goal

abbrev pub invariant-loop-part : goal.invariant-loop-part
invariant-loop-part l = words_between l.rest ≡ words_between l.text

abbrev pub decreases-loop-part : goal.decreases-loop-part
decreases-loop-part l = length l.rest
