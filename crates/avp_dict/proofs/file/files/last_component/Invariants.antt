use Rattle.std.proofs.Common.{◌≡◌, length}
use Rattle.avp_dict.proofs.file.files.last_component.Given as goal
use Rattle.avp_dict.specs.Lines.{last_component, last_part}

abbrev pub invariant-loop-rest : goal.invariant-loop-rest
invariant-loop-rest l = last_part l.last l.rest ≡ last_component l.fn.path

abbrev pub decreases-loop-rest : goal.decreases-loop-rest
decreases-loop-rest l = length l.rest
