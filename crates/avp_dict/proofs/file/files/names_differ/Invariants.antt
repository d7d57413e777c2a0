use Rattle.std.proofs.Common.{◌≡◌, length}
use Rattle.avp_dict.proofs.file.files.names_differ.Given as goal
use Rattle.avp_dict.specs.Lines.{names_differ}

abbrev pub invariant-loop-rest : goal.invariant-loop-rest
invariant-loop-rest l = names_differ l.rest ≡ names_differ l.files

abbrev pub decreases-loop-rest : goal.decreases-loop-rest
decreases-loop-rest l = length l.rest
