use Rattle.std.proofs.Common.{◌≡◌, map, take}
use Rattle.radpolicy_c.specs.Files.{file_given}
use Rattle.radpolicy_c.proofs.files.file_set_of.Given as goal

abbrev pub invariant-loop-file : goal.invariant-loop-file
invariant-loop-file l = l.read.items ≡ map file_given (take l.file-index l.files)
