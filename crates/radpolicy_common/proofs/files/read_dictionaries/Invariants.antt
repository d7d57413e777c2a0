use Rattle.std.proofs.Common.{◌≡◌, take}
use Rattle.radpolicy.specs.Plans.{names_of_files, names_of_paths}
use Rattle.radpolicy_common.specs.Inputs.{AreRead, WhereKnown, files_of, octets_of_files}
use Rattle.radpolicy_common.proofs.files.read_dictionaries.Given as goal

abbrev pub invariant-loop-path : goal.invariant-loop-path
invariant-loop-path g l = record {
  names : names_of_files l.files.items ≡ names_of_paths (take l.path-index l.paths);
  read : WhereKnown (g.I.Inputs.contents l.inputs) (λ c. AreRead (files_of c (take l.path-index l.paths)) (octets_of_files l.files.items));
}
