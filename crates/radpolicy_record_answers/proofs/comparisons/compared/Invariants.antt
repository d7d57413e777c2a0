use Rattle.std.proofs.Common.{◌≡◌, take}
use Rattle.radpolicy_record_answers.specs.Comparisons.{compared, pairs_of}
use Rattle.radpolicy_record_answers.proofs.comparisons.compared.Given as goal

abbrev pub invariant-loop-pair : goal.invariant-loop-pair
invariant-loop-pair l = pairs_of l.kept.items ≡ compared l.ignored (take l.pair-index l.pairs)
