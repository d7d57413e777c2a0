use Rattle.std.proofs.Common.{ℕ, List, ◌++◌, take}
use Rattle.text_comparison.specs.Parts.{IsBeginning}
use Rattle.text_comparison.proofs.lines.Beginning.add.Given as goal

abbrev pub invariant-loop-octet : goal.invariant-loop-octet
invariant-loop-octet l = (text : List ℕ) → IsBeginning text l.fn.self → IsBeginning (text ++ take l.octet-index l.part) l.self
