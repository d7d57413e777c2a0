use Rattle.std.proofs.Common.{ℕ, List, ◌++◌, take}
use Rattle.text_comparison.specs.Parts.{IsPlace}
use Rattle.text_comparison.proofs.lines.Place.pass.Given as goal

abbrev pub invariant-loop-octet : goal.invariant-loop-octet
invariant-loop-octet l = (text : List ℕ) → IsPlace text l.fn.self → IsPlace (text ++ take l.octet-index l.part) l.self
