use Rattle.std.proofs.Common.{◌≡◌, ◌<◌, ◌++◌, ◌⊎◌, arith, codes, decimal, true, false, ℕ, List, None, inl, inr}
use Rattle.std.specs.Str.{bytes_eq}
use Rattle.std.proofs.lemmas.Slice.Eq.{bytes_eq-Decides}
use Rattle.radpolicy_common.specs.OutputPaths.{IsDescriptorPath}
use Rattle.radpolicy_common.proofs.output_paths.open_descriptor.Goals as goal

other_than : (path text : List ℕ) → false ≡ bytes_eq path text → path ≡ text → ⊥
other_than path text differ same = grind (arith, differ, (bytes_eq-Decides path text).1 same)

pub returns-clause-none : goal.returns-clause-none
returns-clause-none c = λ e number small is. elim is [
  | inl out ↦ other_than c.args.path.now (codes "/dev/stdout") c.if-eq.ensures out.0
  | inr (inl error) ↦ other_than c.args.path.now (codes "/dev/stderr") c.if-eq-2.ensures error.0
  | inr (inr (inl inherited)) ↦ c.in_ok-number.ensures.none c.in_default.is number small inherited
  | inr (inr (inr own)) ↦ c.in_ok-found.ensures.none e number small own
]
