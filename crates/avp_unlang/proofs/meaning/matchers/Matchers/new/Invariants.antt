use Rattle.std.proofs.Common.{◌≡◌, take}
use Rattle.avp_unlang.proofs.meaning.matchers.Matchers.new.Given as goal

abbrev pub invariant-loop-pattern : goal.invariant-loop-pattern
invariant-loop-pattern l = l.matchers.items ≡ take l.pattern-index l.patterns
