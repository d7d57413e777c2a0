use Rattle.std.proofs.Common.{IsTrue, drop}
use Rattle.avp_unlang.specs.PolicyPatterns.{is_among}
use Rattle.avp_unlang.proofs.meaning.matchers.Matchers.place_of.Given as goal

abbrev pub invariant-loop-place : goal.invariant-loop-place
invariant-loop-place l =
    IsTrue (is_among (drop l.place l.self-inside.patterns.now) (record { text = l.text; flags = l.flags }))
