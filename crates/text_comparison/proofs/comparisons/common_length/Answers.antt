use Rattle.std.proofs.Common.{◌≡◌, arith, subst}
use Rattle.text_comparison.proofs.Commons.{SameSoFar, apart, at_shorter_end, no_more}
use Rattle.text_comparison.proofs.comparisons.common_length.Goals as goal

pub returns-clause-same : goal.returns-clause-same
returns-clause-same c =
    let end : c.loop-i.i ≡ c.min-most.result = omega arith in
    at_shorter_end c.args.earlier.now c.args.now.now c.min-most.result (omega arith) (subst (SameSoFar c.args.earlier.now c.args.now.now) end c.loop-i.invariant)

pub returns-then-earlier-i-clause-same : goal.returns-then-earlier-i-clause-same
returns-then-earlier-i-clause-same c = no_more c.args.earlier.now c.args.now.now c.loop-i.i 0 0 (omega arith) (omega arith) (apart _ _ c.if-earlier-i.true) c.loop-i.invariant
