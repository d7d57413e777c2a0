use Rattle.std.proofs.Common.{◌≡◌, suc, ◌-◌, [], ◌∷◌, false, inl, inr, subst, arith, ap, refl, rules}
use Rattle.avp_unlang.specs.declared.text.tokens.Sign.TheVariants.{And, Or}
use Rattle.avp_unlang.specs.declared.text.tokens.Sign.TheVariants as sign
use Rattle.avp_unlang.specs.declared.text.tokens.Token.TheVariants.{Operator}
use Rattle.avp_unlang.specs.declared.tree.Cond.TheVariants.{Not}
use Rattle.avp_unlang.specs.Conditions.{Within, Both, Either, Closed, Negated, all_of, any_of}
use Rattle.avp_unlang.specs.Forms.{Chain, Gives}
use Rattle.avp_unlang.specs.Between.{Follows}
use Rattle.avp_unlang.proofs.Chains.{chain_stops, front_one, front_more, front_done, front_stops}
use Rattle.avp_unlang.specs.RefusedConditions.{BothFails, ClosedFails, EitherFails, OperandFailsFrom, WithinFails}
use Rattle.avp_unlang.specs.RefusedForms.{DeepFails, Misses, OthersFails, Tells, ThenFails}
use Rattle.avp_unlang.proofs.RefusedReads.{deep_inside, tells}
use Rattle.avp_unlang.proofs.RefusedTokens.{token_tells}
use Rattle.avp_unlang.proofs.Determined.{exits, then_stops}
use Rattle.avp_unlang.proofs.LinesOne.{follows_sure}
use Rattle.avp_unlang.proofs.ConditionsOne.{within_one, both_one, operand_reads, negated_refused, closed_refused, unclosed_refused, closed_reads}
use Rattle.avp_unlang.proofs.text.conditions.+conditions.Goals as goal

pub both-returns-then-not-is_before-clause-read : goal.both-returns-then-not-is_before-clause-read
both-returns-then-not-is_before-clause-read t c =
    let off : c.is_before.result ≡ false = search rules in
    (c.in_ok-first.first ∷ [], c.in_ok-first.rest, (c.in_ok-first.rest, c.in_ok-first.ensures.read, (c.is_before.ensures.none off, refl)), (refl, refl))

pub both-loop-next-init : goal.both-loop-next-init
both-loop-next-init t c = record {
  front =
      front_one (Follows (Operator And)) (Within c.args.profile c.args.dictionary.now (suc c.args.depth)) (within_one c.args.profile c.args.dictionary.now (suc c.args.depth)) c.args.at c.in_ok-first.first c.in_ok-first.rest
      c.in_ok-first.ensures.read c.new-conds.result.items c.push.new.self.items c.new-conds.ensures.items c.in_ok-push.ensures.items;
  within = c.in_ok-first.ensures.shorter;
  refused = λ left kind h. inr (c.in_ok-first.first, c.in_ok-first.rest, c.in_ok-first.ensures.read, h);
}

pub both-returns-in_err-cond-clause-read : goal.both-returns-in_err-cond-clause-read
both-returns-in_err-cond-clause-read t c =
    exits (Both (Within c.args.profile c.args.dictionary.now (suc c.args.depth)) c.args.at) _ _ c.from_residual-in_err-cond.ensures.1
    (then_stops (Chain (Follows (Operator And)) (Within c.args.profile c.args.dictionary.now (suc c.args.depth))) (λ cs. Gives (all_of cs)) c.args.at c.in_err-cond.field-0.0
    (front_stops (Follows (Operator And)) (Within c.args.profile c.args.dictionary.now (suc c.args.depth)) (follows_sure (Operator And)) c.args.at c.loop-next.conds.items c.loop-next.rest c.in-Some.next
    c.loop-next.invariant.front c.in-Some.ensures.found c.in_err-cond.field-0.0 c.in_err-cond.ensures.read))

pub both-loop-next-preserved : goal.both-loop-next-preserved
both-loop-next-preserved t c = record {
  front =
      front_more (Follows (Operator And)) (Within c.args.profile c.args.dictionary.now (suc c.args.depth)) (follows_sure (Operator And)) (within_one c.args.profile c.args.dictionary.now (suc c.args.depth)) c.args.at c.loop-next.conds.items c.loop-next.rest
      c.in-Some.next c.in_ok-cond.cond c.in_ok-cond.end c.loop-next.invariant.front c.in-Some.ensures.found c.in_ok-cond.ensures.read c.push-in-Some.new.self.items c.in_ok-push-2.ensures.items;
  within = omega (arith, c.in-Some.ensures.shorter, c.in_ok-cond.ensures.shorter, c.loop-next.invariant.within);
  refused = λ left kind h. c.loop-next.invariant.refused left kind (OthersFails.later c.in-Some.next c.in_ok-cond.cond c.in_ok-cond.end c.in-Some.ensures.found c.in_ok-cond.ensures.read h);
}

pub both-returns-clause-read : goal.both-returns-clause-read
both-returns-clause-read t c = (
  c.loop-next.conds.items,
  c.loop-next.rest,
  front_done (Follows (Operator And)) (Within c.args.profile c.args.dictionary.now (suc c.args.depth)) c.args.at c.loop-next.conds.items c.loop-next.rest c.loop-next.invariant.front c.in_default.ensures.none,
  (c.all_of.ensures, refl),
)

pub either-returns-in_err-first-clause-read : goal.either-returns-in_err-first-clause-read
either-returns-in_err-first-clause-read t c =
    exits (Either (Within c.args.profile c.args.dictionary.now (suc c.args.depth)) c.args.at) _ _ c.from_residual.ensures.1
    (then_stops (Chain (Follows (Operator Or)) (Both (Within c.args.profile c.args.dictionary.now (suc c.args.depth)))) (λ cs. Gives (any_of cs)) c.args.at c.in_err-first.field-0.0
    (chain_stops (Follows (Operator Or)) (Both (Within c.args.profile c.args.dictionary.now (suc c.args.depth))) c.args.at c.in_err-first.field-0.0 c.in_err-first.ensures.read))

pub either-returns-then-not-is_before-clause-read : goal.either-returns-then-not-is_before-clause-read
either-returns-then-not-is_before-clause-read t c =
    let off : c.is_before.result ≡ false = search rules in
    (c.in_ok-first.first ∷ [], c.in_ok-first.rest, (c.in_ok-first.rest, c.in_ok-first.ensures.read, (c.is_before.ensures.none off, refl)), (refl, refl))

pub either-loop-next-init : goal.either-loop-next-init
either-loop-next-init t c = record {
  front =
      front_one (Follows (Operator Or)) (Both (Within c.args.profile c.args.dictionary.now (suc c.args.depth))) (both_one (Within c.args.profile c.args.dictionary.now (suc c.args.depth)) (within_one c.args.profile c.args.dictionary.now (suc c.args.depth)))
      c.args.at c.in_ok-first.first c.in_ok-first.rest
      c.in_ok-first.ensures.read c.new-conds.result.items c.push.new.self.items c.new-conds.ensures.items c.in_ok-push.ensures.items;
  within = c.in_ok-first.ensures.shorter;
  refused = λ left kind h. inr (c.in_ok-first.first, c.in_ok-first.rest, c.in_ok-first.ensures.read, h);
}

pub either-returns-in_err-cond-clause-read : goal.either-returns-in_err-cond-clause-read
either-returns-in_err-cond-clause-read t c =
    exits (Either (Within c.args.profile c.args.dictionary.now (suc c.args.depth)) c.args.at) _ _ c.from_residual-in_err-cond.ensures.1
    (then_stops (Chain (Follows (Operator Or)) (Both (Within c.args.profile c.args.dictionary.now (suc c.args.depth)))) (λ cs. Gives (any_of cs)) c.args.at c.in_err-cond.field-0.0
    (front_stops (Follows (Operator Or)) (Both (Within c.args.profile c.args.dictionary.now (suc c.args.depth))) (follows_sure (Operator Or)) c.args.at c.loop-next.conds.items c.loop-next.rest c.in-Some.next
    c.loop-next.invariant.front c.in-Some.ensures.found c.in_err-cond.field-0.0 c.in_err-cond.ensures.read))

pub either-loop-next-preserved : goal.either-loop-next-preserved
either-loop-next-preserved t c = record {
  front =
      front_more (Follows (Operator Or)) (Both (Within c.args.profile c.args.dictionary.now (suc c.args.depth))) (follows_sure (Operator Or))
      (both_one (Within c.args.profile c.args.dictionary.now (suc c.args.depth)) (within_one c.args.profile c.args.dictionary.now (suc c.args.depth))) c.args.at c.loop-next.conds.items c.loop-next.rest
      c.in-Some.next c.in_ok-cond.cond c.in_ok-cond.end c.loop-next.invariant.front c.in-Some.ensures.found c.in_ok-cond.ensures.read c.push-in-Some.new.self.items c.in_ok-push-2.ensures.items;
  within = omega (arith, c.in-Some.ensures.shorter, c.in_ok-cond.ensures.shorter, c.loop-next.invariant.within);
  refused = λ left kind h. c.loop-next.invariant.refused left kind (OthersFails.later c.in-Some.next c.in_ok-cond.cond c.in_ok-cond.end c.in-Some.ensures.found c.in_ok-cond.ensures.read h);
}

pub either-returns-clause-read : goal.either-returns-clause-read
either-returns-clause-read t c = (
  c.loop-next.conds.items,
  c.loop-next.rest,
  front_done (Follows (Operator Or)) (Both (Within c.args.profile c.args.dictionary.now (suc c.args.depth))) c.args.at c.loop-next.conds.items c.loop-next.rest c.loop-next.invariant.front c.in_default.ensures.none,
  (c.any_of.ensures, refl),
)

pub closed-returns-in_err-cond-clause-read : goal.closed-returns-in_err-cond-clause-read
closed-returns-in_err-cond-clause-read t c =
    exits (Closed (Within c.args.profile c.args.dictionary.now c.args.depth) c.args.at) _ _ c.from_residual.ensures.1
    (closed_refused c.args.profile c.args.dictionary.now c.args.depth (suc (c.args.depth - 1)) c.args.at c.in_err-cond.field-0.0 (omega (arith, c.if-depth-eq0.false)) c.in_err-cond.ensures.read)

pub closed-returns-in_err-rest-clause-read : goal.closed-returns-in_err-rest-clause-read
closed-returns-in_err-rest-clause-read t c =
    exits (Closed (Within c.args.profile c.args.dictionary.now c.args.depth) c.args.at) _ _ c.from_residual-in_err-rest.ensures.1
    (unclosed_refused c.args.profile c.args.dictionary.now c.args.depth (suc (c.args.depth - 1)) c.args.at c.in_ok-cond.cond c.in_ok-cond.end c.in_err-rest.field-0.0 (omega (arith, c.if-depth-eq0.false)) c.in_ok-cond.ensures.read c.in_err-rest.ensures.taken)

pub closed-returns-clause-read : goal.closed-returns-clause-read
closed-returns-clause-read t c =
    closed_reads c.args.profile c.args.dictionary.now c.args.depth (suc (c.args.depth - 1)) c.args.at c.in_ok-cond.cond c.in_ok-cond.end c.in_ok-rest.rest (omega (arith, c.if-depth-eq0.false)) c.in_ok-cond.ensures.read c.in_ok-rest.ensures.taken

pub negated-returns-in_err-cond-clause-read : goal.negated-returns-in_err-cond-clause-read
negated-returns-in_err-cond-clause-read t c =
    exits (Negated (Within c.args.profile c.args.dictionary.now c.args.depth) c.args.at) _ _ c.from_residual.ensures.1
    (negated_refused c.args.profile c.args.dictionary.now c.args.depth (suc (c.args.depth - 1)) c.args.at c.in_err-cond.field-0.0 (omega (arith, c.if-depth-eq0.false)) c.in_err-cond.ensures.read)

pub negated-returns-clause-read : goal.negated-returns-clause-read
negated-returns-clause-read t c =
    let same : suc (c.args.depth - 1) ≡ c.args.depth = omega (arith, c.if-depth-eq0.false) in
    (c.in_ok-cond.cond, c.in_ok-cond.rest, subst (λ k. Within c.args.profile c.args.dictionary.now k c.args.at c.in_ok-cond.cond c.in_ok-cond.rest) same c.in_ok-cond.ensures.read, (ap Not c.in_ok-new.ensures, refl))

pub operand-returns-in-Operator-Not-clause-read : goal.operand-returns-in-Operator-Not-clause-read
operand-returns-in-Operator-Not-clause-read t c =
    let first : c.next-token.result.0 ≡ Operator sign.Not = search rules in
    operand_reads c.args.profile c.args.dictionary.now (Within c.args.profile c.args.dictionary.now c.args.depth) c.args.at c.next-token.result (Operator sign.Not) c.negated.result c.next-token.ensures.same first c.negated.ensures.read

pub operand-returns-in-Operator-Open-clause-read : goal.operand-returns-in-Operator-Open-clause-read
operand-returns-in-Operator-Open-clause-read t c =
    let first : c.next-token.result.0 ≡ Operator sign.Open = search rules in
    operand_reads c.args.profile c.args.dictionary.now (Within c.args.profile c.args.dictionary.now c.args.depth) c.args.at c.next-token.result (Operator sign.Open) c.closed.result c.next-token.ensures.same first c.closed.ensures.read

pub operand-returns-in-Operator-Reference-clause-read : goal.operand-returns-in-Operator-Reference-clause-read
operand-returns-in-Operator-Reference-clause-read t c =
    let first : c.next-token.result.0 ≡ Operator sign.Reference = search rules in
    operand_reads c.args.profile c.args.dictionary.now (Within c.args.profile c.args.dictionary.now c.args.depth) c.args.at c.next-token.result (Operator sign.Reference) c.referred_operand.result c.next-token.ensures.same first c.referred_operand.ensures.read

pub both-returns-in_err-cond-clause-refused : goal.both-returns-in_err-cond-clause-refused
both-returns-in_err-cond-clause-refused t c =
    tells (Tells (BothFails (Within c.args.profile c.args.dictionary.now (suc c.args.depth)) (WithinFails c.args.profile c.args.dictionary.now (suc c.args.depth)) c.args.at)) _ _ c.from_residual-in_err-cond.ensures.1 (λ some. c.loop-next.invariant.refused c.in_err-cond.field-0.0.left c.in_err-cond.field-0.0.kind (OthersFails.here c.in-Some.next c.in-Some.ensures.found (c.in_err-cond.ensures.refused some)))

pub closed-returns-in_err-cond-clause-refused : goal.closed-returns-in_err-cond-clause-refused
closed-returns-in_err-cond-clause-refused t c =
    tells (Tells (ClosedFails c.args.depth c.args.sign.left (Within c.args.profile c.args.dictionary.now c.args.depth) (WithinFails c.args.profile c.args.dictionary.now c.args.depth) c.args.at)) _ _ c.from_residual.ensures.1 (λ some. deep_inside (λ k. ThenFails (Either (Within c.args.profile c.args.dictionary.now k)) (EitherFails (Within c.args.profile c.args.dictionary.now k) (WithinFails c.args.profile c.args.dictionary.now k)) (λ cond. Misses (Operator sign.Close))) (c.args.depth - 1) c.args.depth c.args.sign.left (omega (arith, c.if-depth-eq0.false)) c.args.at c.in_err-cond.field-0.0.left c.in_err-cond.field-0.0.kind (inl (c.in_err-cond.ensures.refused some)))

pub closed-returns-in_err-rest-clause-refused : goal.closed-returns-in_err-rest-clause-refused
closed-returns-in_err-rest-clause-refused t c =
    tells (Tells (ClosedFails c.args.depth c.args.sign.left (Within c.args.profile c.args.dictionary.now c.args.depth) (WithinFails c.args.profile c.args.dictionary.now c.args.depth) c.args.at)) _ _ c.from_residual-in_err-rest.ensures.1 (λ some. deep_inside (λ k. ThenFails (Either (Within c.args.profile c.args.dictionary.now k)) (EitherFails (Within c.args.profile c.args.dictionary.now k) (WithinFails c.args.profile c.args.dictionary.now k)) (λ cond. Misses (Operator sign.Close))) (c.args.depth - 1) c.args.depth c.args.sign.left (omega (arith, c.if-depth-eq0.false)) c.args.at c.in_err-rest.field-0.0.left c.in_err-rest.field-0.0.kind (inr (c.in_ok-cond.cond, c.in_ok-cond.end, c.in_ok-cond.ensures.read, c.in_err-rest.ensures.refused some)))

pub either-returns-in_err-first-clause-refused : goal.either-returns-in_err-first-clause-refused
either-returns-in_err-first-clause-refused t c =
    tells (Tells (EitherFails (Within c.args.profile c.args.dictionary.now (suc c.args.depth)) (WithinFails c.args.profile c.args.dictionary.now (suc c.args.depth)) c.args.at)) _ _ c.from_residual.ensures.1 (λ some. inl (c.in_err-first.ensures.refused some))

pub either-returns-in_err-cond-clause-refused : goal.either-returns-in_err-cond-clause-refused
either-returns-in_err-cond-clause-refused t c =
    tells (Tells (EitherFails (Within c.args.profile c.args.dictionary.now (suc c.args.depth)) (WithinFails c.args.profile c.args.dictionary.now (suc c.args.depth)) c.args.at)) _ _ c.from_residual-in_err-cond.ensures.1 (λ some. c.loop-next.invariant.refused c.in_err-cond.field-0.0.left c.in_err-cond.field-0.0.kind (OthersFails.here c.in-Some.next c.in-Some.ensures.found (c.in_err-cond.ensures.refused some)))

pub negated-returns-in_err-cond-clause-refused : goal.negated-returns-in_err-cond-clause-refused
negated-returns-in_err-cond-clause-refused t c =
    tells (Tells (DeepFails c.args.depth c.args.sign.left (WithinFails c.args.profile c.args.dictionary.now c.args.depth) c.args.at)) _ _ c.from_residual.ensures.1 (λ some. deep_inside (WithinFails c.args.profile c.args.dictionary.now) (c.args.depth - 1) c.args.depth c.args.sign.left (omega (arith, c.if-depth-eq0.false)) c.args.at c.in_err-cond.field-0.0.left c.in_err-cond.field-0.0.kind (c.in_err-cond.ensures.refused some))

pub operand-returns-in-Operator-Open-clause-refused : goal.operand-returns-in-Operator-Open-clause-refused
operand-returns-in-Operator-Open-clause-refused t c =
    let first : c.next-token.result.0 ≡ Operator sign.Open = search rules in
    token_tells (OperandFailsFrom c.args.profile c.args.dictionary.now c.args.depth (Within c.args.profile c.args.dictionary.now c.args.depth) (WithinFails c.args.profile c.args.dictionary.now c.args.depth)) c.args.at c.next-token.result
    c.position-begin.result.left (Operator sign.Open) c.closed.result c.next-token.ensures.same first c.position-begin.ensures.place c.closed.ensures.refused
