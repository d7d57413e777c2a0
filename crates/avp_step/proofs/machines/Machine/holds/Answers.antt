use Rattle.std.proofs.Common.{◌≡◌, ◌<◌, ◌∙◌, ap, arith, length, subst, sym}
use Rattle.avp_lists.specs.History.{present}
use Rattle.avp_unlang.specs.Suiting.{cond_suits}
use Rattle.avp_unlang.proofs.Comparing.{testable}
use Rattle.avp_step.specs.internal.Courses.{Course, IsAtLast}
use Rattle.avp_step.proofs.Fitting.{earlier_fits}
use Rattle.avp_step.proofs.machines.Machine.holds.Goals as goal

pub holds_by-requires-clause-comparable : goal.holds_by-requires-clause-comparable
holds_by-requires-clause-comparable g c =
    let h = g.S.Store.history c.self.inside.store in
    let at_last = subst IsAtLast (sym c.self.view_is) c.requires.at_last in
    let lt : h.place < length h.states = omega (arith, at_last) in
    let suits = ap (λ (m : Course). cond_suits m.dictionary c.args.cond.now) c.self.view_is ∙ c.requires.suits in
    testable c.self.inside.dictionary.now (present h) (earlier_fits _ h h.place lt c.self.invariant.states) c.args.cond.now suits

pub evaluate-requires-clause-comparable : goal.evaluate-requires-clause-comparable
evaluate-requires-clause-comparable g c =
    let h = g.S.Store.history c.self.inside.store in
    let at_last = subst IsAtLast (sym c.self.view_is) c.requires.at_last in
    let lt : h.place < length h.states = omega (arith, at_last) in
    let suits = ap (λ (m : Course). cond_suits m.dictionary c.args.cond.now) c.self.view_is ∙ c.requires.suits in
    testable c.self.inside.dictionary.now (present h) (earlier_fits _ h h.place lt c.self.invariant.states) c.args.cond.now suits

pub evaluate-requires-clause-store : goal.evaluate-requires-clause-store
evaluate-requires-clause-store g c =
    let h = g.S.Store.history c.self.inside.store in
    let at_last = subst IsAtLast (sym c.self.view_is) c.requires.at_last in
    let lt : h.place < length h.states = omega (arith, at_last) in
    earlier_fits _ h h.place lt c.self.invariant.states
