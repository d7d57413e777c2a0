use Rattle.std.proofs.Common.{◌<◌, arith, ap, length, subst, sym}
use Rattle.avp_lists.specs.History.{state_at}
use Rattle.avp_step.specs.internal.Courses.{Course, IsAtLast}
use Rattle.avp_step.proofs.Courses.{added_is, added_sound, continued_moved}
use Rattle.avp_step.proofs.Fitting.{earlier_fits}
use Rattle.avp_step.proofs.machines.Machine.go_back.Goals as goal

pub invariant_of-self : goal.invariant_of-self
invariant_of-self g c =
    let h = g.S.Store.history c.self.inside.store in
    let at_last = subst IsAtLast (sym c.self.view_is) c.requires.at_last in
    let lt : c.args.to < length h.states = omega (arith, at_last, c.requires.earlier, ap (λ (x : Course). x.history.place) c.self.view_is) in
    added_sound _ c.self.inside.matchers c.self.inside.captured h _ c.self.inside.frames.items _ c.self.invariant (g.S.Store.history c.rollback.new.self) _ at_last (state_at h c.args.to) (rw c.unwrap.ensures at c.rollback.ensures.ok) (earlier_fits _ h c.args.to lt c.self.invariant.states)

pub returns : goal.returns
returns g c =
    let h = g.S.Store.history c.self.inside.store in
    let at_last = subst IsAtLast (sym c.self.view_is) c.requires.at_last in
    continued_moved c.args.to _ _ _ c.self.view_is
    (added_is c.self.inside.dictionary.now c.self.inside.matchers c.self.inside.captured h (g.S.Store.room c.self.inside.store) c.self.inside.frames.items _ c.self.invariant (g.S.Store.history c.rollback.new.self) (g.S.Store.room c.rollback.new.self) at_last (state_at h c.args.to) (rw c.unwrap.ensures at c.rollback.ensures.ok) c.rollback.ensures.kept)
