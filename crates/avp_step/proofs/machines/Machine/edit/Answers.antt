use Rattle.std.proofs.Common.{subst, sym}
use Rattle.avp_step.specs.internal.Courses.{IsAtLast, course_of}
use Rattle.avp_step.proofs.Courses.{edited_is, edited_moved, edited_sound}
use Rattle.avp_step.proofs.machines.Machine.edit.Goals as goal

pub invariant_of-self : goal.invariant_of-self
invariant_of-self g c =
    edited_sound c.self.inside.dictionary.now c.self.inside.matchers c.self.inside.captured (g.S.Store.history c.self.inside.store) _ c.self.inside.frames.items _ c.self.invariant (g.S.Store.history c.edit_by.new.store) (g.S.Store.room c.edit_by.new.store) (subst IsAtLast (sym c.self.view_is) c.requires.at_last) c.args.line.now c.edit_by.result c.edit_by.ensures.done c.edit_by.ensures.refused c.edit_by.ensures.fit

pub returns-clause-done : goal.returns-clause-done
returns-clause-done g c =
    edited_moved c.args.line.now _ _ (course_of c.self.inside.dictionary.now c.self.inside.matchers c.self.inside.captured (g.S.Store.history c.edit_by.new.store) (g.S.Store.room c.edit_by.new.store) c.self.inside.frames.items) c.edit_by.result c.self.view_is
    (edited_is c.self.inside.dictionary.now c.self.inside.matchers c.self.inside.captured (g.S.Store.history c.self.inside.store) (g.S.Store.room c.self.inside.store) c.self.inside.frames.items _ c.self.invariant (g.S.Store.history c.edit_by.new.store) (g.S.Store.room c.edit_by.new.store) (subst IsAtLast (sym c.self.view_is) c.requires.at_last) c.args.line.now c.edit_by.result c.edit_by.ensures.done c.edit_by.ensures.kept)
