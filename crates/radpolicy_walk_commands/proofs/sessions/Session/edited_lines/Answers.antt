use Rattle.std.proofs.Common.{subst}
use Rattle.radpolicy_walk_commands.specs.Sessions.{Session}
use Rattle.radpolicy_walk_commands.specs.internal.EditedLines.{AreMade, LeaveOthers, effect_at}
use Rattle.radpolicy_walk_commands.proofs.KeptEffects.{effects_made, others_leave}
use Rattle.radpolicy_walk_commands.proofs.sessions.Session.edited_lines.Goals as goal

pub returns-clause-others : goal.returns-clause-others
returns-clause-others c =
    let inside = c.self.inside in
    let run = c.self.invariant.2 in
    subst (λ (s : Session). LeaveOthers c.args.list c.args.id c.in_ok-lines.lines s.trace) c.self.view_is
    (others_leave inside.redaction.dictionary c.args.list c.args.id inside.policy.now run.0 inside.stepper.trace c.in_ok-lines.lines run.1 c.in_ok-lines.ensures.numbers)

pub returns-clause-made : goal.returns-clause-made
returns-clause-made c =
    let inside = c.self.inside in
    let run = c.self.invariant.2 in
    subst (λ (s : Session). AreMade c.args.list c.args.id (effect_at c.in_ok-lines.lines) s.trace) c.self.view_is
    (effects_made inside.redaction.dictionary c.args.list c.args.id inside.policy.now run.0 inside.stepper.trace (effect_at c.in_ok-lines.lines) run.1 c.in_ok-lines.ensures.effects)
