use Rattle.std.proofs.Common.{◌∙◌, ◌-◌, ap, sym}
use Rattle.avp_lists.specs.Instances.{instances}
use Rattle.avp_lists.specs.States.{list_of}
use Rattle.radpolicy_walk_commands.specs.Histories.{entry_at}
use Rattle.radpolicy_walk_commands.specs.Sessions.{entry_of}
use Rattle.radpolicy_walk_commands.specs.Showings.{list_name}
use Rattle.radpolicy_walk_commands.specs.internal.EditedLines.{may_change_by}
use Rattle.radpolicy_walk_commands.proofs.Followings.{left_there, nothing_told, still_following}
use Rattle.radpolicy_walk_commands.proofs.histories.Follower.follow.Goals as goal

pub returns-then-not-may_change-clause-lines : goal.returns-then-not-may_change-clause-lines
returns-then-not-may_change-clause-lines c =
    let s = c.args.session.now in
    let none = ap (λ step. may_change_by c.args.self.now.edited step.label) (sym c.step.ensures) ∙ sym c.may_change.ensures ∙ c.if-not-may_change.true in
    nothing_told s.redaction (list_name c.args.list) (instances c.args.id (list_of c.args.list (entry_at s.trace (s.position - 1)).outcome.state))
    (instances c.args.id (list_of c.args.list (entry_of s).outcome.state)) c.new.result.items
    (left_there s.redaction.dictionary c.args.list c.args.id s.trace s.position c.args.self.now c.requires.before c.requires.moved c.position-within.ensures.within none) c.new.ensures.items

pub returns-then-not-may_change-clause-after : goal.returns-then-not-may_change-clause-after
returns-then-not-may_change-clause-after c =
    let s = c.args.session.now in
    let none = ap (λ step. may_change_by c.args.self.now.edited step.label) (sym c.step.ensures) ∙ sym c.may_change.ensures ∙ c.if-not-may_change.true in
    still_following s.redaction.dictionary c.args.list c.args.id s.trace s.position c.args.self.now c.requires.before c.requires.moved c.position-within.ensures.within none
