use Rattle.std.proofs.Common.{◌≡◌, ◌≤◌, ◌-◌}
use Rattle.radpolicy_walk_commands.specs.Histories.{IsHistory}
use Rattle.radpolicy_walk_commands.specs.internal.Following.{AreFollowing}
use Rattle.radpolicy_walk_commands.proofs.histories.history.Given as goal

abbrev pub invariant-steps : goal.invariant-steps
invariant-steps l = record {
  redaction : l.session.redaction ≡ l.initial.session.redaction;
  trace : l.session.trace ≡ l.initial.session.trace;
  breaks : l.session.breaks ≡ l.initial.session.breaks;
  short : l.session.position ≤ l.place;
  following : AreFollowing l.initial.session.redaction.dictionary l.id l.initial.session.trace l.session.position l.followers;
  told : IsHistory l.initial.session.redaction l.id l.initial.session.trace l.session.position l.text.items;
}

abbrev pub decreases-steps : goal.decreases-steps
decreases-steps l = l.place - l.session.position
