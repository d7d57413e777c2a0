use Rattle.std.proofs.Common.{◌≡◌, length}
use Rattle.radpolicy_walk_commands.specs.Sessions.{after_all}
use Rattle.radpolicy_walk_commands.proofs.sessions.Session.follow.Given as goal

abbrev pub invariant-loop-command : goal.invariant-loop-command
invariant-loop-command l = after_all l.rest l.self ≡ after_all l.commands l.initial.self

abbrev pub decreases-loop-command : goal.decreases-loop-command
decreases-loop-command l = length l.rest
