use Rattle.std.proofs.Common.{◌≡◌, take}
use Rattle.radpolicy_walk_commands.specs.Sessions.{without_break}
use Rattle.radpolicy_walk_commands.proofs.sessions.without_break.Given as goal

abbrev pub invariant-loop-own : goal.invariant-loop-own
invariant-loop-own l = l.kept.items ≡ without_break l.line (take l.own-index l.breaks)
