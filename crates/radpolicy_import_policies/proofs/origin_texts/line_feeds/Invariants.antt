use Rattle.std.proofs.Common.{◌≡◌, ◌+◌, ◌≤◌, length}
use Rattle.server_configuration.specs.Places.{line_feeds}
use Rattle.radpolicy_import_policies.proofs.origin_texts.line_feeds.Given as goal

abbrev pub decreases-loop-rest : goal.decreases-loop-rest
decreases-loop-rest l = length l.rest

abbrev pub invariant-loop-rest : goal.invariant-loop-rest
invariant-loop-rest l = record {
  counted : l.count + line_feeds l.rest ≡ line_feeds l.text;
  bound : l.count + length l.rest ≤ length l.text;
}
