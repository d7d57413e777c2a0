use Rattle.std.proofs.Common.{List}
use Rattle.avp_lists.specs.declared.pairs.AttrId.{AttrId}
use Rattle.radpolicy_common.specs.Secrets.{AreAmong, IsClosed}
use Rattle.radpolicy_common.specs.internal.PolicyLines.{count_unknown, lines_behind}
use Rattle.radpolicy_common.proofs.secret_flows.secret_attributes.Given as goal

abbrev pub invariant-found : goal.invariant-found
invariant-found l =
    AreAmong l.attributes l.ids.items l.given
    × ((others : List AttrId) → AreAmong l.attributes others l.given → IsClosed l.attributes l.matched.items (lines_behind l.lines.items) others → AreAmong l.attributes others l.ids.items)

abbrev pub decreases-found : goal.decreases-found
decreases-found l = count_unknown l.attributes l.ids.items (lines_behind l.lines.items)
