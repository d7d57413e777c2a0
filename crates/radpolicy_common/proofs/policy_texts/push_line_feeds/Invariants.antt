use Rattle.std.proofs.Common.{◌≡◌, ◌++◌, drop}
use Rattle.radpolicy_common.specs.PolicyTexts.{line_feeds}
use Rattle.radpolicy_common.proofs.policy_texts.push_line_feeds.Given as goal

abbrev pub invariant-loop-octet : goal.invariant-loop-octet
invariant-loop-octet l = l.text.items ++ line_feeds (drop l.octet-index l.octets) ≡ l.fn.text.items ++ line_feeds l.octets
