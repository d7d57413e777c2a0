use Rattle.std.proofs.Common.{◌≡◌, ◌++◌, take}
use Rattle.std.specs.List.{flat_map}
use Rattle.radpolicy_replay_layouts.specs.TestLines.{octet_described}
use Rattle.radpolicy_replay_layouts.proofs.test_lines.push_described.Given as goal

abbrev pub invariant-loop-octet : goal.invariant-loop-octet
invariant-loop-octet l = l.text.items ≡ l.fn.text.items ++ flat_map octet_described (take l.octet-index l.name)
