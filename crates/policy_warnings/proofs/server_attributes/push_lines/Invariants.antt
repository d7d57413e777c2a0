use Rattle.std.proofs.Common.{◌≡◌, ◌++◌, drop}
use Rattle.std.specs.List.{flat_map}
use Rattle.policy_warnings.specs.ServerAttributes.{line_warned}
use Rattle.policy_warnings.proofs.server_attributes.push_lines.Given as goal

abbrev pub invariant-loop-line : goal.invariant-loop-line
invariant-loop-line l =
    l.warnings.items ++ flat_map (line_warned l.dictionary) (drop l.line-index l.lines) ≡ l.fn.warnings.items ++ flat_map (line_warned l.dictionary) l.lines
