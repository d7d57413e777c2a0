use Rattle.std.proofs.Common.{◌≡◌, ◌++◌, codes, take}
use Rattle.std.specs.List.{flat_map}
use Rattle.radpolicy_walk_commands.specs.Showings.{list_line}
use Rattle.radpolicy_walk_commands.proofs.showings.list_text.Given as goal

abbrev pub invariant-loop-pair : goal.invariant-loop-pair
invariant-loop-pair l = l.text.items ≡ l.name ++ codes "\n" ++ flat_map (list_line l.redaction) (take l.pair-index l.pairs)
