use Rattle.std.proofs.Common.{◌≡◌, ◌++◌}
use Rattle.std.specs.List.{flat_map}
use Rattle.radpolicy_common.specs.VisibleText.{char_shown}
use Rattle.radpolicy_common.proofs.terminals.push_text.Given as goal

abbrev pub invariant-loop-character : goal.invariant-loop-character
invariant-loop-character l = l.text.items ≡ l.fn.text.items ++ flat_map (char_shown l.breaks) l.yielded
