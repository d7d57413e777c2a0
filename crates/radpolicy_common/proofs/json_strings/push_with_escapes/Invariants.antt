use Rattle.std.proofs.Common.{◌≡◌, ◌++◌}
use Rattle.std.specs.List.{flat_map}
use Rattle.radpolicy_common.specs.JsonStrings.{char_text}
use Rattle.radpolicy_common.proofs.json_strings.push_with_escapes.Given as goal

abbrev pub invariant-loop-character : goal.invariant-loop-character
invariant-loop-character l = l.text.items ≡ l.fn.text.items ++ flat_map (char_text l.escaping) l.yielded
