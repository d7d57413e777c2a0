use Rattle.std.proofs.Common.{◌≡◌, ◌+◌, ◌*◌, ◌≤◌, ◌∷◌, ◌++◌, get_or, length, take}
use Rattle.std.specs.Net.Text.{groups_text}
use Rattle.avp_forms.proofs.ipv6_addresses.push_groups.Given as goal

abbrev pub invariant-loop-group : goal.invariant-loop-group
invariant-loop-group l = record {
  items : l.text.items ≡ l.fn.text.items ++ groups_text (get_or l.groups 0 0 ∷ take l.group-index l.rest);
  bound : length l.text.items ≤ length l.fn.text.items + 5 * (1 + l.group-index);
  rest : 1 + length l.rest ≡ length l.groups;
}
