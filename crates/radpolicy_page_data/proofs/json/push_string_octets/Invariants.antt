use Rattle.std.proofs.Common.{◌≡◌, ◌++◌, take}
use Rattle.std.specs.List.{flat_map}
use Rattle.radpolicy_page_data.specs.Embedding.{string_octet}
use Rattle.radpolicy_page_data.proofs.json.push_string_octets.Given as goal

abbrev pub invariant-loop-octet : goal.invariant-loop-octet
invariant-loop-octet l = l.text.items ≡ l.fn.text.items ++ flat_map string_octet (take l.octet-index l.octets)
