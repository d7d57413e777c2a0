use Rattle.std.proofs.Common.{◌≡◌, true, take}
use Rattle.std.specs.List.{flat_map}
use Rattle.radpolicy_page_data.specs.Embedding.{are_embeddable, embedded_octet}
use Rattle.radpolicy_page_data.proofs.json.embedded.Given as goal

abbrev pub invariant-loop-octet : goal.invariant-loop-octet
invariant-loop-octet l = record {
  text : l.text.items ≡ flat_map embedded_octet (take l.octet-index l.octets);
  embeddable : are_embeddable l.text.items ≡ true;
}
