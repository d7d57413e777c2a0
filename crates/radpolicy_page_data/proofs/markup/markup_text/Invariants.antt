use Rattle.std.proofs.Common.{◌≡◌, true, take}
use Rattle.std.specs.List.{flat_map, list_all}
use Rattle.radpolicy_page_data.specs.Embedding.{is_no_tag, markup_octet}
use Rattle.radpolicy_page_data.proofs.markup.markup_text.Given as goal

abbrev pub invariant-loop-octet : goal.invariant-loop-octet
invariant-loop-octet l = record {
  text : l.text.items ≡ flat_map markup_octet (take l.octet-index l.octets);
  no_tag : list_all is_no_tag l.text.items ≡ true;
}
