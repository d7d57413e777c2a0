use Rattle.std.proofs.Common.{List, ℕ, ◌++◌}
use Rattle.std.specs.Str.Chunks.{utf8_chunks_rest}
use Rattle.radpolicy_common.specs.VisibleText.{IsVisibleText}
use Rattle.radpolicy_common.proofs.VisibleParts.{Left}
use Rattle.radpolicy_common.proofs.terminals.filtered_text.Given as goal

abbrev pub invariant-loop-chunk : goal.invariant-loop-chunk
invariant-loop-chunk l = record {
  shown : (more : List ℕ) → IsVisibleText l.breaks (utf8_chunks_rest l.chunk-iterator) more → IsVisibleText l.breaks l.octets (l.text.items ++ more);
  parts : Left l.breaks l.octets (utf8_chunks_rest l.chunk-iterator) l.text.items;
}
