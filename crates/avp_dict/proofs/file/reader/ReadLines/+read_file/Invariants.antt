use Rattle.std.proofs.Common.{◌≡◌, ◌+◌, ◌-◌, ◌≤◌, ◌++◌, List, length}
use Rattle.avp_dict.specs.declared.file.lines.TheConstants.{MAX_LEVELS}
use Rattle.avp_dict.specs.Lines.{Line, expanded, lines_below, lines_in, texts_of}
use Rattle.avp_dict.specs.Meanings.{context_of}
use Rattle.avp_dict.specs.Readings.{read_lines}
use Rattle.avp_dict.specs.internal.Agreeing.{IsAgreeing}
use Rattle.avp_dict.specs.internal.Meanings.{context_view, reading_views}
use Rattle.avp_dict.proofs.file.reader.ReadLines.+read_file.Given as goal

abbrev pub decreases-read_file : goal.decreases-read_file
decreases-read_file l = l.levels

abbrev pub invariant-loop-rest : goal.invariant-loop-rest
invariant-loop-rest l = record {
  tracked : context_view l.self.context ≡ context_of (reading_views l.self.readings.items);
  agreeing : IsAgreeing (context_view l.self.context);
  room : length l.self.readings.items ≤ l.limit;
  longer : length l.fn.self.readings.items ≤ length l.self.readings.items;
  few : l.number ≤ length l.self.readings.items + 1;
  deep : l.depth ≡ MAX_LEVELS - l.levels;
  so_far : (ls : List Line) → read_lines l.limit l.files (reading_views l.self.readings.items) (expanded (lines_below l.files (lines_in l.files (l.levels - 1))) l.place l.depth l.number (texts_of l.rest) ++ ls)
      ≡ read_lines l.limit l.files (reading_views l.fn.self.readings.items) (lines_in l.files l.levels l.place ++ ls);
}

abbrev pub decreases-loop-rest : goal.decreases-loop-rest
decreases-loop-rest l = length l.rest
