-- The numbers of a text's lines.
use Rattle.std.specs.Prelude.{ℕ, ◌+◌, List, count_by}
use Rattle.avp_dict.specs.Lines.{is_line_end}

-- the number, from 1 on, of the line on which a text goes on after these octets: one more than the line ends in them
abbrev pub line_after : List ℕ → ℕ
line_after front = 1 + count_by is_line_end front
