use Rattle.std.proofs.Common.{◌≡◌, take, filter}
use Rattle.avp_dict.specs.Settled.{is_kept_line}
use Rattle.avp_dict.specs.internal.LastFormats.{IsLastFormat}
use Rattle.avp_dict.proofs.file.settling.only_kept.Given as goal

abbrev pub invariant-loop-line : goal.invariant-loop-line
invariant-loop-line l = record {
  lines : l.kept ≡ filter (is_kept_line l.vendors) (take l.line-index l.lines);
  format : IsLastFormat l.vendors l.last;
}
