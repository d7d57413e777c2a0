use Rattle.std.proofs.Common.{◌≡◌, length}
use Rattle.std.specs.List.{list_all}
use Rattle.avp_dict.specs.Settled.{is_kept_line}
use Rattle.avp_dict.specs.internal.LastFormats.{IsLastFormat}
use Rattle.avp_dict.proofs.file.settling.are_kept.Given as goal

abbrev pub invariant-loop-rest : goal.invariant-loop-rest
invariant-loop-rest l = record {
  all : list_all (is_kept_line l.vendors) l.rest ≡ list_all (is_kept_line l.vendors) l.lines;
  format : IsLastFormat l.vendors l.last;
}

abbrev pub decreases-loop-rest : goal.decreases-loop-rest
decreases-loop-rest l = length l.rest
