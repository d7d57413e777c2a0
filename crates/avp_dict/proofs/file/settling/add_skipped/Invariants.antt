use Rattle.std.proofs.Common.{◌≡◌, take, flat_map}
use Rattle.avp_dict.specs.Settled.{skipped_name}
use Rattle.avp_dict.specs.internal.LastFormats.{IsLastFormat}
use Rattle.avp_dict.specs.internal.Meanings.{reading_views}
use Rattle.avp_dict.proofs.file.settling.add_skipped.Given as goal

abbrev pub invariant-loop-reading : goal.invariant-loop-reading
invariant-loop-reading l = record {
  names : l.skipped ≡ flat_map (skipped_name l.vendors) (reading_views (take l.reading-index l.readings));
  format : IsLastFormat l.vendors l.last;
}
