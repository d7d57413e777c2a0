use Rattle.std.proofs.Common.{◌≡◌, drop}
use Rattle.avp_dict.specs.Values.{resolve}
use Rattle.avp_dict.specs.internal.Agreeing.{AreAloneValues}
use Rattle.avp_dict.specs.internal.Contents.{contents_view}
use Rattle.avp_dict.specs.internal.LastFormats.{IsLastFormat}
use Rattle.avp_dict.specs.internal.Meanings.{reading_views}
use Rattle.avp_dict.specs.internal.Targets.{IsTarget}
use Rattle.avp_dict.proofs.contents.Contents.add_lines.Given as goal

abbrev pub invariant-loop-reading : goal.invariant-loop-reading
invariant-loop-reading l =
    (resolve l.skipped (contents_view l.self) (reading_views (drop l.reading-index l.readings)) ≡ resolve l.skipped (contents_view l.initial.self) (reading_views l.readings))
    × IsTarget l.self.attributes l.target × AreAloneValues l.self.values × IsLastFormat l.self.vendors l.last
