use Rattle.std.proofs.Common.{◌≡◌, ◌++◌, drop}
use Rattle.radpolicy_page_data.specs.Packets.{rows_from}
use Rattle.radpolicy_page_data.specs.declared.packets.Spot.TheVariants as spot
use Rattle.radpolicy_page_data.proofs.packets.push_rows.Given as goal

abbrev pub invariant-loop-octet : goal.invariant-loop-octet
invariant-loop-octet l = l.text.items ++ rows_from l.redaction l.replied l.hides_proxies l.at (drop l.octet-index l.octets)
    ≡ l.fn.text.items ++ rows_from l.redaction l.replied l.hides_proxies (spot.Head 0) l.octets
