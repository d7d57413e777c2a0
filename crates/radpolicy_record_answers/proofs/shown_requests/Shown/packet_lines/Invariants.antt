use Rattle.std.proofs.Common.{◌≡◌, take}
use Rattle.std.specs.List.{flat_map}
use Rattle.radpolicy_record_answers.specs.ShownRequests.{shown_line}
use Rattle.radpolicy_record_answers.proofs.shown_requests.Shown.packet_lines.Given as goal

abbrev pub invariant-loop-pair : goal.invariant-loop-pair
invariant-loop-pair l = l.lines.items ≡ flat_map (shown_line l.self) (take l.pair-index l.packet.list)
