use Rattle.std.proofs.Common.{◌≡◌, ◌++◌, take}
use Rattle.std.specs.List.{flat_map}
use Rattle.radpolicy_record_answers.specs.ShownRequests.{octet_in_row}
use Rattle.radpolicy_record_answers.proofs.shown_requests.push_in_row.Given as goal

abbrev pub invariant-loop-octet : goal.invariant-loop-octet
invariant-loop-octet l = l.text.items ≡ l.fn.text.items ++ flat_map octet_in_row (take l.octet-index l.lines)
