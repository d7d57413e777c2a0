use Rattle.std.proofs.Common.{◌≡◌, take}
use Rattle.std.specs.List.{filter}
use Rattle.radpolicy.specs.Received.{is_no_white_space}
use Rattle.radpolicy.proofs.requests.without_white_space.Given as goal

abbrev pub invariant-loop-octet : goal.invariant-loop-octet
invariant-loop-octet l = l.digits.items ≡ filter is_no_white_space (take l.octet-index l.text)
