use Rattle.std.proofs.Common.{◌≡◌, ◌≤◌, ◌-◌, length}
use Rattle.avp_dict.specs.WordPlaces.{after_lines}
use Rattle.avp_dict.proofs.file.offsets.after_lines.Given as goal

abbrev pub invariant-loop : goal.invariant-loop
invariant-loop l = record {
  same : after_lines (l.lines - l.counter) l.rest ≡ after_lines l.lines l.octets;
  shorter : length l.rest ≤ length l.octets;
}
