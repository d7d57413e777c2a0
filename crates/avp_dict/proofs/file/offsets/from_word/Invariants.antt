use Rattle.std.proofs.Common.{◌≡◌, ◌≤◌, ◌-◌, length}
use Rattle.avp_dict.specs.WordPlaces.{from_word}
use Rattle.avp_dict.proofs.file.offsets.from_word.Given as goal

abbrev pub invariant-loop : goal.invariant-loop
invariant-loop l = record {
  same : from_word (l.word - l.counter) l.rest ≡ from_word l.word l.octets;
  shorter : length l.rest ≤ length l.octets;
}
