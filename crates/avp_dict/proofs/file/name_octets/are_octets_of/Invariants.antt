use Rattle.std.proofs.Common.{◌≡◌, ◌-◌, ◌≤◌, drop, length}
use Rattle.std.specs.List.{list_all}
use Rattle.avp_dict.proofs.file.name_octets.are_octets_of.Given as goal

abbrev pub invariant-loop-rest : goal.invariant-loop-rest
invariant-loop-rest g l = record {
  same : list_all g.K.NameOctets.test l.name ≡ list_all g.K.NameOctets.test l.rest;
  end : l.rest ≡ drop (length l.name - length l.rest) l.name;
  within : length l.rest ≤ length l.name;
}

abbrev pub decreases-loop-rest : goal.decreases-loop-rest
decreases-loop-rest g l = length l.rest
