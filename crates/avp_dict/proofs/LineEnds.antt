-- What is left of a list is its end.
use Rattle.std.proofs.Common.{ℕ, List, take, drop, sym}
use Rattle.std.proofs.lemmas.List.{take-append-drop}
use Rattle.avp_dict.specs.Lines.{IsEnd}

pub end_dropped : (n : ℕ) (octets : List ℕ) → IsEnd (drop n octets) octets
end_dropped n octets = (take n octets, sym (take-append-drop n octets))
