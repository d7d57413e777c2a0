-- What the types of ids and values keep their numbers within.
use Rattle.std.specs.Prelude.{ℕ, ◌<◌, ◌^◌, List, slice_index, FitsSigned}
use Rattle.std.specs.Int.{w32}
use Rattle.avp_lists.specs.declared.pairs.AttrId.{AttrId}
use Rattle.avp_lists.specs.declared.pairs.AttrId.TheVariants.{Plain, Vendor, Extended}
use Rattle.avp_lists.specs.declared.pairs.Value.{Value}
use Rattle.avp_lists.specs.declared.pairs.Value.TheVariants.{Text, Bytes, Int, Signed, Addr, Ether, Raw}

abbrev pub AreOctets : List ℕ → Type 0
AreOctets os = (i : ℕ) → slice_index os i < 256

abbrev pub IsValueInRange : Value → Type 0
IsValueInRange (Text os) = AreOctets os
IsValueInRange (Bytes os) = AreOctets os
IsValueInRange (Int n) = n < 2 ^ 64
IsValueInRange (Signed z) = FitsSigned w32 z
IsValueInRange (Addr os) = AreOctets os
IsValueInRange (Ether os) = AreOctets os
IsValueInRange (Raw os) = AreOctets os

abbrev pub IsIdInRange : AttrId → Type 0
IsIdInRange (Plain n) = n < 2 ^ 32
IsIdInRange (Vendor v n) = (v < 2 ^ 32) × (n < 2 ^ 32)
IsIdInRange (Extended t n) = (t < 256) × (n < 256)
