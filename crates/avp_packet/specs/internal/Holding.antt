-- Which octets an id's attributes can hold.
use Rattle.std.specs.Prelude.{ℕ, ◌+◌, ◌^◌, ◌<◌, ◌≤◌, List, length, IfSome}
use Rattle.avp_lists.specs.declared.pairs.AttrId.{AttrId}
use Rattle.avp_lists.specs.declared.pairs.AttrId.TheVariants.{Plain, Vendor, Extended}
use Rattle.avp_dict.specs.declared.entries.Format.{Format}
use Rattle.avp_dict.specs.Dictionary.{Dictionary}
use Rattle.avp_packet.specs.ExtendedTypes.{extended_type_4}
use Rattle.avp_packet.specs.VendorFormats.{known_format}

abbrev pub FitsFormat : ℕ → List ℕ → Format → Type 0
FitsFormat number os f = (number < 256 ^ f.t) × (6 + f.t + f.l + length os ≤ 255)

abbrev pub CanHold : Dictionary → AttrId → List ℕ → Type 0
CanHold dictionary (Plain number) os = (number ≤ 255) × (length os ≤ 253)
CanHold dictionary (Vendor vendor number) os =
    IfSome (known_format vendor dictionary) (FitsFormat number os)
CanHold dictionary (Extended t number) os = (t ≤ extended_type_4 → length os ≤ 252)
