-- What the type of an id keeps a vendor's number within.
use Rattle.std.specs.Prelude.{◌^◌, ◌<◌}
use Rattle.avp_lists.specs.declared.pairs.AttrId.{AttrId}
use Rattle.avp_lists.specs.declared.pairs.AttrId.TheVariants.{Vendor}

abbrev pub IsVendorInRange : AttrId → Type 0
IsVendorInRange (Vendor vendor number) = vendor < 2 ^ 32
IsVendorInRange _ = Unit {0}
