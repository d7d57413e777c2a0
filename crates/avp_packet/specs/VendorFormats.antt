-- The formats of vendors that attributes are read and written by (RFC 2865, section 5.26).
use Rattle.std.specs.Prelude.{ℕ, if◌then◌else◌, Option, Some, None}
use Rattle.std.specs.Option.{option_and_then}
use Rattle.avp_dict.specs.declared.entries.Format.{Format}
use Rattle.avp_dict.specs.Dictionary.{Dictionary}
use Rattle.avp_dict.specs.Names.{vendor_format}
use Rattle.avp_dict.specs.Vendors.{is_format}

abbrev pub usable_format : Format → Option Format
usable_format f = if is_format f.t f.l then Some f else None

-- a vendor's format of two parts: 1, 2 or 4 octets of type, and at most 2 of length
unfoldable pub known_format : ℕ → Dictionary → Option Format
known_format vendor dictionary = option_and_then usable_format (vendor_format vendor dictionary)
