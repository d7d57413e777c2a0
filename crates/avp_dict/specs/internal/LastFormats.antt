-- What is known of the vendor that was asked for last.
use Rattle.std.specs.Prelude.{◌≡◌, List}
use Rattle.avp_dict.specs.declared.entries.VendorLine.{VendorLine}
use Rattle.avp_dict.specs.declared.file.settling.LastFormat.{LastFormat}
use Rattle.avp_dict.specs.Dictionary.{format_of}

-- its format, by these lines
abbrev pub IsLastFormat : List VendorLine → LastFormat → Type 0
IsLastFormat vendors last = last.format ≡ format_of last.vendor vendors
