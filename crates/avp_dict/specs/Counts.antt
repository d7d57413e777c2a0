-- How many names a dictionary has.
use Rattle.std.specs.Prelude.{Bool}
use Rattle.std.specs.Set.{distinct_count}
use Rattle.avp_dict.specs.declared.entries.AttributeLine.{AttributeLine}
use Rattle.avp_dict.specs.declared.entries.ValueLine.{ValueLine}
use Rattle.avp_dict.specs.declared.entries.VendorLine.{VendorLine}
use Rattle.avp_dict.specs.declared.entries.Counts.{Counts}
use Rattle.avp_dict.specs.Dictionary.{Dictionary, is_attribute_named, is_value_named, is_vendor_named}

abbrev pub same_attribute : AttributeLine → AttributeLine → Bool
same_attribute a b = is_attribute_named a.name b

abbrev pub same_value : ValueLine → ValueLine → Bool
same_value v w = is_value_named v.id v.name w

abbrev pub same_vendor : VendorLine → VendorLine → Bool
same_vendor v w = is_vendor_named v.name w

-- the attributes' names, the values' names for each attribute, and the vendors' names
unfoldable pub counts_of : Dictionary → Counts
counts_of dictionary = record {
  attributes = distinct_count same_attribute dictionary.attributes;
  values = distinct_count same_value dictionary.values;
  vendors = distinct_count same_vendor dictionary.vendors;
}
