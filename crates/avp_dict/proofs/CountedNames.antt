-- As many keys of lines' names as names.
use Rattle.std.proofs.Common.{◌≡◌, ◌∙◌, ◌&&◌, List, map, bytes_eq}
use Rattle.std.specs.Set.{distinct_count}
use Rattle.avp_dict.specs.declared.entries.AttributeLine.{AttributeLine}
use Rattle.avp_dict.specs.declared.entries.ValueLine.{ValueLine}
use Rattle.avp_dict.specs.declared.entries.VendorLine.{VendorLine}
use Rattle.avp_dict.specs.Counts.{same_attribute, same_value, same_vendor}
use Rattle.avp_dict.specs.Dictionary.{attribute_key}
use Rattle.avp_dict.specs.internal.Tables.{same_value_name, value_name_key, vendor_key}
use Rattle.avp_dict.proofs.Agreement.{id_eq_sym}
use Rattle.avp_dict.proofs.Folding.{folded_same}
use Rattle.avp_dict.proofs.LineTables.{lines_counted, same_key}

pub attributes_counted : (lines : List AttributeLine) → distinct_count bytes_eq (map attribute_key lines) ≡ distinct_count same_attribute lines
attributes_counted lines = lines_counted bytes_eq attribute_key same_attribute (λ a b. folded_same a.name b.name) lines

pub values_counted : (lines : List ValueLine) → distinct_count same_value_name (map value_name_key lines) ≡ distinct_count same_value lines
values_counted lines =
    lines_counted same_value_name value_name_key same_value (λ v w i. (same_key v.id w.id ∙ id_eq_sym v.id w.id) i && folded_same v.name w.name i) lines

pub vendors_counted : (lines : List VendorLine) → distinct_count bytes_eq (map vendor_key lines) ≡ distinct_count same_vendor lines
vendors_counted lines = lines_counted bytes_eq vendor_key same_vendor (λ v w. folded_same v.name w.name) lines
