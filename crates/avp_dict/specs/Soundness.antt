-- What holds of every dictionary that was read: a name stands for one thing and has no form of a name by number, and
-- each vendor has one of the formats that exist; and what follows for the look-ups.
use Rattle.std.specs.Prelude.{◌≡◌, ℕ, true, false, List, Some, IfSome}
use Rattle.std.specs.List.{All, list_all}
use Rattle.avp_dict.specs.declared.entries.AttributeLine.{AttributeLine}
use Rattle.avp_dict.specs.declared.entries.ValueLine.{ValueLine}
use Rattle.avp_dict.specs.declared.entries.VendorLine.{VendorLine}
use Rattle.avp_dict.specs.declared.entries.Named.{Named}
use Rattle.avp_dict.specs.Dictionary.{Dictionary, names_other_id, names_other_value}
use Rattle.avp_dict.specs.Letters.{begins_as_attr, is_name_octet}
use Rattle.avp_dict.specs.Limits.{is_known}
use Rattle.avp_dict.specs.Names.{named, vendor_format}
use Rattle.avp_dict.specs.Types.{is_formed, is_text_kind}
use Rattle.avp_dict.specs.Values.{reads_as_number}
use Rattle.avp_dict.specs.Vendors.{is_format}

-- the name has the octets of names, no form of a name by number, and no other id, the id is known, a hidden value is a
-- string or octets, and the type holds what the values stand for
pub record IsSoundAttribute (dictionary : Dictionary) (a : AttributeLine) : Type 0 where
  pub spelled : list_all is_name_octet a.name ≡ true
  pub named : begins_as_attr a.name ≡ false
  pub alone : All (λ b. names_other_id a.name a.id b ≡ false) dictionary.attributes
  pub known : is_known a.id dictionary ≡ true
  pub hides : a.typing.hidden ≡ true → is_text_kind (Some a.typing.kind) ≡ true
  pub formed : is_formed a.typing ≡ true

-- the name does not read as a number, and no line gives it another number for the attribute
pub record IsSoundValue (values : List ValueLine) (v : ValueLine) : Type 0 where
  pub named : reads_as_number v.name ≡ false
  pub alone : All (λ w. names_other_value v.id v.name v.number w ≡ false) values

-- the name does not read as a number
abbrev pub IsSoundTagged : ValueLine → Type 0
IsSoundTagged v = reads_as_number v.name ≡ false

abbrev pub IsSoundVendor : VendorLine → Type 0
IsSoundVendor v = is_format v.format.t v.format.l ≡ true

pub record IsSound (dictionary : Dictionary) : Type 0 where
  pub attributes : All (IsSoundAttribute dictionary) dictionary.attributes
  pub values : All (IsSoundValue dictionary.values) dictionary.values
  pub tagged_values : All IsSoundTagged dictionary.tagged_values
  pub vendors : All IsSoundVendor dictionary.vendors

-- each name stands for a known id
abbrev pub NamesKnown : Dictionary → Type 0
NamesKnown dictionary =
    (name : List ℕ) (found : Named) → named name dictionary ≡ Some found
    → is_known found.id dictionary ≡ true

-- each vendor's format of two parts is one of those that exist
abbrev pub HasKnownFormats : Dictionary → Type 0
HasKnownFormats dictionary =
    (vendor : ℕ) → IfSome (vendor_format vendor dictionary) (λ f. is_format f.t f.l ≡ true)
