-- Attributes by their numbers, and by the names that a dictionary has for them.
use Rattle.std.specs.Prelude.{◌≡◌, ℕ, ◌==◌, ◌&&◌, if◌then◌else◌, List, Option, None, Some, length, nat_le}
use Rattle.avp_dict.specs.Dictionary.{Dictionary}
use Rattle.avp_dict.specs.Names.{Described, described, named}
use Rattle.avp_dict.specs.declared.entries.Named.{Named}
use Rattle.avp_lists.specs.declared.pairs.AttrId.{AttrId}
use Rattle.avp_lists.specs.declared.pairs.AttrId.TheVariants.{Extended, Plain, Vendor}
use Rattle.radpolicy_c.specs.Rooms.{room_told, status_told}
use Rattle.radpolicy_c.specs.declared.attributes.RadpolicyAttribute.{RadpolicyAttribute}
use Rattle.radpolicy_c.specs.declared.statuses.Status.{Status}
use Rattle.radpolicy_c.specs.declared.statuses.Status.TheVariants.{Closed, Done, NotThere}

-- ---- numbers

-- the kind of an attribute: a plain one, a vendor's (RFC 2865, section 5.26), or an extended one (RFC 6929, section 2)
abbrev pub kind_number : AttrId → ℕ
kind_number (Plain number) = 0
kind_number (Vendor vendor number) = 1
kind_number (Extended type number) = 2

-- the vendor, or the type of an extended attribute, within which the attribute has its number
abbrev pub within_number : AttrId → ℕ
within_number (Plain number) = 0
within_number (Vendor vendor number) = vendor
within_number (Extended type number) = type

abbrev pub own_number : AttrId → ℕ
own_number (Plain number) = number
own_number (Vendor vendor number) = number
own_number (Extended type number) = number

-- an extended attribute, whose type and number are octets (RFC 6929, section 2)
abbrev pub extended_given : ℕ → ℕ → Option AttrId
extended_given type number =
    if nat_le type 255 && nat_le number 255 then Some (Extended type number) else None

-- the attribute of a kind, within a vendor or a type, and with a number
abbrev pub id_given : ℕ → ℕ → ℕ → Option AttrId
id_given kind within number =
    if kind == 0 then Some (Plain number)
    else if kind == 1 then Some (Vendor within number)
    else if kind == 2 then extended_given within number
    else None

-- an attribute, as C sees it
abbrev pub attribute_shown : AttrId → RadpolicyAttribute
attribute_shown id = record {
  within = within_number id;
  number = own_number id;
  kind = kind_number id;
}

abbrev pub no_attribute : RadpolicyAttribute
no_attribute = record { within = 0; number = 0; kind = 0 }

-- the attribute, where its numbers name one
abbrev pub attribute_given : RadpolicyAttribute → Option AttrId
attribute_given asked = id_given asked.kind asked.within asked.number

-- ---- what is told

-- the attribute for which a name stands, or that it stands for none
abbrev pub TellsNamed : Status → Option Named → RadpolicyAttribute → Type 0
TellsNamed Done (Some found) told = told ≡ attribute_shown found.id
TellsNamed NotThere None told = told ≡ no_attribute
TellsNamed _ found told = ⊥

-- the same in the dictionary that is held
abbrev pub TellsAttribute
    : Status → List ℕ → Option Dictionary → RadpolicyAttribute → Type 0
TellsAttribute status name None told = (status ≡ Closed) × (told ≡ no_attribute)
TellsAttribute status name (Some dictionary) told =
    TellsNamed status (named name dictionary) told

-- the name of an attribute and its length, or that it has none; with the room before and after
abbrev pub TellsEntry : Status → Option Described → ℕ → List ℕ → List ℕ → Type 0
TellsEntry status None told before after = (status ≡ NotThere) × (told ≡ 0) × (after ≡ before)
TellsEntry status (Some entry) told before after =
    (status ≡ status_told Done entry.name before) × (told ≡ length entry.name)
    × (after ≡ room_told entry.name before)

-- what an attribute is in a dictionary
abbrev pub entry_there : Option AttrId → Dictionary → Option Described
entry_there None dictionary = None
entry_there (Some id) dictionary = described id dictionary

-- the name of the attribute of these numbers in the dictionary that is held
abbrev pub TellsName
    : Status → RadpolicyAttribute → Option Dictionary → ℕ → List ℕ → List ℕ → Type 0
TellsName status asked None told before after =
    (status ≡ Closed) × (told ≡ 0) × (after ≡ before)
TellsName status asked (Some dictionary) told before after =
    TellsEntry status (entry_there (attribute_given asked) dictionary) told before after
