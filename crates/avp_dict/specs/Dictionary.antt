-- What dictionary files define: attributes, the names of their values, and vendors, each by a line of its own; and how
-- they are found.
use Rattle.std.specs.Prelude.{ℕ, Bool, false, not, ◌&&◌, ◌==◌, if◌then◌else◌, List, [], ◌∷◌, ◌++◌, map, reverse, Option, Some, None}
use Rattle.std.specs.Option.{option_map}
use Rattle.std.specs.List.{find, fold, list_any}
use Rattle.std.specs.Str.{bytes_eq}
use Rattle.avp_lists.specs.declared.pairs.AttrId.{AttrId}
use Rattle.avp_lists.specs.Pairs.{id_eq}
use Rattle.avp_dict.specs.declared.entries.AttributeLine.{AttributeLine}
use Rattle.avp_dict.specs.declared.entries.ValueLine.{ValueLine}
use Rattle.avp_dict.specs.declared.entries.VendorLine.{VendorLine}
use Rattle.avp_dict.specs.declared.entries.VendorFormat.{VendorFormat}
use Rattle.avp_dict.specs.declared.entries.Typing.{Typing}
use Rattle.avp_dict.specs.declared.entries.Note.{Note}
use Rattle.avp_dict.specs.Words.{lower, same_name}

-- the used ATTRIBUTE lines, the used VALUE lines, those of numbers beside tags, the VENDOR lines outside skipped
-- blocks, and where the skipped lines are, each in the order of the lines
pub record Dictionary : Type 0 where
  pub attributes : List AttributeLine
  pub values : List ValueLine
  pub tagged_values : List ValueLine
  pub vendors : List VendorLine
  pub notes : List Note

-- the last line that passes
abbrev pub last_where : {X : Type 0} → (X → Bool) → List X → Option X
last_where test lines = find test (reverse lines)

-- a key goes last, where it is new
abbrev pub with_key : {K : Type 0} → (K → K → Bool) → List K → K → List K
with_key eq keys key = if list_any (eq key) keys then keys else keys ++ key ∷ []

-- each key once, in the order of the first ones
abbrev pub first_keys : {K : Type 0} → (K → K → Bool) → List K → List K
first_keys eq keys = fold (with_key eq) [] keys

-- ---- attributes

abbrev pub is_attribute_named : List ℕ → AttributeLine → Bool
is_attribute_named name a = same_name a.name name

abbrev pub is_attribute_of : AttrId → AttributeLine → Bool
is_attribute_of id a = id_eq a.id id

abbrev pub id_of_line : AttributeLine → AttrId
id_of_line a = a.id

abbrev pub typing_of_line : AttributeLine → Typing
typing_of_line a = a.typing

-- a line with the id that marks the values as secret
abbrev pub is_secret_line_of : AttrId → AttributeLine → Bool
is_secret_line_of id a = is_attribute_of id a && a.typing.secret

-- the id that a name stands for: that of the last line with the name
unfoldable pub id_named : List ℕ → List AttributeLine → Option AttrId
id_named name attributes = option_map id_of_line (last_where (is_attribute_named name) attributes)

-- a line that gives the name another id
abbrev pub names_other_id : List ℕ → AttrId → AttributeLine → Bool
names_other_id name id a = is_attribute_named name a && not (id_eq a.id id)

-- how the values of an id are read: as its last line says
unfoldable pub typing_of_id : AttrId → List AttributeLine → Option Typing
typing_of_id id attributes = option_map typing_of_line (last_where (is_attribute_of id) attributes)

-- an attribute's name, in lower case
abbrev pub attribute_key : AttributeLine → List ℕ
attribute_key a = map lower a.name

-- the attributes' names in lower case, each once, in the order of their first lines
unfoldable pub first_names : List AttributeLine → List (List ℕ)
first_names attributes = first_keys bytes_eq (map attribute_key attributes)

-- ---- the names of values

abbrev pub is_value_named : AttrId → List ℕ → ValueLine → Bool
is_value_named id name v = id_eq v.id id && same_name v.name name

abbrev pub is_value_numbered : AttrId → ℕ → ValueLine → Bool
is_value_numbered id number v = id_eq v.id id && (v.number == number)

abbrev pub number_of_line : ValueLine → ℕ
number_of_line v = v.number

abbrev pub name_of_line : ValueLine → List ℕ
name_of_line v = v.name

-- the number that a name of an attribute's values stands for
unfoldable pub number_named : AttrId → List ℕ → List ValueLine → Option ℕ
number_named id name values = option_map number_of_line (last_where (is_value_named id name) values)

-- a line that gives the name of an attribute's value another number
abbrev pub names_other_value : AttrId → List ℕ → ℕ → ValueLine → Bool
names_other_value id name number v = is_value_named id name v && not (v.number == number)

-- the printed name of a number: the last one
unfoldable pub name_numbered : AttrId → ℕ → List ValueLine → Option (List ℕ)
name_numbered id number values =
    option_map name_of_line (last_where (is_value_numbered id number) values)

-- some number, and this one
abbrev pub is_number_found : ℕ → Option ℕ → Bool
is_number_found number None = false
is_number_found number (Some other) = other == number

abbrev pub name_standing : AttrId → ℕ → List ValueLine → Option (List ℕ) → Option (List ℕ)
name_standing id number values None = None
name_standing id number values (Some name) =
    if is_number_found number (number_named id name values) then Some name else None

-- the printed name of a number beside a tag: the last one, unless a later line gives that name another number
unfoldable pub tagged_name_numbered : AttrId → ℕ → List ValueLine → Option (List ℕ)
tagged_name_numbered id number values =
    name_standing id number values (name_numbered id number values)

-- ---- vendors

abbrev pub is_vendor_named : List ℕ → VendorLine → Bool
is_vendor_named name v = same_name v.name name

abbrev pub is_vendor_numbered : ℕ → VendorLine → Bool
is_vendor_numbered number v = v.number == number

abbrev pub vendor_of_line : VendorLine → ℕ
vendor_of_line v = v.number

abbrev pub format_of_line : VendorLine → VendorFormat
format_of_line v = v.format

-- the number of the vendor with this name
unfoldable pub vendor_named : List ℕ → List VendorLine → Option ℕ
vendor_named name vendors = option_map vendor_of_line (last_where (is_vendor_named name) vendors)

-- a line that gives the name another number
abbrev pub names_other_vendor : List ℕ → ℕ → VendorLine → Bool
names_other_vendor name number v = is_vendor_named name v && not (v.number == number)

-- the format of a vendor: that of its last line
unfoldable pub format_of : ℕ → List VendorLine → Option VendorFormat
format_of number vendors =
    option_map format_of_line (last_where (is_vendor_numbered number) vendors)
