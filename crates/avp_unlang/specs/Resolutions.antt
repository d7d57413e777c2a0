-- What an update line sets its attribute to in a state: a value that its source gives, or why it gives none.
use Rattle.std.specs.Prelude.{ℕ, IsTrue, Bool, true, false, ◌&&◌, List, [], Option, Some, None, Result, Ok, Err}
use Rattle.std.specs.List.{All, flat_map}
use Rattle.std.specs.Option.{option_map_or}
use Rattle.avp_lists.specs.Instances.{first_instance}
use Rattle.avp_lists.specs.Selections.{first_selected_instance}
use Rattle.avp_lists.specs.States.{list_of}
use Rattle.avp_lists.specs.declared.pairs.AttrId.{AttrId}
use Rattle.avp_lists.specs.declared.pairs.Pair.{Pair}
use Rattle.avp_lists.specs.declared.pairs.Value.{Value}
use Rattle.avp_lists.specs.declared.pairs.Value.TheVariants as values
use Rattle.avp_lists.specs.declared.lists.List.{List as Name}
use Rattle.avp_lists.specs.declared.lists.State.{State}
use Rattle.avp_dict.specs.declared.forms.Form.{Form}
use Rattle.avp_dict.specs.Limits.{fits, is_known}
use Rattle.avp_dict.specs.Octets.{kind_of, octets, read_value}
use Rattle.avp_dict.specs.Printing.{printed_text}
use Rattle.avp_dict.specs.Spellings.{unless_long, value_spelled}
use Rattle.avp_dict.specs.declared.entries.Kind.{Kind}
use Rattle.avp_dict.specs.declared.entries.Kind.TheVariants as kinds
use Rattle.avp_dict.specs.Dictionary.{Dictionary}
use Rattle.avp_forms.specs.Values.{meaning, octets_of, with_tag}
use Rattle.avp_forms.specs.Written.{text_put, value_written}
use Rattle.avp_forms.specs.declared.profiles.Profile.TheVariants.{Wider}
use Rattle.avp_forms.specs.declared.targets.Target.{Target}
use Rattle.avp_dict.specs.declared.value.faults.ValueFault.{ValueFault}
use Rattle.avp_dict.specs.declared.value.faults.ValueFault.TheVariants as faults
use Rattle.avp_unlang.specs.declared.meaning.resolving.Unresolved.{Unresolved}
use Rattle.avp_unlang.specs.declared.meaning.resolving.Unresolved.TheVariants.{Absent, NotValue, TooLong, Memory}
use Rattle.avp_unlang.specs.declared.tree.Line.{Line}
use Rattle.avp_unlang.specs.declared.tree.Part.{Part}
use Rattle.avp_unlang.specs.declared.tree.Part.TheVariants as part
use Rattle.avp_unlang.specs.declared.tree.Source.{Source}
use Rattle.avp_unlang.specs.declared.tree.Source.TheVariants.{Literal, Text, WiderText, Instance, Tagged, Any}

-- ---- texts with values put in

-- a string is put in as its own octets, and another value as it is printed: raw octets as 0x and hexadecimal digits
abbrev pub value_put : Dictionary → AttrId → Value → List ℕ
value_put dictionary id (values.Text os) = os
value_put dictionary id value = printed_text id value dictionary

abbrev pub pair_put : Dictionary → Pair → List ℕ
pair_put dictionary pair = value_put dictionary pair.id pair.value

-- the same in a wider policy, of what the value means
abbrev pub meaning_put : Dictionary → Pair → List ℕ
meaning_put dictionary pair = text_put Wider pair.id pair.value dictionary

-- octets as they are, or the first instance; nothing where there is none, and nothing for what was captured
abbrev pub part_text : Dictionary → State → Part → List ℕ
part_text dictionary s (part.Text os) = os
part_text dictionary s (part.Instance list id) =
    option_map_or (pair_put dictionary) (first_instance id (list_of list s)) []
part_text dictionary s (part.Meant list id selection) =
    option_map_or (meaning_put dictionary)
    (first_selected_instance selection id (list_of list s)) []
part_text dictionary s (part.Capture group) = []

abbrev pub parts_text : Dictionary → State → List Part → List ℕ
parts_text dictionary s parts = flat_map (part_text dictionary s) parts

-- ---- values

-- Octets read by a type: string and octets read all, and an attribute without a type keeps them as they are.
abbrev pub read_by_kind : Option Kind → AttrId → List ℕ → Dictionary → Option Value
read_by_kind None id os dictionary = Some (values.Raw os)
read_by_kind (Some kinds.Text) id os dictionary = Some (values.Text os)
read_by_kind (Some kinds.Bytes) id os dictionary = Some (values.Bytes os)
read_by_kind (Some kind) id os dictionary = read_value id os dictionary

abbrev pub read_by_type : AttrId → List ℕ → Dictionary → Option Value
read_by_type id os dictionary = read_by_kind (kind_of id dictionary) id os dictionary

abbrev pub unresolved : ValueFault → Unresolved
unresolved faults.NotWritable = NotValue
unresolved faults.NotValue = NotValue
unresolved faults.TooLong = TooLong
unresolved faults.Memory = Memory

-- a value that was read, or why there is none
abbrev pub given : Result Value ValueFault → Result Value Unresolved
given (Ok value) = Ok value
given (Err fault) = Err (unresolved fault)

-- the value of an id with the octets of this instance
abbrev pub instance_value : Dictionary → AttrId → Option Pair → Result Value Unresolved
instance_value dictionary id None = Err Absent
instance_value dictionary id (Some pair) =
    given (unless_long id dictionary
    (read_by_type id (octets pair.id pair.value dictionary) dictionary))

-- octets with this tag in place of their own, where they are a value of a form with tags
abbrev pub retagged : Form → ℕ → List ℕ → List ℕ
retagged form tag os = option_map_or (λ value. octets_of (with_tag tag value)) (meaning form os) os

-- the same as `instance_value` of the octets with this tag
abbrev pub tagged_value : Dictionary → AttrId → Form → ℕ → Option Pair → Result Value Unresolved
tagged_value dictionary id form tag None = Err Absent
tagged_value dictionary id form tag (Some pair) =
    given (unless_long id dictionary
    (read_by_type id (retagged form tag (octets pair.id pair.value dictionary)) dictionary))

abbrev pub target_by : AttrId → Bool → Option ℕ → Target
target_by id raw tag = record { named = record { id = id; raw = raw }; tag = tag }

-- the value that a text of a wider policy stands for
abbrev pub wider_value : Dictionary → Target → List ℕ → Result Value Unresolved
wider_value dictionary target text = given (value_written Wider target text None dictionary)

-- A literal is its value, a text with values put in is read as a text, and a reference gives the octets of its first
-- instance. What follows `!*` gives raw octets, none of them.
abbrev pub source_value : Dictionary → State → AttrId → Source → Result Value Unresolved
source_value dictionary s id (Literal value) = Ok value
source_value dictionary s id (Text raw parts) =
    given (value_spelled (record { id = id; raw = raw }) (parts_text dictionary s parts) dictionary)
source_value dictionary s id (WiderText raw tag parts) =
    wider_value dictionary (target_by id raw tag) (parts_text dictionary s parts)
source_value dictionary s id (Instance list other) =
    instance_value dictionary id (first_instance other (list_of list s))
source_value dictionary s id (Tagged list other selection form tag) =
    tagged_value dictionary id form tag (first_selected_instance selection other (list_of list s))
source_value dictionary s id Any = Ok (values.Raw [])

abbrev pub pair_of : AttrId → Value → Pair
pair_of id value = record { id = id; value = value }

abbrev pub paired : AttrId → Result Value Unresolved → Result Pair Unresolved
paired id (Ok value) = Ok (pair_of id value)
paired id (Err fault) = Err fault

-- the pair of an update line
unfoldable pub resolution : Dictionary → Line → State → Result Pair Unresolved
resolution dictionary line s = paired line.id (source_value dictionary s line.id line.source)

abbrev pub is_memory : Unresolved → Bool
is_memory Memory = true
is_memory _ = false

-- ---- what a line is resolved with

-- each pair of each list fits the dictionary
abbrev pub StateFits : Dictionary → State → Type 0
StateFits dictionary s =
    (list : Name) → All (λ pair. IsTrue (fits pair dictionary)) (list_of list s)

abbrev pub literal_fits : Dictionary → AttrId → Source → Bool
literal_fits dictionary id (Literal value) = fits (pair_of id value) dictionary
literal_fits dictionary id _ = true

-- the line's attribute is known, and its literal fits
unfoldable pub line_suits : Dictionary → Line → Bool
line_suits dictionary line =
    is_known line.id dictionary && literal_fits dictionary line.id line.source
