-- Names of lists and attributes in a policy text: what a word refers to, by a dictionary.
use Rattle.std.specs.Prelude.{◌≡◌, ℕ, List, length, drop, take, bytes_eq, codes, Option, Some, None, unwrap_or, if◌then◌else◌}
use Rattle.std.specs.Option.{option_and_then, option_map}
use Rattle.avp_lists.specs.declared.pairs.AttrId.{AttrId}
use Rattle.avp_lists.specs.declared.lists.List.{List as Name}
use Rattle.avp_lists.specs.declared.lists.List.TheVariants as lists
use Rattle.avp_dict.specs.declared.entries.Kind.{Kind}
use Rattle.avp_dict.specs.declared.entries.Kind.TheVariants.{Bytes}
use Rattle.avp_dict.specs.Dictionary.{Dictionary}
use Rattle.avp_forms.specs.declared.profiles.Profile.{Profile}
use Rattle.avp_forms.specs.Targets.{target_of}
use Rattle.avp_forms.specs.declared.targets.Target.{Target}
use Rattle.avp_dict.specs.Octets.{kind_of}
use Rattle.avp_dict.specs.Sent.{is_container}
use Rattle.avp_unlang.specs.declared.text.references.Reference.{Reference}
use Rattle.avp_unlang.specs.declared.text.tokens.Token.TheVariants.{Word}
use Rattle.avp_unlang.specs.Forms.{Form}
use Rattle.avp_unlang.specs.Places.{Place}
use Rattle.avp_unlang.specs.Between.{Follows}

-- the list that a word names
unfoldable pub list_named : List ℕ → Option Name
list_named word =
    if bytes_eq word (codes "request") then Some lists.Request
    else if bytes_eq word (codes "reply") then Some lists.Reply
    else if bytes_eq word (codes "control") then Some lists.Control
    else None

-- what a word has after these first octets
abbrev pub after_front : List ℕ → List ℕ → Option (List ℕ)
after_front front word =
    if bytes_eq (take (length front) word) front then Some (drop (length front) word) else None

-- The list and the name of a word: `list:name`, or a name alone, which is of the list at hand. A `:` that does not
-- follow a list stays in the name: in a wider policy a tag may follow it.
unfoldable pub target_in : Name → List ℕ → Name × List ℕ
target_in own word =
    elim (after_front (codes "request:") word) [
      | Some name ↦ (lists.Request, name)
      | None ↦ elim (after_front (codes "reply:") word) [
        | Some name ↦ (lists.Reply, name)
        | None ↦ elim (after_front (codes "control:") word) [
          | Some name ↦ (lists.Control, name)
          | None ↦ (own, word)
        ]
      ]
    ]

abbrev pub reference_to : Name → Target → Reference
reference_to list target = record { list = list; target = target }

-- the list, and what the name stands for
unfoldable pub reference_in : Profile → Dictionary → Name → List ℕ → Option Reference
reference_in profile dictionary own word =
    option_map (reference_to (target_in own word).0)
    (target_of profile dictionary (target_in own word).1)

-- attributes that only hold others have no values to look at (RFC 2865, section 5.26; RFC 6929, section 2)
abbrev pub unless_container : Reference → Option Reference
unless_container r = if is_container r.target.named.id then None else Some r

-- a reference to values; without a list it is of the request
unfoldable pub readable : Profile → Dictionary → List ℕ → Option Reference
readable profile dictionary word =
    option_and_then unless_container (reference_in profile dictionary lists.Request word)

-- a word that refers to values
abbrev pub ReadableIs : Profile → Dictionary → Form Place Reference
ReadableIs profile dictionary p found rest =
    (word : List ℕ) × Follows (Word word) p rest × (readable profile dictionary word ≡ Some found)

-- the type of an id's values: octets where no line gives one
abbrev pub type_of : Dictionary → AttrId → Kind
type_of dictionary id = unwrap_or (kind_of id dictionary) Bytes

-- a reference to values of the same type as this attribute's
abbrev pub AlikeIs : Profile → Dictionary → AttrId → Form Place Reference
AlikeIs profile dictionary id p found rest =
    ReadableIs profile dictionary p found rest
    × (type_of dictionary id ≡ type_of dictionary found.target.named.id)
