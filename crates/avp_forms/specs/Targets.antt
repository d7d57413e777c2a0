-- What names stand for in a profile: an attribute, and in the wider one a tag beside it too, as in `Tunnel-Type:1`.
use Rattle.std.specs.Prelude.{ℕ, Bool, true, false, not, ◌&&◌, if◌then◌else◌, List, [], ◌∷◌, Option, None, Some}
use Rattle.std.specs.List.{slice_split}
use Rattle.std.specs.Option.{option_and_then, option_map, option_map_or, option_or}
use Rattle.avp_dict.specs.Dictionary.{Dictionary}
use Rattle.avp_dict.specs.Names.{form_of, named}
use Rattle.avp_dict.specs.Spellings.{is_colon}
use Rattle.avp_dict.specs.declared.entries.Named.{Named}
use Rattle.avp_dict.specs.declared.forms.Form.{Form}
use Rattle.avp_dict.specs.declared.forms.Form.TheVariants.{TaggedInteger, TaggedString}
use Rattle.avp_forms.specs.Numerals.{number_within}
use Rattle.avp_forms.specs.Values.{max_tag}
use Rattle.avp_forms.specs.declared.profiles.Profile.{Profile}
use Rattle.avp_forms.specs.declared.profiles.Profile.TheVariants.{Plain, Wider}
use Rattle.avp_forms.specs.declared.targets.Target.{Target}

-- values of the form have a tag (RFC 2868, section 3)
abbrev pub has_tag : Form → Bool
has_tag TaggedInteger = true
has_tag TaggedString = true
has_tag _ = false

abbrev pub untagged : Named → Target
untagged name = record { named = name; tag = None }

abbrev pub tagged : Named → ℕ → Target
tagged name tag = record { named = name; tag = Some tag }

-- a name of an ATTRIBUTE line whose values have tags, and decimal digits of a tag
abbrev pub tagged_by : Dictionary → List ℕ → Named → Option Target
tagged_by dictionary digits name =
    if not name.raw && option_map_or has_tag (form_of name.id dictionary) false
    then option_map (tagged name) (number_within 10 max_tag digits) else None

-- a name and a tag, with a colon between
abbrev pub tagged_of : Dictionary → List (List ℕ) → Option Target
tagged_of dictionary (name ∷ digits ∷ []) =
    option_and_then (tagged_by dictionary digits) (named name dictionary)
tagged_of dictionary _ = None

-- the attribute of a name; in the wider profile, where there is none, an attribute and a tag
unfoldable pub target_of : Profile → Dictionary → List ℕ → Option Target
target_of Plain dictionary name = option_map untagged (named name dictionary)
target_of Wider dictionary name =
    option_or (option_map untagged (named name dictionary))
    (tagged_of dictionary (slice_split is_colon name))
