-- The name and the text that are printed for a pair in a profile.
use Rattle.std.specs.Prelude.{codes, decimal, ℕ, if◌then◌else◌, List, [], ◌++◌, Option, None, Some}
use Rattle.std.specs.Option.{option_and_then, option_map_or}
use Rattle.avp_lists.specs.declared.pairs.AttrId.{AttrId}
use Rattle.avp_lists.specs.declared.pairs.Value.{Value}
use Rattle.avp_dict.specs.Dictionary.{Dictionary}
use Rattle.avp_dict.specs.Printing.{printed_name}
use Rattle.avp_dict.specs.Printing as typed
use Rattle.avp_dict.specs.Quotes.{quoted}
use Rattle.avp_dict.specs.Words.{is_hexadecimal}
use Rattle.avp_forms.specs.Texts.{printed_text, text_of}
use Rattle.avp_forms.specs.Values.{tag_of}
use Rattle.avp_forms.specs.Written.{meant_value}
use Rattle.avp_forms.specs.declared.profiles.Profile.{Profile}
use Rattle.avp_forms.specs.declared.profiles.Profile.TheVariants.{Plain, Wider}
use Rattle.avp_forms.specs.declared.values.FormValue.{FormValue}
use Rattle.avp_forms.specs.declared.values.FormValue.TheVariants.{Date}

-- a value is printed by what it means, unless the text would be read as octets
abbrev pub unless_octets : AttrId → Dictionary → FormValue → Option FormValue
unless_octets id dictionary meant =
    if is_hexadecimal (text_of id meant dictionary) then None else Some meant

-- what a value is printed by in the wider profile
unfoldable pub printed_meaning : AttrId → Value → Dictionary → Option FormValue
printed_meaning id value dictionary =
    option_and_then (unless_octets id dictionary) (meant_value id value dictionary)

-- a colon and the tag, where there is one
abbrev pub tag_text : Option ℕ → List ℕ
tag_text None = []
tag_text (Some tag) = codes ":" ++ decimal tag

abbrev pub tag_of_meant : Option FormValue → Option ℕ
tag_of_meant meant = option_and_then tag_of meant

-- the form's text, a date's in double quotes, since there are blanks in it
abbrev pub meant_text : AttrId → FormValue → Dictionary → List ℕ
meant_text id (Date n) dictionary = quoted (text_of id (Date n) dictionary)
meant_text id meant dictionary = printed_text id meant dictionary

-- the name, and in the wider profile the tag
unfoldable pub printed_pair_name : Profile → AttrId → Value → Dictionary → List ℕ
printed_pair_name Plain id value dictionary = printed_name id value dictionary
printed_pair_name Wider id value dictionary =
    printed_name id value dictionary
    ++ tag_text (tag_of_meant (printed_meaning id value dictionary))

-- the text, and in the wider profile that of what the value means
unfoldable pub printed_pair_text : Profile → AttrId → Value → Dictionary → List ℕ
printed_pair_text Plain id value dictionary = typed.printed_text id value dictionary
printed_pair_text Wider id value dictionary =
    option_map_or (λ meant. meant_text id meant dictionary) (printed_meaning id value dictionary)
    (typed.printed_text id value dictionary)
