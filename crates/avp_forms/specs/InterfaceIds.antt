-- Interface ids: four groups of 16 bits, as `1:2:3:4`.
use Rattle.std.specs.Prelude.{codes, ℕ, false, List, Option}
use Rattle.std.specs.Option.{option_map}
use Rattle.std.specs.Fmt.{digits}
use Rattle.std.specs.List.{join_by, slice_split}
use Rattle.std.specs.Net.Addr.{octets_of, segments_of}
use Rattle.avp_dict.specs.Spellings.{in_parts, is_colon}
use Rattle.avp_forms.specs.Numerals.{short_number}

-- one to four hexadecimal digits
abbrev pub group : List ℕ → Option ℕ
group part = short_number 4 16 65535 part

-- the 8 octets of four groups with colons between
unfoldable pub interface_id_spelled : List ℕ → Option (List ℕ)
interface_id_spelled text = option_map octets_of (in_parts 4 group (slice_split is_colon text))

-- a group in lower case, without zeros before it
abbrev pub group_text : ℕ → List ℕ
group_text n = digits 16 false n

unfoldable pub interface_id_text : List ℕ → List ℕ
interface_id_text octets = join_by group_text (codes ":") (segments_of octets)
