-- The text of where a policy's lines come from.
use Rattle.std.specs.Prelude.{ℕ, ◌≡◌, ◌+◌, ◌==◌, ◌++◌, List, [], ◌∷◌, Bool, take, drop, length, slice_get, codes, decimal, if◌then◌else◌}
use Rattle.std.specs.List.{flat_map, list_any}
use Rattle.std.specs.Option.{option_map_or}
use Rattle.std.specs.Str.{bytes_eq}
use Rattle.radpolicy_common.specs.VisibleText.{visible_text}
use Rattle.radpolicy_common.specs.declared.terminals.LineBreaks.TheVariants.{Escaped}
use Rattle.server_configuration.specs.declared.configurations.Configuration.{Configuration}
use Rattle.server_configuration.specs.declared.items.Content.{Content}
use Rattle.server_configuration.specs.declared.items.Content.TheVariants.{Section}
use Rattle.server_configuration.specs.declared.items.Item.{Item}
use Rattle.server_configuration.specs.declared.sources.SourceFile.{SourceFile}
use Rattle.radpolicy_import_policies.specs.declared.origins.LineOrigin.{LineOrigin}
use Rattle.radpolicy_import_policies.specs.declared.origins.Origin.{Origin}
use Rattle.radpolicy_import_policies.specs.declared.settings.LineEnds.{LineEnds}
use Rattle.radpolicy_import_policies.specs.declared.settings.LineEnds.TheVariants.{Nothing, Origins}

-- ---- paths

abbrev pub is_slash : ℕ → Bool
is_slash octet = octet == 47

-- up to the last `/`
abbrev pub folder : List ℕ → List ℕ
folder [] = []
folder (octet ∷ octets) =
    (if list_any is_slash (octet ∷ octets) then octet ∷ folder octets else [])

-- what follows a front; a path that does not begin with it is whole
abbrev pub after_front : List ℕ → List ℕ → List ℕ
after_front front path =
    (if bytes_eq (take (length front) path) front then drop (length front) path else path)

-- a path from the folder of the first file on
abbrev pub path_from : List SourceFile → List ℕ → List ℕ
path_from [] path = path
path_from (first ∷ files) path = after_front (folder first.path.items) path

abbrev pub origin_path : List SourceFile → Origin → List ℕ
origin_path files origin =
    option_map_or (λ file. path_from files file.path.items) (slice_get files origin.file) []

-- `FILE:LINE`, as it may be shown
abbrev pub origin_text : List SourceFile → Origin → List ℕ
origin_text files origin = visible_text Escaped (origin_path files origin) ++ codes ":" ++ decimal origin.line

-- ---- the policies that a line was put in by

abbrev pub content_name : Content → List ℕ
content_name (Section name arguments) = name.octets.items
content_name _ = []

abbrev pub policy_name : List Item → ℕ → List ℕ
policy_name items place =
    visible_text Escaped (option_map_or (λ item. content_name item.content) (slice_get items place) [])

-- one that another policy calls
abbrev pub inner_name : List Item → ℕ → List ℕ
inner_name items place = codes " > " ++ policy_name items place

-- ` (POLICY > POLICY)`, the outermost first
abbrev pub policies_text : List Item → List ℕ → List ℕ
policies_text items [] = []
policies_text items (outermost ∷ others) =
    codes " (" ++ policy_name items outermost ++ flat_map (inner_name items) others ++ codes ")"

-- ---- a policy's lines, each of which ends in its origin

abbrev pub profile_line : List ℕ
profile_line = codes "# profile: wider"

-- what a line that says this ends in; the profile's line in nothing
abbrev pub line_end : LineEnds → Configuration → List ℕ → LineOrigin → List ℕ
line_end Nothing c said line = []
line_end Origins c said line =
    (if bytes_eq said profile_line then [] else codes "  # " ++ origin_text c.files.items line.origin
    ++ policies_text c.items.items line.policies.items)

-- for each line what it says, its end and a line feed
abbrev pub ended_lines : LineEnds → Configuration → List (List ℕ) → List LineOrigin → List ℕ
ended_lines ends c (said ∷ others) (line ∷ lines) =
    said ++ line_end ends c said line ++ codes "\n" ++ ended_lines ends c others lines
ended_lines ends c _ _ = []

-- the text is that of the lines, in order, whatever each of them says
pub record EndAsTold (ends : LineEnds) (c : Configuration) (lines : List LineOrigin) (text : List ℕ) : Type 0 where
  pub said : List (List ℕ)
  pub each : length said ≡ length lines
  pub are : text ≡ ended_lines ends c said lines

-- ---- `LINE FILE:LINE (POLICY > POLICY)` for each line

abbrev pub map_line : Configuration → ℕ → LineOrigin → List ℕ
map_line c number line = decimal number ++ codes " " ++ origin_text c.files.items line.origin
    ++ policies_text c.items.items line.policies.items ++ codes "\n"

-- where the first is the line of this number
abbrev pub map_from : Configuration → ℕ → List LineOrigin → List ℕ
map_from c number [] = []
map_from c number (line ∷ lines) = map_line c number line ++ map_from c (number + 1) lines

abbrev pub origin_map : Configuration → List LineOrigin → List ℕ
origin_map c lines = map_from c 1 lines
