-- What comparisons with patterns capture.
use Rattle.std.specs.Prelude.{ℕ, Bool, List, [], map, replicate, slice_index_or, slice_range, Option, None}
use Rattle.std.specs.Option.{option_map, option_map_or, unwrap_or}
use Rattle.avp_lists.specs.declared.lists.State.{State}
use Rattle.avp_dict.specs.Dictionary.{Dictionary}
use Rattle.avp_patterns.specs.Matching.{groups_in}
use Rattle.avp_patterns.specs.Patterns.{Written}
use Rattle.avp_unlang.specs.PatternTruth.{instance_in, pattern_in}
use Rattle.avp_unlang.specs.Resolutions.{meaning_put}
use Rattle.avp_unlang.specs.declared.tree.Line.{Line}
use Rattle.avp_unlang.specs.declared.tree.Matching.{Matching}
use Rattle.avp_unlang.specs.declared.tree.Part.{Part}
use Rattle.avp_unlang.specs.declared.tree.Part.TheVariants.{Capture, Text}
use Rattle.avp_unlang.specs.declared.tree.Source.{Source}
use Rattle.avp_unlang.specs.declared.tree.Source.TheVariants as source

-- the octets of the groups 0 to 9, group 0 being all that was matched; none for a group that took no part
abbrev pub Captures : Type 0
Captures = List (Option (List ℕ))

-- what there is before a comparison has captured anything
abbrev pub no_captures : Captures
no_captures = replicate 10 None

-- the octets of a group; a group that took no part is empty
unfoldable pub captured : ℕ → Captures → List ℕ
captured group captures = unwrap_or (slice_index_or captures group None) []

-- what a run keeps: what was captured last, and whether it keeps what comparisons capture
pub record Kept : Type 0 where
  pub keeps : Bool
  pub captures : Captures

-- ---- comparisons with patterns

abbrev pub octets_at : List ℕ → ℕ × ℕ → List ℕ
octets_at octets span = slice_range octets span.0 span.1

abbrev pub texts_at : List ℕ → List (Option (ℕ × ℕ)) → Captures
texts_at octets spans = map (option_map (octets_at octets)) spans

-- what a pattern captures in octets; where it does not match, nothing
unfoldable pub captures_in : Written → List ℕ → Captures
captures_in w octets = option_map_or (texts_at octets) (groups_in w octets) no_captures

-- The captures after a comparison: those in what an expansion puts in for the instance. Where there is no instance the
-- pattern is not looked for, and they stay. A comparison by `!~` captures too where its pattern matches.
unfoldable pub captures_after : Dictionary → Matching → State → Captures → Captures
captures_after dictionary m s captures =
    option_map_or (λ pair. captures_in (pattern_in m) (meaning_put dictionary pair))
    (instance_in m s) captures

-- ---- update lines

-- what was captured, put into texts
abbrev pub filled_part : Captures → Part → Part
filled_part captures (Capture group) = Text (captured group captures)
filled_part captures part = part

abbrev pub filled_source : Captures → Source → Source
filled_source captures (source.WiderText raw tag parts) =
    source.WiderText raw tag (map (filled_part captures) parts)
filled_source captures (source.Text raw parts) = source.Text raw (map (filled_part captures) parts)
filled_source captures from = from

-- an update line with what was captured put into its text
abbrev pub filled : Captures → Line → Line
filled captures line = record line { source = filled_source captures line.source }
