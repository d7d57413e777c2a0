-- Comparisons of texts in conditions of wider policies: whether one is met, and what those with a pattern capture.
use Rattle.std.specs.Prelude.{ℕ, Bool, true, false, not, List, [], map, Option, None, Some, if◌then◌else◌}
use Rattle.std.specs.Cmp.Lexicographic.{slice_cmp}
use Rattle.std.specs.Option.{option_and_then, option_map_or}
use Rattle.std.specs.Ordering.{nat_cmp}
use Rattle.std.specs.declared.cmp.Ordering.{Ordering}
use Rattle.avp_lists.specs.Selections.{first_selected_instance}
use Rattle.avp_lists.specs.States.{list_of}
use Rattle.avp_lists.specs.declared.lists.State.{State}
use Rattle.avp_lists.specs.declared.pairs.Value.{Value}
use Rattle.avp_lists.specs.declared.pairs.Value.TheVariants as values
use Rattle.avp_dict.specs.Dictionary.{Dictionary}
use Rattle.avp_dict.specs.Spellings.{bytes_spelled}
use Rattle.avp_dict.specs.Words.{digits}
use Rattle.avp_dict.specs.declared.entries.Kind.{Kind}
use Rattle.avp_dict.specs.declared.entries.Kind.TheVariants as kinds
use Rattle.avp_patterns.specs.Matching.{matches}
use Rattle.avp_patterns.specs.Patterns.{Written}
use Rattle.avp_unlang.specs.Captures.{Captures, captured, captures_in, filled_part}
use Rattle.avp_unlang.specs.PatternTruth.{agrees, instance_in, pattern_in}
use Rattle.avp_unlang.specs.References.{type_of}
use Rattle.avp_unlang.specs.Relations.{meets}
use Rattle.avp_unlang.specs.Resolutions.{meaning_put, parts_text}
use Rattle.avp_unlang.specs.declared.tree.GroupMatching.{GroupMatching}
use Rattle.avp_unlang.specs.declared.tree.Matching.{Matching}
use Rattle.avp_unlang.specs.declared.tree.Part.{Part}
use Rattle.avp_unlang.specs.declared.tree.TextComparison.{TextComparison}
use Rattle.avp_unlang.specs.declared.tree.TextSide.{TextSide}
use Rattle.avp_unlang.specs.declared.tree.TextSide.TheVariants.{Instance, Text}

-- ---- the order of two texts

abbrev pub numbers_first : Option ℕ → Option ℕ → Ordering → Ordering
numbers_first (Some m) (Some n) order = nat_cmp m n
numbers_first _ _ order = order

-- as numbers where both are decimal digits alone, else octet by octet, a proper beginning first
unfoldable pub text_order : List ℕ → List ℕ → Ordering
text_order a b = numbers_first (digits 10 a) (digits 10 b) (slice_cmp nat_cmp a b)

-- ---- comparisons

-- the text of parts, with what was captured put in; an absent attribute is put in as nothing
abbrev pub filled_text : Dictionary → State → Captures → List Part → List ℕ
filled_text dictionary s captures parts =
    parts_text dictionary s (map (filled_part captures) parts)

-- the octets that a value has of its own; a number or an address has none
abbrev pub own_octets : Value → Option (List ℕ)
own_octets (values.Text os) = Some os
own_octets (values.Bytes os) = Some os
own_octets (values.Raw os) = Some os
own_octets _ = None

-- what a text stands for beside values of a type: beside octets, after `0x`, those of its digits
abbrev pub text_beside : Kind → List ℕ → Option (List ℕ)
text_beside kinds.Bytes text = bytes_spelled true text
text_beside _ text = Some text

-- the order of octets, if there are any, and of what a text stands for beside them
abbrev pub octets_order : Option (List ℕ) → Option (List ℕ) → Option Ordering
octets_order (Some os) (Some beside) = Some (slice_cmp nat_cmp os beside)
octets_order _ _ = None

-- the order of a side and a text; an instance is compared octet by octet, and has no order where it is absent, or where
-- the text stands for nothing
abbrev pub order_beside : Dictionary → State → Captures → TextSide → List ℕ → Option Ordering
order_beside dictionary s captures (Text parts) text =
    Some (text_order (filled_text dictionary s captures parts) text)
order_beside dictionary s captures (Instance list id selection) text =
    octets_order (option_and_then (λ pair. own_octets pair.value)
    (first_selected_instance selection id (list_of list s)))
    (text_beside (type_of dictionary id) text)

abbrev pub is_met_by_texts : Dictionary → TextComparison → State → Captures → Bool
is_met_by_texts dictionary c s captures =
    option_map_or (meets c.relation)
    (order_beside dictionary s captures c.left (filled_text dictionary s captures c.right)) false

-- ---- comparisons with a pattern

-- what is put in for the instance that is meant; nothing where there is none
abbrev pub text_in : Dictionary → Matching → State → List ℕ
text_in dictionary m s = option_map_or (meaning_put dictionary) (instance_in m s) []

-- a text is compared also where there is no instance
abbrev pub is_text_matched : Dictionary → Matching → State → Bool
is_text_matched dictionary m s = agrees m (text_in dictionary m s)

-- so its pattern is always looked for
unfoldable pub captures_after_text : Dictionary → Matching → State → Captures
captures_after_text dictionary m s = captures_in (pattern_in m) (text_in dictionary m s)

-- ---- and of what was captured

abbrev pub group_pattern : GroupMatching → Written
group_pattern m = record { text = m.pattern; flags = m.flags }

abbrev pub is_group_matched : GroupMatching → Captures → Bool
is_group_matched m captures =
    if m.negated then not (matches (group_pattern m) (captured m.group captures))
    else matches (group_pattern m) (captured m.group captures)

unfoldable pub captures_after_group : GroupMatching → Captures → Captures
captures_after_group m captures = captures_in (group_pattern m) (captured m.group captures)
