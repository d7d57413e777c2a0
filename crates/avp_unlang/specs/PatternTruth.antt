-- Comparisons with a pattern: whether one is met in a state.
use Rattle.std.specs.Prelude.{ℕ, Bool, false, not, ◌&&◌, List, Option, if◌then◌else◌}
use Rattle.std.specs.Option.{option_map_or}
use Rattle.avp_lists.specs.Selections.{first_selected_instance}
use Rattle.avp_lists.specs.States.{list_of}
use Rattle.avp_lists.specs.declared.lists.State.{State}
use Rattle.avp_lists.specs.declared.pairs.Pair.{Pair}
use Rattle.avp_dict.specs.Dictionary.{Dictionary}
use Rattle.avp_forms.specs.Expansions.{has_few_digits, is_printed_by_type}
use Rattle.avp_patterns.specs.Matching.{matches}
use Rattle.avp_patterns.specs.Patterns.{Written}
use Rattle.avp_unlang.specs.Resolutions.{meaning_put}
use Rattle.avp_unlang.specs.declared.tree.Matching.{Matching}

-- the pattern, as it is written
abbrev pub pattern_in : Matching → Written
pattern_in m = record { text = m.pattern; flags = m.flags }

-- the first of the instances that are meant
abbrev pub instance_in : Matching → State → Option Pair
instance_in m s = first_selected_instance m.selection m.id (list_of m.list s)

-- a pattern that matches, or by `!~` one that does not
abbrev pub agrees : Matching → List ℕ → Bool
agrees m octets =
    if m.negated then not (matches (pattern_in m) octets) else matches (pattern_in m) octets

-- what an expansion puts in for an instance that is there, by the dictionary, agrees with the pattern
abbrev pub is_matched : Dictionary → Matching → State → Bool
is_matched dictionary m s =
    option_map_or (λ pair. agrees m (meaning_put dictionary pair)) (instance_in m s) false

-- an instance that is printed by its type, and if as digits, of no more octets than an attribute may have
abbrev pub is_matchable_by : Dictionary → Pair → Bool
is_matchable_by dictionary pair =
    has_few_digits pair.value && is_printed_by_type pair.id pair.value dictionary
