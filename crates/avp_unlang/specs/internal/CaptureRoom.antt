-- Which instances a run has room to keep the text of.
use Rattle.std.specs.Prelude.{Bool, ◌&&◌}
use Rattle.avp_lists.specs.declared.pairs.Pair.{Pair}
use Rattle.avp_dict.specs.Dictionary.{Dictionary}
use Rattle.avp_forms.specs.Expansions.{is_printed_by_type, is_short_enough}

-- an instance that is printed by its type, and its text has no more octets than there is room for
abbrev pub is_keepable : Dictionary → Pair → Bool
is_keepable dictionary pair =
    is_short_enough pair.value && is_printed_by_type pair.id pair.value dictionary
