-- Lists with one attribute set, for a run that is begun anew.
use Rattle.std.specs.Prelude.{◌⊎◌, ◌<◌, length}
use Rattle.avp_lists.specs.States.{edited, max_pairs}
use Rattle.avp_lists.specs.declared.edits.Edit.{Edit}
use Rattle.avp_lists.specs.declared.edits.Op.TheVariants.{Replace}
use Rattle.avp_lists.specs.declared.lists.List.{List as WhichList}
use Rattle.avp_lists.specs.declared.lists.State.{State}
use Rattle.avp_lists.specs.declared.pairs.Pair.{Pair}

-- to set an attribute is what `:=` does: the pair takes the place of its attribute's first instance and the others go,
-- or it is added at the end
abbrev pub setting : WhichList → Pair → Edit
setting list pair = record { list = list; op = Replace; pair = pair }

abbrev pub with_set : WhichList → Pair → State → State
with_set list pair lists = edited (setting list pair) lists

-- a list has more pairs than a run may have
abbrev pub HasLongList : State → Type 0
HasLongList lists = (max_pairs < length lists.request) ⊎ (max_pairs < length lists.reply)
    ⊎ (max_pairs < length lists.control)
