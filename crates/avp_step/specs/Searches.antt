-- What runs of a policy search with.
use Rattle.std.specs.Prelude.{Bool, ◌||◌, List}
use Rattle.avp_patterns.specs.Patterns.{Written}
use Rattle.avp_unlang.specs.CaptureUse.{uses_captures}
use Rattle.avp_unlang.specs.declared.tree.Statement.{Statement}

-- the patterns that can be searched for, and whether there is room for what they capture
pub record Searching : Type 0 where
  pub patterns : List Written
  pub has_room : Bool

-- the same with room, if these statements look at what was captured; what there is stays
abbrev pub with_room_for : List Statement → Searching → Searching
with_room_for statements s =
    record s { has_room = s.has_room || uses_captures statements }
