-- What is told in the caller's room.
use Rattle.std.specs.Prelude.{ℕ, Bool, ◌++◌, List, if◌then◌else◌, drop, length, nat_lt}
use Rattle.radpolicy_c.specs.declared.statuses.Status.{Status}
use Rattle.radpolicy_c.specs.declared.statuses.Status.TheVariants.{TooShort}

-- whether a room is too short for these items
abbrev pub is_short : {X : Type 0} → List X → List X → Bool
is_short room items = nat_lt (length room) (length items)

-- the room with these items at its front, and the rest as it was
abbrev pub with_front : {X : Type 0} → List X → List X → List X
with_front items room = items ++ drop (length items) room

-- a room after: with the items at its front, or as it was where a room of the call is too short
abbrev pub room_after : {X : Type 0} → Bool → List X → List X → List X
room_after short items room = if short then room else with_front items room

-- the one room of a call after, by whether it is too short itself
abbrev pub room_told : List ℕ → List ℕ → List ℕ
room_told octets room = room_after (is_short room octets) octets room

-- the status that is given
abbrev pub status_told : Status → List ℕ → List ℕ → Status
status_told status octets room = if is_short room octets then TooShort else status
