-- The places of the slots that show a pair, in order: of each list those that entered at its head, and those that
-- entered at its tail.
use Rattle.std.specs.Prelude.{◌≡◌, ◌≤◌, ◌<◌, ℕ, Bool, true, ◌&&◌, false, nat_lt, if◌then◌else◌, Option, Some, None, List, [], length, filter, slice_index_or, vec_capacity}
use Rattle.std.specs.List.{insert, remove}
use Rattle.std.specs.declared.vec.Vec.{Vec}
use Rattle.std.specs.declared.alloc.Global.{Global}
use Rattle.avp_lists.specs.declared.lists.List.{List as WhichList}
use Rattle.avp_lists.specs.declared.lists.List.TheVariants.{Request, Reply, Control}
use Rattle.avp_lists.specs.declared.live.Live.{Live}
use Rattle.avp_lists.specs.declared.live.LivePlaces.{LivePlaces}
use Rattle.avp_lists.specs.declared.slots.End.{End}
use Rattle.avp_lists.specs.declared.slots.End.TheVariants.{Head, Tail}
use Rattle.avp_lists.specs.declared.slots.Slot.{Slot}
use Rattle.avp_lists.specs.internal.Plans.{places_in}
use Rattle.avp_lists.specs.internal.Shown.{same_list, same_end, entered_at, shows_at}
use Rattle.avp_lists.specs.internal.Slots.{slot_at}

-- the places kept for a list, and for an end of it
abbrev pub live_in : WhichList → Live → LivePlaces
live_in Request l = l.request
live_in Reply l = l.reply
live_in Control l = l.control

abbrev pub at_end : End → LivePlaces → Vec ℕ Global
at_end Head p = p.head
at_end Tail p = p.tail

abbrev pub live_at : End → WhichList → Live → Vec ℕ Global
live_at end which l = at_end end (live_in which l)

-- another place comes before this one
abbrev pub before : ℕ → ℕ → Bool
before place other = nat_lt other place

-- a place among others in order: put in, or taken out
abbrev pub turned_place : ℕ → Bool → List ℕ → List ℕ
turned_place place live places =
    if live
    then insert places (length (filter (before place) places)) place
    else remove places (length (filter (before place) places))

-- no place is kept; the same places are kept, and there is no less room for them
abbrev pub NoneIn : LivePlaces → Type 0
NoneIn p = (e : End) → (at_end e p).items ≡ []

abbrev pub SameIn : LivePlaces → LivePlaces → Type 0
SameIn old new = (e : End) → (at_end e new).items ≡ (at_end e old).items

abbrev pub RoomIn : LivePlaces → LivePlaces → Type 0
RoomIn old new = (e : End) → vec_capacity (at_end e old) ≤ vec_capacity (at_end e new)

-- a place is put in or taken out at one end
abbrev pub TurnedIn : End → ℕ → Bool → LivePlaces → LivePlaces → Type 0
TurnedIn end place live old new =
    (e : End)
    → (at_end e new).items
    ≡ (if same_end e end
    then turned_place place live (at_end e old).items
    else (at_end e old).items)

-- the same of every list
abbrev pub NoneLive : Live → Type 0
NoneLive l = (e : End) (which : WhichList) → (live_at e which l).items ≡ []

abbrev pub SameLive : Live → Live → Type 0
SameLive old new =
    (e : End) (which : WhichList) → (live_at e which new).items ≡ (live_at e which old).items

abbrev pub LiveRoom : Live → Live → Type 0
LiveRoom old new =
    (e : End) (which : WhichList)
    → vec_capacity (live_at e which old) ≤ vec_capacity (live_at e which new)

abbrev pub LiveTurned : End → WhichList → ℕ → Bool → Live → Live → Type 0
LiveTurned end list place live old new =
    (e : End) (which : WhichList)
    → (live_at e which new).items
    ≡ (if same_end e end && same_list which list
    then turned_place place live (live_at e which old).items
    else (live_at e which old).items)

-- the slot entered that list at that end
abbrev pub entered_in : End → WhichList → Slot → Bool
entered_in end which s = entered_at end s && same_list which s.list

-- the places kept are those of the slots that show a pair
abbrev pub AreLive : List Slot → Live → Type 0
AreLive c l =
    (end : End) (which : WhichList)
    → (live_at end which l).items ≡ places_in (shows_at end which) 0 c

-- there is room for the place of each slot
abbrev pub HaveRoom : List Slot → Live → Type 0
HaveRoom c l =
    (end : End) (which : WhichList)
    → length (filter (entered_in end which) c) ≤ vec_capacity (live_at end which l)

-- at each of these places a slot shows a pair
abbrev pub AllLive : List Slot → List ℕ → Type 0
AllLive c places =
    (k : ℕ) → k < length places
    → (slice_index_or places k 0 < length c)
    × ((slot_at c (slice_index_or places k 0)).mark.live ≡ true)

-- the slots that show a pair are among the first n
abbrev pub AllBelow : ℕ → List Slot → Type 0
AllBelow n c = (i : ℕ) → (slot_at c i).mark.live ≡ true → i < n

-- a slot to be added shows nothing, and there is room for its place after n others
abbrev pub AddsDark : Option Slot → Type 0
AddsDark None = Unit {0}
AddsDark (Some s) = s.mark.live ≡ false

abbrev pub HasRoomFor : ℕ → Option Slot → Live → Type 0
HasRoomFor n None l = Unit {0}
HasRoomFor n (Some s) l = n < vec_capacity (live_at s.end s.list l)

-- there is room for so many places of each list at its tail
abbrev pub HasTailRoom : ℕ → ℕ → ℕ → Live → Type 0
HasTailRoom request reply control l =
    (request ≤ vec_capacity (live_at Tail Request l))
    × (reply ≤ vec_capacity (live_at Tail Reply l))
    × (control ≤ vec_capacity (live_at Tail Control l))
