-- A store that C keeps: what each call does to its history.
use Rattle.std.specs.Prelude.{◌≡◌, ◌≢◌, ℕ, ◌+◌, ◌-◌, if◌then◌else◌, List, Option, None, Some, length, nat_le, nat_lt, slice_get}
use Rattle.avp_lists.specs.History.{History, after_edit, after_rollback, at_place, present, settled, starting}
use Rattle.avp_lists.specs.States.{IsFull, empty_state, list_of}
use Rattle.avp_lists.specs.declared.edits.Edit.{Edit}
use Rattle.avp_lists.specs.declared.lists.List.{List as WhichList}
use Rattle.avp_lists.specs.declared.pairs.Pair.{Pair}
use Rattle.radpolicy_c.specs.Rooms.{room_told, status_told}
use Rattle.radpolicy_c.specs.StorePairs.{no_pair, octets_held, pair_shown}
use Rattle.radpolicy_c.specs.declared.statuses.Status.{Status}
use Rattle.radpolicy_c.specs.declared.statuses.Status.TheVariants.{AlreadyOpen, Closed, Done, Full, NoMemory, NotThere}
use Rattle.radpolicy_c.specs.declared.store_pairs.RadpolicyStorePair.{RadpolicyStorePair}

-- ---- what is held before and after, by the status

-- a store of empty lists is opened
abbrev pub OpensStoreBy : Status → Option History → Option History → Type 0
OpensStoreBy Done before after = (before ≡ None) × (after ≡ Some (starting empty_state))
OpensStoreBy NoMemory before after = (before ≡ None) × (after ≡ None)
OpensStoreBy AlreadyOpen before after = (before ≢ None) × (after ≡ before)
OpensStoreBy _ before after = ⊥

-- the present state is edited, where the numbers of the edit name one
abbrev pub EditsStoreBy : Status → Option Edit → Option History → Option History → Type 0
EditsStoreBy Done (Some edit) (Some history) after =
    (IsFull edit (present history) → ⊥) × (after ≡ Some (after_edit edit history))
EditsStoreBy Full (Some edit) (Some history) after =
    IsFull edit (present history) × (after ≡ Some history)
EditsStoreBy NoMemory edit (Some history) after = after ≡ Some history
EditsStoreBy NotThere None (Some history) after = after ≡ Some history
EditsStoreBy Closed edit None after = after ≡ None
EditsStoreBy _ edit before after = ⊥

-- the store goes where a move goes, or stays where that goes nowhere
abbrev pub MovesStoreBy
    : Status → (History → Option History) → Option History → Option History → Type 0
MovesStoreBy Done move (Some history) after = (after ≢ None) × (after ≡ move history)
MovesStoreBy NotThere move (Some history) after = (move history ≡ None) × (after ≡ Some history)
MovesStoreBy Closed move None after = after ≡ None
MovesStoreBy _ move before after = ⊥

-- the same of a move that wants memory
abbrev pub MovesStoreWithin
    : Status → (History → Option History) → Option History → Option History → Type 0
MovesStoreWithin NoMemory move (Some history) after =
    (move history ≢ None) × (after ≡ Some history)
MovesStoreWithin status move before after = MovesStoreBy status move before after

-- ---- moves

-- to the state before
abbrev pub undone : History → Option History
undone history =
    if nat_lt 0 history.place then Some (at_place (history.place - 1) history) else None

-- to the state after
abbrev pub redone : History → Option History
redone history =
    if nat_lt (history.place + 1) (length history.states)
    then Some (at_place (history.place + 1) history) else None

-- the state at an earlier place, or the present one, is added once more
abbrev pub rolled_back : ℕ → History → Option History
rolled_back to history =
    if nat_le to history.place then Some (after_rollback to history) else None

-- each state but the present one is forgotten
abbrev pub settling : History → Option History
settling history = Some (settled history)

-- ---- what is told

-- the place of the present state
abbrev pub TellsPlaceBy : Status → Option History → ℕ → Type 0
TellsPlaceBy Done (Some history) told = told ≡ history.place
TellsPlaceBy Closed None told = told ≡ 0
TellsPlaceBy _ before told = ⊥

-- how many pairs a list has
abbrev pub TellsCountBy : Status → Option WhichList → Option History → ℕ → Type 0
TellsCountBy Done (Some list) (Some history) told =
    told ≡ length (list_of list (present history))
TellsCountBy NotThere None (Some history) told = told ≡ 0
TellsCountBy Closed list None told = told ≡ 0
TellsCountBy _ list before told = ⊥

-- the pair at a place of a list
abbrev pub pair_there : Option WhichList → History → ℕ → Option Pair
pair_there None history at = None
pair_there (Some list) history at = slice_get (list_of list (present history)) at

-- a pair and the octets of its value are told, or that there is none
abbrev pub TellsPairBy
    : Status → Option Pair → RadpolicyStorePair → List ℕ → List ℕ → Type 0
TellsPairBy status None told before after =
    (status ≡ NotThere) × (told ≡ no_pair) × (after ≡ before)
TellsPairBy status (Some pair) told before after =
    (status ≡ status_told Done (octets_held pair.value) before)
    × (told ≡ pair_shown pair) × (after ≡ room_told (octets_held pair.value) before)

-- the same of the store that is held, with the room before and after
abbrev pub TellsPair
    : Status → Option History → Option WhichList → ℕ → RadpolicyStorePair → List ℕ → List ℕ
    → Type 0
TellsPair status None list at told before after =
    (status ≡ Closed) × (told ≡ no_pair) × (after ≡ before)
TellsPair status (Some history) list at told before after =
    TellsPairBy status (pair_there list history at) told before after
