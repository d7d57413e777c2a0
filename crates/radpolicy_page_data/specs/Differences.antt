-- How the lists at a position of a run come from those before.
use Rattle.std.specs.Prelude.{◌≡◌, ◌<◌, ℕ, zero, suc, List}
use Rattle.std.specs.List.{slice_index_or}
use Rattle.avp_lists.specs.States.{empty_state}
use Rattle.avp_lists.specs.declared.lists.State.{State}
use Rattle.avp_step.specs.Trace.{Entry, start}
use Rattle.radpolicy_page_data.specs.Splices.{IsBetween}
use Rattle.radpolicy_page_data.specs.declared.differences.Difference.{Difference}
use Rattle.radpolicy_page_data.specs.declared.differences.Difference.TheVariants.{Again, Spliced}
use Rattle.radpolicy_page_data.specs.declared.splices.Splice.{Splice}

abbrev pub entry_at : List Entry → ℕ → Entry
entry_at trace k = slice_index_or trace k (start empty_state)

-- the lists at a position
abbrev pub lists_at : List Entry → ℕ → State
lists_at trace k = (entry_at trace k).outcome.state

-- the lists at the position before; nothing is in those before the start
abbrev pub lists_before : List Entry → ℕ → State
lists_before trace zero = empty_state
lists_before trace (suc k) = lists_at trace k

-- the splices make the three lists from those before
pub record AreSplices (of_request of_reply of_control : Splice) (before after : State) : Type 0 where
  pub request : IsBetween of_request before.request after.request
  pub reply : IsBetween of_reply before.reply after.reply
  pub control : IsBetween of_control before.control after.control

-- the lists at an earlier position are there again, or splices make the lists of those before
abbrev pub Makes : List Entry → ℕ → Difference → Type 0
Makes trace k (Again earlier) = (earlier < k) × (lists_at trace k ≡ lists_at trace earlier)
Makes trace k (Spliced request reply control) =
    AreSplices request reply control (lists_before trace k) (lists_at trace k)
