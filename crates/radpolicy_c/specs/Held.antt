-- What is behind the pointer of a policy that C keeps.
use Rattle.std.specs.Prelude.{Option, None, Some}
use base.Fml.{Fml, ftrue}
use denote.RawPtr.{Ptr}
use Rattle.std.specs.Box.Ownership.{box_owns}
use Rattle.std.specs.contracts.impls.GlobalAllocator.TheImpl.{ghosts}
use Rattle.radpolicy.specs.Starts.{Prepared}
use Rattle.radpolicy_c.specs.contracts.shared.SharedPolicy.{the_row}

-- the policy in a block of its own, with the right to free the block; nothing where there is none
abbrev pub held_at : Ptr → Option Prepared → Fml
held_at at None = ftrue
held_at at (Some policy) = box_owns (ghosts.dealloc_token _) the_row at policy
