-- What is behind the pointer of a store that C keeps.
use Rattle.std.specs.Prelude.{Option, None, Some}
use base.Fml.{Fml, ftrue}
use denote.RawPtr.{Ptr}
use Rattle.std.specs.Box.Ownership.{box_owns}
use Rattle.std.specs.contracts.impls.GlobalAllocator.TheImpl.{ghosts}
use Rattle.avp_lists.specs.History.{History}
use Rattle.radpolicy_c.specs.contracts.kept_stores.KeptStore.{the_row}

-- the store in a block of its own, with the right to free the block; nothing where there is none
abbrev pub store_at : Ptr → Option History → Fml
store_at at None = ftrue
store_at at (Some history) = box_owns (ghosts.dealloc_token _) the_row at history
