-- Faults that are want of memory, or of a kind.
use Rattle.std.specs.Prelude.{◌≡◌, ◌⊎◌}
use Rattle.radpolicy_clients.specs.declared.faults.ClientFault.{ClientFault}
use Rattle.radpolicy_clients.specs.declared.faults.ClientFault.TheVariants.{Memory}
use Rattle.radpolicy_clients.specs.declared.faults.LineFault.{LineFault}

abbrev pub MemoryOr : (ClientFault → Type 0) → ClientFault → Type 0
MemoryOr IsFault f = (f ≡ Memory) ⊎ IsFault f

abbrev pub LineMemoryOr : (LineFault → Type 0) → LineFault → Type 0
LineMemoryOr IsFault f = (f.fault ≡ Memory) ⊎ IsFault f
