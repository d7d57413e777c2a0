-- Spans in what a group captured, as spans in the text that it was captured in.
use Rattle.std.specs.Prelude.{ℕ, ◌+◌, ◌^◌, ◌<◌, List, slice_index_or, Option, None, IfSome}
use Rattle.std.specs.Option.{option_map, option_map_or}

-- where a group begins; at the beginning where it took no part
abbrev pub start_in : List (Option (ℕ × ℕ)) → ℕ → ℕ
start_in groups group = option_map_or (λ s. s.0) (slice_index_or groups group None) 0

abbrev pub moved : ℕ → Option (ℕ × ℕ) → Option (ℕ × ℕ)
moved by span = option_map (λ s. (s.0 + by, s.1 + by)) span

-- both ends have room
abbrev pub IsMovable : ℕ → Option (ℕ × ℕ) → Type 0
IsMovable by span = IfSome span (λ s. (s.0 + by < 2 ^ 64) × (s.1 + by < 2 ^ 64))
