-- What the code reads of sixteen octets at a time.
use Rattle.std.specs.Prelude.{ℕ, ◌==◌, if◌then◌else◌}
use Rattle.std.specs.Int.{trailing_zeros, w64}

-- the place of the first mark, or sixteen where there is none
abbrev pub first_marked : ℕ → ℕ
first_marked marks = if marks == 0 then 16 else trailing_zeros w64 marks
