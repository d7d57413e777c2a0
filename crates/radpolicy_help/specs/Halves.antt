-- What is shown of a line of which no more than so many octets are shown.
use Rattle.std.specs.Prelude.{ℕ, List, ◌++◌, ◌+◌, ◌-◌, nat_le, codes, if◌then◌else◌, length, take}

-- of what is before a place
abbrev pub front_shown : ℕ → List ℕ → List ℕ
front_shown kept front = take kept front

-- of what is from the place on: all of it, or what is shown and `(hidden)`
abbrev pub back_shown : ℕ → List ℕ → List ℕ → List ℕ
back_shown kept front back =
    if nat_le (length front + length back) kept then back
    else take (kept - length front) back ++ codes "(hidden)"
