-- What a run tells, in words.
use Rattle.std.specs.Prelude.{ℕ, ◌==◌, if◌then◌else◌, List, codes, Option, Some, None}

-- why an update line failed, by the number of a label
abbrev pub reason_text : ℕ → Option (List ℕ)
reason_text number = if number == 1 then Some (codes "the source is absent")
    else if number == 2 then Some (codes "not a value of the type")
    else if number == 3 then Some (codes "too long")
    else if number == 4 then Some (codes "the list is full") else None
