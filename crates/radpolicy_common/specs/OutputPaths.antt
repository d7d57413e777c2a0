-- Paths of what a program has open already.
use Rattle.std.specs.Prelude.{ℕ, ◌≡◌, ◌⊎◌, List, ◌++◌, codes, decimal}

-- the path of the descriptor of this number
abbrev pub IsDescriptorPath : List ℕ → ℕ → Type 0
IsDescriptorPath path number =
    ((path ≡ codes "/dev/stdout") × (number ≡ 1))
    ⊎ ((path ≡ codes "/dev/stderr") × (number ≡ 2))
    ⊎ (path ≡ codes "/dev/fd/" ++ decimal number)
    ⊎ (path ≡ codes "/proc/self/fd/" ++ decimal number)
