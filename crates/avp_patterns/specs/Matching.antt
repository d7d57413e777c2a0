-- What patterns match.
use Rattle.std.specs.Prelude.{◌≡◌, ◌≤◌, ℕ, Bool, List, ◌∷◌, Option, Some, IfSome, is_some, length, map}
use Rattle.std.specs.List.{range_with_len}
use Rattle.std.specs.Option.{option_and_then, option_map}
use Rattle.regex.specs.Patterns.{Re, Match, Matches, find, span}
use Rattle.regex.specs.Writes.{group_of}
use Rattle.avp_patterns.specs.Patterns.{Written, expression_of}

-- the leftmost match of a pattern in octets; of the ways from there on the first in the order in which PCRE tries them
abbrev pub match_in : Written → List ℕ → Option Match
match_in w octets = option_and_then (λ re. find re octets 0) (expression_of w)

-- whether a pattern matches some of the octets
unfoldable pub matches : Written → List ℕ → Bool
matches w octets = is_some (match_in w octets)

-- The same in the words of the textbook: some run of the octets is in the language of the expression.
abbrev pub HasMatch : Written → List ℕ → Type 0
HasMatch w octets =
    (re : Re) × (expression_of w ≡ Some re)
    × (i : ℕ) × (j : ℕ) × (i ≤ length octets) × Matches octets re i j

-- where the groups 0 to 9 of a match begin and end, group 0 being all of it; none for a group that took no part
abbrev pub spans_of : Match → List (Option (ℕ × ℕ))
spans_of m = Some (span m) ∷ map (group_of m) (range_with_len 1 9)

-- a group that took no part, or that lies within these octets
abbrev pub IsWithin : List ℕ → Option (ℕ × ℕ) → Type 0
IsWithin octets found = IfSome found (λ s. (s.0 ≤ s.1) × (s.1 ≤ length octets))

-- and those of the match in octets, if there is one
abbrev pub groups_in : Written → List ℕ → Option (List (Option (ℕ × ℕ)))
groups_in w octets = option_map spans_of (match_in w octets)
