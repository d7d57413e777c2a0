-- References in texts.
use Rattle.std.specs.Prelude.{ℕ, ◌==◌, ◌&&◌, ◌||◌, Bool, true, false, List, [], ◌∷◌, codes}

abbrev pub begins_with : List ℕ → List ℕ → Bool
begins_with [] octets = true
begins_with (wanted ∷ front) [] = false
begins_with (wanted ∷ front) (octet ∷ octets) = wanted == octet && begins_with front octets

-- `${` or `$ENV{`.
abbrev pub begins_reference : List ℕ → Bool
begins_reference octets = begins_with (codes "${") octets || begins_with (codes "$ENV{") octets

abbrev pub has_reference : List ℕ → Bool
has_reference [] = false
has_reference (octet ∷ octets) = begins_reference (octet ∷ octets) || has_reference octets
