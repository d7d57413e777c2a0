-- Tables of lines: each gives the place of the last line with a key.
use Rattle.std.specs.Prelude.{◌≡◌, ◌≤◌, ℕ, suc, Bool, ◌==◌, ◌&&◌, List, [], ◌∷◌, map, length, Option, Some, None, slice_get, if◌then◌else◌}
use Rattle.std.specs.List.{All}
use Rattle.std.specs.Map.{keys_of, lookup}
use Rattle.std.specs.Str.{bytes_eq}
use Rattle.avp_lists.specs.declared.pairs.AttrId.{AttrId}
use Rattle.avp_lists.specs.declared.pairs.AttrId.TheVariants.{Plain, Vendor, Extended}
use Rattle.avp_dict.specs.declared.entries.ValueLine.{ValueLine}
use Rattle.avp_dict.specs.declared.entries.VendorLine.{VendorLine}
use Rattle.avp_dict.specs.Dictionary.{first_keys, last_where}
use Rattle.avp_dict.specs.Letters.{max_name}
use Rattle.avp_dict.specs.Words.{lower}

-- the place of the last line that passes
abbrev pub last_place : {X : Type 0} → (X → Bool) → List X → Option ℕ
last_place test [] = None
last_place test (x ∷ xs) =
    elim (last_place test xs) [ Some i ↦ Some (suc i) | None ↦ (if test x then Some 0 else None) ]

-- the last line that passes is at this place, or no line passes
abbrev pub IsLastAt : {X : Type 0} → (X → Bool) → List X → Option ℕ → Type 0
IsLastAt test lines None = last_where test lines ≡ None
IsLastAt {X} test lines (Some i) =
    (line : X) × (slice_get lines i ≡ Some line) × (last_where test lines ≡ Some line)

-- the table of lines with these keys: the place of the last line with each key, the keys in the order of their first
-- lines
pub record IsTable {K : Type 0} (eq : K → K → Bool) (entries : List (K × ℕ)) (keys : List K) : Type
    0 where
  pub placed : (key : K) → lookup (eq key) entries ≡ last_place (λ k. eq k key) keys
  pub ordered : keys_of entries ≡ first_keys eq keys

-- ---- keys

-- an id, as numbers
abbrev pub IdKey : Type 0
IdKey = ℕ × (ℕ × ℕ)

abbrev pub id_key : AttrId → IdKey
id_key (Plain n) = (0, (n, 0))
id_key (Vendor v n) = (1, (v, n))
id_key (Extended t n) = (2, (t, n))

abbrev pub same_id_key : IdKey → IdKey → Bool
same_id_key a b = (a.0 == b.0) && ((a.1.0 == b.1.0) && (a.1.1 == b.1.1))

abbrev pub same_value_name : IdKey × List ℕ → IdKey × List ℕ → Bool
same_value_name a b = same_id_key a.0 b.0 && bytes_eq a.1 b.1

abbrev pub value_name_key : ValueLine → IdKey × List ℕ
value_name_key v = (id_key v.id, map lower v.name)

abbrev pub value_number_key : ValueLine → IdKey × ℕ
value_number_key v = (id_key v.id, v.number)

abbrev pub vendor_key : VendorLine → List ℕ
vendor_key v = map lower v.name

-- ---- tables

-- the tables of the lines' names and numbers, and no name too long
pub record AreTables {L K N : Type 0} (same_name : K → K → Bool) (same_number : N → N → Bool)
    (spelled : L → List ℕ) (name_of : L → K) (number_of : L → N) (names : List (K × ℕ))
    (numbers : List (N × ℕ)) (lines : List L) : Type 0 where
  pub by_name : IsTable same_name names (map name_of lines)
  pub by_number : IsTable same_number numbers (map number_of lines)
  pub short : All (λ line. length (spelled line) ≤ max_name) lines
