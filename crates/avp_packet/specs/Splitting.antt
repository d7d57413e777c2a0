-- The whole attributes that octets begin with, and what is left of the octets (RFC 2865, section 5).
use Rattle.std.specs.Prelude.{◌≡◌, ℕ, zero, suc, ◌+◌, ◌-◌, Bool, false, ◌&&◌, nat_le, if◌then◌else◌, List, [], ◌∷◌, ◌++◌, length, take, Result, Ok, Err}
use Rattle.std.specs.List.{flat_map}
use Rattle.avp_packet.specs.declared.attribute.splitting.BadLength.{BadLength}

-- an attribute, wherever it is
pub record Part : Type 0 where
  pub number : ℕ
  pub value : List ℕ

-- Type, Length, which counts both of them, and Value
abbrev pub part_octets : Part → List ℕ
part_octets part = part.number ∷ (2 + length part.value) ∷ part.value

-- so many octets of Length, with these after it, end a whole attribute
abbrev pub is_whole_attribute : ℕ → List ℕ → Bool
is_whole_attribute n os = nat_le 2 n && nat_le n (2 + length os)

-- a whole attribute comes first
abbrev pub begins_whole : List ℕ → Bool
begins_whole (t ∷ n ∷ os) = is_whole_attribute n os
begins_whole _ = false

-- octets are these attributes, whole and one after the other, and then what does not begin with a whole attribute
pub record IsSplit (os : List ℕ) (attributes : List Part) (rest : List ℕ) : Type 0 where
  pub whole : os ≡ flat_map part_octets attributes ++ rest
  pub ends : begins_whole rest ≡ false

-- ---- the attributes and the rest

-- the whole attributes of the octets after the first so many
unfoldable pub parts_after : ℕ → List ℕ → List Part
parts_after (suc k) (o ∷ os) = parts_after k os
parts_after zero (t ∷ n ∷ os) =
    if is_whole_attribute n os
    then (record { number = t; value = take (n - 2) os } ∷ parts_after (n - 2) os)
    else []
parts_after _ _ = []

-- what no whole attribute begins with, of the octets after the first so many
unfoldable pub left_after : ℕ → List ℕ → List ℕ
left_after (suc k) (o ∷ os) = left_after k os
left_after zero (t ∷ n ∷ os) =
    if is_whole_attribute n os then left_after (n - 2) os else (t ∷ n ∷ os)
left_after zero (t ∷ []) = t ∷ []
left_after _ [] = []

-- the whole attributes that octets begin with
abbrev pub parts : List ℕ → List Part
parts os = parts_after 0 os

-- what is after them
abbrev pub left : List ℕ → List ℕ
left os = left_after 0 os

-- ---- attributes where they are

-- an attribute, and where it begins
pub record Placed : Type 0 where
  pub number : ℕ
  pub value : List ℕ
  pub offset : ℕ

abbrev pub placed : Part → ℕ → Placed
placed part offset = record { number = part.number; value = part.value; offset = offset }

-- attributes one after the other, the first of them at this offset, and then what follows
unfoldable pub placed_from : ℕ → List Part → List (Result Placed BadLength)
    → List (Result Placed BadLength)
placed_from offset [] after = after
placed_from offset (part ∷ parts) after =
    Ok (placed part offset) ∷ placed_from (offset + (2 + length part.value)) parts after

-- octets that are no whole attribute are a fault where they begin
abbrev pub fault_in : ℕ → List ℕ → List (Result Placed BadLength)
fault_in end [] = []
fault_in end (o ∷ os) = Err (record { offset = end - length (o ∷ os) }) ∷ []

-- the attributes of octets that are at this offset, and as the last item the fault
unfoldable pub items_from : ℕ → List ℕ → List (Result Placed BadLength)
items_from offset os = placed_from offset (parts os) (fault_in (offset + length os) (left os))

-- the whole attributes that octets begin with, and the first that is not whole, by its offset
abbrev pub items : List ℕ → List (Result Placed BadLength)
items os = items_from 0 os
