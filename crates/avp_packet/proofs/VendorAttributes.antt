-- A vendor's attributes, one after the other.
use Rattle.std.proofs.Common.{◌≡◌, ◌∙◌, ℕ, zero, suc, ◌+◌, ◌-◌, ◌<◌, ◌≤◌, true, false, ◌&&◌, ◌==◌, nat_le, List, [], ◌∷◌, length, drop, refl, ap, arith}
use Rattle.std.proofs.lemmas.Grind.{common_steps}
use Rattle.avp_dict.specs.declared.entries.Format.{Format}
use Rattle.avp_dict.specs.Vendors.{is_format}
use Rattle.avp_packet.specs.Meanings.{Subattribute, are_subattributes_after, begins_subattribute, first_subattribute, subattribute_length, subattributes, subattributes_after}
use Rattle.avp_packet.proofs.AttributeRoom.{format_of_size}
use Rattle.std.proofs.Common.{◌⊎◌, inl, inr}
use Rattle.std.proofs.lemmas.Bool.{and_parts}

subattributes_after-drop : (f : Format) (k : ℕ) (os : List ℕ) → subattributes_after f k os ≡ subattributes f (drop k os)
unfolding subattributes_after
subattributes_after-drop f zero os = refl
subattributes_after-drop f (suc k) [] = refl
subattributes_after-drop f (suc k) (o ∷ os) = subattributes_after-drop f k os

are_subattributes_after-drop : (f : Format) (k : ℕ) (os : List ℕ) → are_subattributes_after f k os ≡ are_subattributes_after f 0 (drop k os)
unfolding are_subattributes_after
are_subattributes_after-drop f zero os = refl
are_subattributes_after-drop f (suc k) [] = refl
are_subattributes_after-drop f (suc k) (o ∷ os) = are_subattributes_after-drop f k os

some_type : (f : Format) → is_format f.t f.l ≡ true → 1 ≤ f.t
some_type f h = go (format_of_size f.t f.l h).0
  where
    go : ((f.t ≡ 1) ⊎ ((f.t ≡ 2) ⊎ (f.t ≡ 4))) → 1 ≤ f.t
    go (inl e) = omega arith
    go (inr (inl e)) = omega arith
    go (inr (inr e)) = omega arith

-- a length counts something, and no more than there is
pub subattribute_size : (f : Format) (os : List ℕ) → is_format f.t f.l ≡ true → begins_subattribute f os ≡ true → (1 ≤ subattribute_length f os) × (subattribute_length f os ≤ length os)
subattribute_size f os h b =
    let some = some_type f h in
    let parts = and_parts (nat_le (f.t + f.l) (length os) && nat_le (f.t + f.l) (subattribute_length f os)) (nat_le (subattribute_length f os) (length os)) b in
    let counts = (and_parts (nat_le (f.t + f.l) (length os)) (nat_le (f.t + f.l) (subattribute_length f os)) parts.0).1 in
    let n : ℕ = subattribute_length f os in
    (let low : f.t + f.l ≤ n = le_of counts in omega arith, le_of parts.1)
  where
    le_of : {a b : ℕ} → nat_le a b ≡ true → a ≤ b
    le_of {a} {b} e = grind (arith, common_steps)

drop_one : (n : ℕ) (o : ℕ) (os : List ℕ) → 1 ≤ n → drop (n - 1) os ≡ drop n (o ∷ os)
drop_one zero o os h = absurd (omega arith)
drop_one (suc n) o os h = ap (λ k. drop k os) (omega arith)

-- the first one, and the others
pub subattributes_more : (f : Format) (os : List ℕ) → is_format f.t f.l ≡ true → 0 < length os → begins_subattribute f os ≡ true → subattributes f os ≡ first_subattribute f os ∷ subattributes f (drop (subattribute_length f os) os)
unfolding subattributes_after
subattributes_more f [] h some b = absurd (omega arith)
subattributes_more f (o ∷ os) h some b =
    let n : ℕ = subattribute_length f (o ∷ os) in
    rw b (ap (λ (ss : List Subattribute). first_subattribute f (o ∷ os) ∷ ss) (subattributes_after-drop f (n - 1) os ∙ ap (subattributes_after f 0) (drop_one n o os (subattribute_size f (o ∷ os) h b).0)))

pub are_subattributes_more : (f : Format) (os : List ℕ) → is_format f.t f.l ≡ true → 0 < length os → begins_subattribute f os ≡ true → are_subattributes_after f 0 os ≡ are_subattributes_after f 0 (drop (subattribute_length f os) os)
unfolding are_subattributes_after
are_subattributes_more f [] h some b = absurd (omega arith)
are_subattributes_more f (o ∷ os) h some b =
    let n : ℕ = subattribute_length f (o ∷ os) in
    rw b (are_subattributes_after-drop f (n - 1) os ∙ ap (are_subattributes_after f 0) (drop_one n o os (subattribute_size f (o ∷ os) h b).0))

-- no more
pub subattributes_none : (f : Format) (os : List ℕ) → begins_subattribute f os ≡ false → subattributes f os ≡ []
unfolding subattributes_after
subattributes_none f [] b = refl
subattributes_none f (o ∷ os) b = rw b

pub are_subattributes_none : (f : Format) (os : List ℕ) → begins_subattribute f os ≡ false → are_subattributes_after f 0 os ≡ (length os == 0)
unfolding are_subattributes_after
are_subattributes_none f [] b = refl
are_subattributes_none f (o ∷ os) b = let some : (length (o ∷ os) == 0) ≡ false = grind (arith, common_steps) in rw (b, some)

-- where one begins there are octets
pub begins_some : (f : Format) (os : List ℕ) → is_format f.t f.l ≡ true → begins_subattribute f os ≡ true → 0 < length os
begins_some f os h b = let s = subattribute_size f os h b in omega (arith, s.0, s.1)
