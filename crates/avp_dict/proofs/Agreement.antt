-- Two lines that give a name different things do so in either order.
use Rattle.std.proofs.Common.{◌≡◌, ℕ, true, false, not, ◌&&◌, ◌==◌, List, [], ◌∷◌, refl, ap₂, arith}
use Rattle.avp_lists.specs.declared.pairs.AttrId.{AttrId}
use Rattle.avp_lists.specs.declared.pairs.AttrId.TheVariants.{Plain, Vendor, Extended}
use Rattle.avp_lists.specs.Pairs.{id_eq}
use Rattle.avp_dict.specs.Words.{lower, same_name}

eqb_sym : (a b : ℕ) → (a == b) ≡ (b == a)
eqb_sym a b = grind arith

pub same_name_sym : (a b : List ℕ) → same_name a b ≡ same_name b a
same_name_sym [] [] = refl
same_name_sym [] (y ∷ ys) = refl
same_name_sym (x ∷ xs) [] = refl
same_name_sym (x ∷ xs) (y ∷ ys) = ap₂ (λ b c. b && c) (eqb_sym (lower x) (lower y)) (same_name_sym xs ys)

pub same_name_refl : (a : List ℕ) → same_name a a ≡ true
same_name_refl [] = refl
same_name_refl (x ∷ xs) = let e = same_name_refl xs in grind (arith, e)

pub id_eq_sym : (a b : AttrId) → id_eq a b ≡ id_eq b a
id_eq_sym (Plain a) (Plain b) = eqb_sym a b
id_eq_sym (Vendor a x) (Vendor b y) = ap₂ (λ b c. b && c) (eqb_sym a b) (eqb_sym x y)
id_eq_sym (Extended a x) (Extended b y) = ap₂ (λ b c. b && c) (eqb_sym a b) (eqb_sym x y)
id_eq_sym _ _ = refl

pub other_id_sym : (n m : List ℕ) (i j : AttrId) → (same_name m n && not (id_eq j i)) ≡ false → (same_name n m && not (id_eq i j)) ≡ false
other_id_sym n m i j h = rw (same_name_sym n m, id_eq_sym i j) h

pub other_vendor_sym : (n m : List ℕ) (v w : ℕ) → (same_name m n && not (w == v)) ≡ false → (same_name n m && not (v == w)) ≡ false
other_vendor_sym n m v w h = rw (same_name_sym n m, eqb_sym v w) h

pub other_value_sym : (i j : AttrId) (n m : List ℕ) (v w : ℕ) → (id_eq j i && same_name m n && not (w == v)) ≡ false → (id_eq i j && same_name n m && not (v == w)) ≡ false
other_value_sym i j n m v w h = rw (id_eq_sym i j, same_name_sym n m, eqb_sym v w) h
