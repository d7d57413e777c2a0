-- Proofs by the answer of a test.
use Rattle.std.proofs.Common.{◌≡◌, Bool, true, false, refl}

pub by_test : (P : Type 0) (b : Bool) → (b ≡ true → P) → (b ≡ false → P) → P
by_test P true t f = t refl
by_test P false t f = f refl
