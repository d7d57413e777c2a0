use Rattle.std.proofs.Common.{◌≡◌, ◌∙◌, ℕ, ◌+◌, ◌-◌, [], ◌∷◌, rules, ap, sym, arith}
use Rattle.std.proofs.NetLemmas.Arrays.{sixteen_items}
use Rattle.avp_forms.specs.Prefixes.{first_bits, masked}
use Rattle.avp_forms.proofs.prefixes.masked_16.Goals as goal

less_twice : (n a b : ℕ) → n - a - b ≡ n - (a + b)
less_twice n a b = omega arith

sixteen : (q a b c d e f g h i j k l m n o p : ℕ) → masked q (a ∷ b ∷ c ∷ d ∷ e ∷ f ∷ g ∷ h ∷ i ∷ j ∷ k ∷ l ∷ m ∷ n ∷ o ∷ p ∷ []) ≡ first_bits q a ∷ first_bits (q - 8) b ∷ first_bits (q - 16) c ∷ first_bits (q - 24) d ∷ first_bits (q - 32) e ∷ first_bits (q - 40) f ∷ first_bits (q - 48) g ∷ first_bits (q - 56) h ∷ first_bits (q - 64) i ∷ first_bits (q - 72) j ∷ first_bits (q - 80) k ∷ first_bits (q - 88) l ∷ first_bits (q - 96) m ∷ first_bits (q - 104) n ∷ first_bits (q - 112) o ∷ first_bits (q - 120) p ∷ []
sixteen q a b c d e f g h i j k l m n o p = simp less_twice

pub returns : goal.returns
returns c =
    simp (c.first_bits.ensures, c.first_bits-2.ensures, c.first_bits-3.ensures, c.first_bits-4.ensures, c.first_bits-5.ensures, c.first_bits-6.ensures, c.first_bits-7.ensures, c.first_bits-8.ensures, c.first_bits-9.ensures, c.first_bits-10.ensures, c.first_bits-11.ensures, c.first_bits-12.ensures, c.first_bits-13.ensures, c.first_bits-14.ensures, c.first_bits-15.ensures, c.first_bits-16.ensures, c.saturating_sub.ensures, c.saturating_sub-2.ensures, c.saturating_sub-3.ensures, c.saturating_sub-4.ensures, c.saturating_sub-5.ensures, c.saturating_sub-6.ensures, c.saturating_sub-7.ensures, c.saturating_sub-8.ensures, c.saturating_sub-9.ensures, c.saturating_sub-10.ensures, c.saturating_sub-11.ensures, c.saturating_sub-12.ensures, c.saturating_sub-13.ensures, c.saturating_sub-14.ensures, c.saturating_sub-15.ensures)
    (sym (ap (masked c.args.length) (sixteen_items c.args.octets (search rules)) ∙ sixteen c.args.length _ _ _ _ _ _ _ _ _ _ _ _ _ _ _ _))
