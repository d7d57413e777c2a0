-- Numbers that are too great.
use Rattle.std.proofs.Common.{◌≡◌, ℕ, ◌+◌, ◌*◌, ◌<◌, ◌≤◌, Bool, true, false, ltb, cond, List, [], ◌∷◌, Option, None, refl, arith, le-mul_of_pos_right}
use Rattle.std.specs.Char.{digit_value}
use Rattle.avp_dict.specs.Spellings.{up_to}
use Rattle.avp_dict.specs.Words.{number_after}

-- more digits make no number smaller
grown : (base n d : ℕ) → d < base → n ≤ n * base + d
grown base n d h =
    let some : 0 < base = omega arith in
    let more : n ≤ n * base = le-mul_of_pos_right n some in
    omega arith

too_great_by : (b : Bool) (most : ℕ) (number : Option ℕ) → (b ≡ true → up_to most number ≡ None) → up_to most (cond b number None) ≡ None
too_great_by true most number h = h refl
too_great_by false most number h = refl

pub too_great : (base most n : ℕ) (text : List ℕ) → most < n → up_to most (number_after base n text) ≡ None
too_great base most n [] h = grind arith
too_great base most n (o ∷ os) h =
    too_great_by (ltb (digit_value o) base) most (number_after base (n * base + digit_value o) os)
    (λ below.
    let less : digit_value o < base = grind (arith, below) in
    let more = grown base n (digit_value o) less in
    too_great base most (n * base + digit_value o) os (omega arith))
