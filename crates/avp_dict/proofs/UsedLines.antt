-- Where all lines are kept, the used ones are all of them.
use Rattle.std.proofs.Common.{◌≡◌, Bool, true, false, ◌&&◌, cond, List, [], ◌∷◌, filter, refl, ap}
use Rattle.std.specs.List.{list_all}
use Rattle.avp_dict.specs.declared.entries.AttributeLine.{AttributeLine}
use Rattle.avp_dict.specs.declared.entries.VendorLine.{VendorLine}
use Rattle.avp_dict.specs.Settled.{is_kept_line, used}

kept_by : {X : Type 0} (b all : Bool) (x : X) (xs ys : List X) → (all ≡ true → ys ≡ xs) → (b && all) ≡ true → cond b (x ∷ ys) ys ≡ x ∷ xs
kept_by true all x xs ys h e = ap (λ zs. x ∷ zs) (h e)
kept_by false all x xs ys h e = absurd (cc)

filter_all : {X : Type 0} (test : X → Bool) (xs : List X) → list_all test xs ≡ true → filter test xs ≡ xs
filter_all test [] h = refl
filter_all test (x ∷ xs) h = kept_by (test x) (list_all test xs) x xs (filter test xs) (filter_all test xs) h

pub all_used : (vendors : List VendorLine) (lines : List AttributeLine) → list_all (is_kept_line vendors) lines ≡ true → used vendors lines ≡ lines
unfolding used
all_used vendors lines h = filter_all (is_kept_line vendors) lines h
