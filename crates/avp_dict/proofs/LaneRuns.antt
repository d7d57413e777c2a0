-- From the marks of sixteen octets to the octets that pass a test.
use Rattle.std.proofs.Common.{eqb, inl, inr, sym, zero, suc, get_or, Fits, ◌*◌, ◌&&◌, ap₂, ◌≡◌, ℕ, ◌+◌, ◌≤◌, ◌^◌, ◌%◌, Bool, true, false, not, cond, List, [], ◌∷◌, ◌++◌, map, replicate, length, take, drop, refl, ap, ◌∙◌, arith, one-add}
use Rattle.std.proofs.lemmas.Bool.{agree_below, agree_below_at, cases_eq, eqb-true, ne_eqb}
use Rattle.std.proofs.lemmas.List.{length-map}
use Rattle.std.proofs.lemmas.Simd.{bitmask_splat, chunk-fits, first_set_mask_l, length-chunk, map-map, mask_l-mod, put_chunk_is}
use Rattle.std.specs.List.{list_all, prefix_len}
use Rattle.std.specs.Int.{w8}
use lib.Lanes.{Each1, chunk, mask_l, put_chunk, sel_l, top, zip2}
use Rattle.avp_dict.specs.internal.Lanes.{first_marked}

-- where a comparison with one octet marks lanes
pub first_compared : (test : ℕ → ℕ → Bool) (octet : ℕ) (text : List ℕ) → 16 ≤ length text → first_marked (mask_l (map (top 7) (zip2 (λ a b. cond (test a b) 255 0) (chunk 0 16 text) (replicate 16 octet))) % 2 ^ 64) ≡ prefix_len (λ x. not (test x octet)) (take 16 text)
first_compared test octet text room =
    let long : length (chunk 0 16 text) ≡ 16 = length-chunk 0 16 text (omega arith) in
    ap first_marked (bitmask_splat w8 test (chunk 0 16 text) 16 octet long (omega arith))
    ∙ first_set_mask_l (λ x. test x octet) (chunk 0 16 text) 16 long (omega arith)

-- octets that pass one test, at the front of those that pass another
pub run_first : (p q : ℕ → Bool) → ((o : ℕ) → p o ≡ true → q o ≡ true) → (n : ℕ) (text : List ℕ) → prefix_len q text ≡ prefix_len p (take n text) + prefix_len q (drop (prefix_len p (take n text)) text)
run_first p q passes zero text = omega arith
run_first p q passes (suc n) [] = refl
run_first p q passes (suc n) (o ∷ os) = at (p o) refl (run_first p q passes n os)
  where
    front : List ℕ
    front = take n os

    at : (b : Bool) → p o ≡ b → prefix_len q os ≡ prefix_len p front + prefix_len q (drop (prefix_len p front) os) → prefix_len q (o ∷ os) ≡ cond b (1 + prefix_len p front) 0 + prefix_len q (drop (cond b (1 + prefix_len p front) 0) (o ∷ os))
    at true is later =
        let r = prefix_len p front in
        let left : prefix_len q (drop (1 + r) (o ∷ os)) ≡ prefix_len q (drop r os) = rw one-add refl in
        let whole : 1 + prefix_len q os ≡ (1 + r) + prefix_len q (drop (1 + r) (o ∷ os)) = omega (arith, later, left) in
        rw (passes o is) whole
    at false is later = omega arith

unmarked : (p : ℕ → Bool) (octets : List ℕ) → eqb (mask_l (map p octets)) 0 ≡ list_all (λ x. not (p x)) octets
unmarked p [] = refl
unmarked p (o ∷ os) = at (p o) refl (unmarked p os)
  where
    m : ℕ
    m = mask_l (map p os)

    at : (b : Bool) → p o ≡ b → eqb m 0 ≡ list_all (λ x. not (p x)) os → eqb (cond b 1 0 + 2 * m) 0 ≡ (not b && list_all (λ x. not (p x)) os)
    at true is later = ne_eqb (1 + 2 * m) 0 (omega arith)
    at false is later = twice m ∙ later
      where
        twice : (n : ℕ) → eqb (0 + 2 * n) 0 ≡ eqb n 0
        twice n = elim (cases_eq n 0) [ inl none ↦ rw none refl | inr some ↦ ne_eqb (0 + 2 * n) 0 (omega arith) ∙ sym (ne_eqb n 0 some) ]

agreeing : (stops q : ℕ → Bool) → agree_below stops (λ x. not (q x)) 256 ≡ true → (octets : List ℕ) → Each1 (Fits w8) octets → list_all (λ x. not (stops x)) octets ≡ list_all q octets
agreeing stops q all [] fit = refl
agreeing stops q all (o ∷ os) fit = at (q o) refl (agreeing stops q all os fit.1)
  where
    at : (b : Bool) → q o ≡ b → list_all (λ x. not (stops x)) os ≡ list_all q os → list_all (λ x. not (stops x)) (o ∷ os) ≡ (b && list_all q os)
    at b is later = ap₂ (λ x y. not x && y) (agree_below_at stops (λ x. not (q x)) 256 o all fit.0.fits ∙ ap not is) later ∙ ap (λ x. x && list_all q os) (twice b)
      where
        twice : (x : Bool) → not (not x) ≡ x
        twice true = refl
        twice false = refl

-- no lane is marked where each octet passes q, if a lane is marked just where q fails
pub none_marked : (q : ℕ → Bool) (f : ℕ → ℕ) (text z : List ℕ) → 16 ≤ length text → ((k : ℕ) → Fits w8 (get_or text k 0)) → z ≡ map f (chunk 0 16 text) → agree_below (λ x. top 7 (f x)) (λ x. not (q x)) 256 ≡ true → eqb (mask_l (map (top 7) z) % 2 ^ 64) 0 ≡ list_all q (take 16 text)
none_marked q f text z room fits lanes all =
    let v = chunk 0 16 text in
    let stops : ℕ → Bool = λ x. top 7 (f x) in
    let long : length v ≡ 16 = length-chunk 0 16 text (omega arith) in
    let mask = ap (λ l. mask_l l % 2 ^ 64) (ap (map (top 7)) lanes ∙ map-map (top 7) f v) ∙ mask_l-mod (map stops v) 64 (omega (arith, length-map v stops, long)) in
    ap (λ m. eqb m 0) mask ∙ unmarked stops v ∙ agreeing stops q all v (chunk-fits w8 0 16 text fits)

-- lanes of two vectors, each computed from vs, by marks that are computed from vs
selected : (m : ℕ → Bool) (f : ℕ → ℕ) (vs : List ℕ) → sel_l (map m vs) (map f vs) vs ≡ map (λ x. cond (m x) (f x) x) vs
selected m f [] = refl
selected m f (v ∷ vs) = ap (λ l. cond (m v) (f v) v ∷ l) (selected m f vs)

-- lanes that are the same for every octet
same_lanes : (f g : ℕ → ℕ) → agree_below (λ x. eqb (f x) (g x)) (λ _. true) 256 ≡ true → (octets : List ℕ) → Each1 (Fits w8) octets → map f octets ≡ map g octets
same_lanes f g all [] fit = refl
same_lanes f g all (o ∷ os) fit = ap₂ (λ x l. x ∷ l) (eqb-true (f o) (g o) (agree_below_at (λ x. eqb (f x) (g x)) (λ _. true) 256 o all fit.0.fits)) (same_lanes f g all os fit.1)

-- the first sixteen octets of a text, of which those that are marked are put as f has them, if each octet is then as g
-- has it
pub sixteen_put : (m : ℕ → ℕ) (f g : ℕ → ℕ) (text z others : List ℕ) → 16 ≤ length text → ((k : ℕ) → Fits w8 (get_or text k 0)) → z ≡ map m (chunk 0 16 text) → others ≡ map f (chunk 0 16 text) → agree_below (λ x. eqb (cond (top 7 (m x)) (f x) x) (g x)) (λ _. true) 256 ≡ true → put_chunk 0 text (sel_l (map (top 7) z) others (chunk 0 16 text)) ≡ map g (take 16 text) ++ drop 16 text
sixteen_put m f g text z others room fits marks puts all =
    let v = chunk 0 16 text in
    let long : length v ≡ 16 = length-chunk 0 16 text (omega (arith, room)) in
    let lanes : sel_l (map (top 7) z) others v ≡ map g v = ap₂ (λ ms fs. sel_l ms fs v) (ap (map (top 7)) marks ∙ map-map (top 7) m v) puts ∙ selected (λ x. top 7 (m x)) f v ∙ same_lanes (λ x. cond (top 7 (m x)) (f x) x) g all v (chunk-fits w8 0 16 text fits) in
    let many : length (map g v) ≡ 16 = length-map v g ∙ long in
    ap (put_chunk 0 text) lanes ∙ put_chunk_is 0 text (map g v) (omega (arith, many, room)) ∙ ap (λ n. map g v ++ drop n text) many
