-- A name in lower case, sixteen octets at a time.
use Rattle.std.proofs.Common.{◌≡◌, ◌∙◌, ℕ, ◌+◌, ◌≤◌, List, [], ◌++◌, map, length, take, drop, sym, ap, arith}
use Rattle.std.proofs.lemmas.List.{append-nil, append_assoc, drop_all, drop-append-le, drop-drop, length-append, length-drop, length-map, length-take-le, map-append, take_all, take-append-drop, take-append-le, take-map}
use borrow.Rule.Slice.PartMut.{put_mid}
use Rattle.avp_dict.specs.Words.{lower}

-- so many octets from the front are in lower case
abbrev pub folded_to : ℕ → List ℕ → List ℕ
folded_to i octets = map lower (take i octets) ++ drop i octets

sixteen_more : (i : ℕ) (octets : List ℕ) → i + 16 ≤ length octets → take (i + 16) octets ≡ take i octets ++ take 16 (drop i octets)
sixteen_more i octets room =
    let front = take i octets in
    let window = take 16 (drop i octets) in
    let after = drop 16 (drop i octets) in
    let parted : (front ++ window) ++ after ≡ octets = append_assoc front window after ∙ ap (λ l. front ++ l) (take-append-drop 16 (drop i octets)) ∙ take-append-drop i octets in
    let long : length (front ++ window) ≡ i + 16 = omega (arith, length-append front window, length-take-le i octets (omega arith), length-take-le 16 (drop i octets) (omega (arith, length-drop i octets))) in
    ap (take (i + 16)) (sym parted) ∙ take-append-le (i + 16) (front ++ window) after (omega (arith, long)) ∙ take_all (i + 16) (front ++ window) (omega (arith, long))

-- sixteen more of them
pub folded_more : (whole octets folded : List ℕ) (i k : ℕ) → i + 16 ≤ length whole → length whole ≤ i + k → octets ≡ folded_to i whole → folded ≡ map lower (take 16 (take k (drop i octets))) ++ drop 16 (take k (drop i octets)) → put_mid i k octets folded ≡ folded_to (i + 16) whole
folded_more whole octets folded i k room all is put =
    let front = map lower (take i whole) in
    let rest = drop i whole in
    let many : length front ≡ i = length-map (take i whole) lower ∙ length-take-le i whole (omega (arith, room)) in
    let first : take i octets ≡ front = ap (take i) is ∙ take-append-le i front rest (omega (arith, many)) ∙ take_all i front (omega (arith, many)) in
    let ahead : drop i octets ≡ rest = ap (drop i) is ∙ drop-append-le i front rest (omega (arith, many)) ∙ ap (λ l. l ++ rest) (drop_all i front (omega (arith, many))) in
    let none : drop k (drop i octets) ≡ [] = ap (drop k) ahead ∙ drop_all k rest (omega (arith, length-drop i whole, all)) in
    let window = map lower (take 16 rest) in
    let new : folded ≡ window ++ drop (i + 16) whole = put ∙ ap (λ l. map lower (take 16 l) ++ drop 16 l) (ap (take k) ahead ∙ take_all k rest (omega (arith, length-drop i whole, all))) ∙ ap (λ l. window ++ l) (drop-drop 16 i whole) in
    ap (λ l. l ++ (folded ++ drop k (drop i octets))) first
    ∙ ap (λ l. front ++ (folded ++ l)) none
    ∙ ap (λ l. front ++ l) (append-nil folded ∙ new)
    ∙ sym (append_assoc front window (drop (i + 16) whole))
    ∙ ap (λ l. l ++ drop (i + 16) whole) (sym (map-append lower (take i whole) (take 16 rest)) ∙ ap (map lower) (sym (sixteen_more i whole room)))

-- the octets of a name, with others after them
pub folded_name : (name after octets : List ℕ) (i : ℕ) → length name ≤ i → i ≤ length (name ++ after) → octets ≡ folded_to i (name ++ after) → take (length name) octets ≡ map lower name
folded_name name after octets i some within is =
    let whole = name ++ after in
    let front = take i whole in
    let n = length name in
    let many : length front ≡ i = length-take-le i whole within in
    let begun : take n front ≡ name = sym (take-append-le n front (drop i whole) (omega (arith, many, some))) ∙ ap (take n) (take-append-drop i whole) ∙ take-append-le n name after (omega arith) ∙ take_all n name (omega arith) in
    ap (take n) is ∙ take-append-le n (map lower front) (drop i whole) (omega (arith, length-map front lower, many, some)) ∙ take-map lower n front ∙ ap (map lower) begun
