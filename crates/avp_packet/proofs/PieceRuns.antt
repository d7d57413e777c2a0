-- Runs of pieces.
use Rattle.std.proofs.Common.{◌≡◌, ◌∙◌, ℕ, ◌-◌, ◌≤◌, true, false, ◌==◌, nat_le, suc, cond, subst, List, [], ◌∷◌, ◌++◌, length, drop, Option, Some, None, refl, sym, ap, arith, append_assoc}
use Rattle.std.specs.Option.{option_and_then, option_map}
use Rattle.std.proofs.lemmas.Grind.{common_steps}
use Rattle.std.proofs.lemmas.List.{drop_all, length-drop}
use Rattle.avp_packet.specs.Meanings.{Piece, Run, joined, piece_of, run, run_with, first_run, extended_type}
use Rattle.avp_packet.specs.Splitting.{Part, parts, part_octets}
use Rattle.avp_packet.specs.ExtendedTypes.{piece_octets}
use Rattle.avp_packet.proofs.Tests.{by_test}
use Rattle.avp_packet.proofs.Splits.{parts-octets}

-- the first piece
pub run-some : (t number : ℕ) (p : Part) (ps : List Part) (piece : Piece) → piece_of t number p ≡ Some piece → run t number (p ∷ ps) ≡ run_with piece ps (run t number ps)
unfolding run
run-some t number p ps piece h = rw h

-- no piece
pub run-none : (t number : ℕ) (p : Part) (ps : List Part) → piece_of t number p ≡ None → run t number (p ∷ ps) ≡ None
unfolding run
run-none t number p ps h = rw h

pub run-nil : (t number : ℕ) → run t number [] ≡ None
unfolding run
run-nil t number = refl

-- a last piece after what was joined before
pub joined-last : (so_far : List ℕ) (piece : Piece) (ps : List Part) (following : Option Run) → piece.more ≡ false → option_map (joined so_far) (run_with piece ps following) ≡ Some (record { os = so_far ++ piece.os; rest = ps })
joined-last so_far piece ps following h = rw h

-- a full piece after what was joined before
pub joined-more : (so_far : List ℕ) (piece : Piece) (ps : List Part) (following : Option Run) → piece.more ≡ true → length piece.os ≡ piece_octets → option_map (joined so_far) (run_with piece ps following) ≡ option_map (joined (so_far ++ piece.os)) following
joined-more so_far piece ps following h e =
    let full : (length piece.os == piece_octets) ≡ true = grind (arith, common_steps) in
    rw (h, full) (go following)
  where
    go : (o : Option Run) → option_map (joined so_far) (option_map (joined piece.os) o) ≡ option_map (joined (so_far ++ piece.os)) o
    go None = refl
    go (Some r) = ap (λ (os : List ℕ). Some (record { os = os; rest = r.rest })) (sym (append_assoc so_far piece.os r.os))

-- a piece that is not full, and not the last one
pub joined-short : (so_far : List ℕ) (piece : Piece) (ps : List Part) (following : Option Run) → piece.more ≡ true → (length piece.os == piece_octets) ≡ false → option_map (joined so_far) (run_with piece ps following) ≡ None
joined-short so_far piece ps following h e = rw (h, e)

-- ---- what a run leaves

dropped_again : (k : ℕ) (ps : List Part) → drop (length ps - length (drop k ps)) ps ≡ drop k ps
dropped_again k ps =
    let e = length-drop k ps in
    by_test (drop (length ps - length (drop k ps)) ps ≡ drop k ps) (nat_le k (length ps))
    (λ h. let low : k ≤ length ps = grind (arith, common_steps) in ap (λ n. drop n ps) (omega arith))
    (λ h. let high : length ps ≤ k = grind (arith, common_steps) in
    drop_all (length ps - length (drop k ps)) ps (omega arith) ∙ sym (drop_all k ps high))

-- what a run leaves is after its first attribute
abbrev IsAfter : List Part → Option Run → Type 0
IsAfter ps None = Unit {0}
IsAfter ps (Some r) = (k : ℕ) × (drop k ps ≡ r.rest)

after_with : (piece : Piece) (ps : List Part) (following : Option Run) → IsAfter ps following → IsAfter ps (run_with piece ps following)
after_with piece ps following h =
    elim piece.more as (λ b. IsAfter ps (cond b (cond (length piece.os == piece_octets) (option_map (joined piece.os) following) None) (Some (record { os = piece.os; rest = ps })))) [
      | true ↦ elim (length piece.os == piece_octets) as (λ b. IsAfter ps (cond b (option_map (joined piece.os) following) None)) [ true ↦ go following h | false ↦ tt ]
      | false ↦ (0, refl)
    ]
  where
    go : (o : Option Run) → IsAfter ps o → IsAfter ps (option_map (joined piece.os) o)
    go None k = tt
    go (Some r) k = k

after_more : (p : Part) (ps : List Part) (o : Option Run) → IsAfter ps o → IsAfter (p ∷ ps) o
after_more p ps None h = tt
after_more p ps (Some r) h = (suc h.0, h.1)

run_after : (t number : ℕ) (p : Part) (ps : List Part) → IsAfter ps (run t number (p ∷ ps))
unfolding run
run_after t number p [] = go (piece_of t number p)
  where
    go : (o : Option Piece) → IsAfter [] (option_and_then (λ piece. run_with piece [] None) o)
    go None = tt
    go (Some piece) = after_with piece [] None tt
run_after t number p (q ∷ ps) = go (piece_of t number p) (after_more q ps (run t number (q ∷ ps)) (run_after t number q ps))
  where
    go : (o : Option Piece) → IsAfter (q ∷ ps) (run t number (q ∷ ps)) → IsAfter (q ∷ ps) (option_and_then (λ piece. run_with piece (q ∷ ps) (run t number (q ∷ ps))) o)
    go None h = tt
    go (Some piece) h = after_with piece (q ∷ ps) (run t number (q ∷ ps)) h

-- the attributes that a run goes on in are those before what it leaves
pub run_rest : (t number : ℕ) (p : Part) (ps : List Part) (r : Run) → run t number (p ∷ ps) ≡ Some r → r.rest ≡ drop (length ps - length r.rest) ps
run_rest t number p ps r e =
    let P : Option Run → Type 0 = λ o. IsAfter ps o in
    let h : (k : ℕ) × (drop k ps ≡ r.rest) = subst P e (run_after t number p ps) in
    sym (ap (λ (rest : List Part). drop (length ps - length rest) ps) (sym h.1) ∙ dropped_again h.0 ps ∙ h.1)

-- the run of octets is that of their first attribute and those after it
pub first_run_in : (octets rest : List ℕ) (p : Part) (number : ℕ) → octets ≡ part_octets p ++ rest → number ≡ extended_type p → first_run p (parts rest) ≡ run p.number number (parts octets)
first_run_in octets rest p number e same = ap (λ n. run p.number n (p ∷ parts rest)) (sym same) ∙ ap (run p.number number) (sym (ap parts e ∙ parts-octets p rest))
