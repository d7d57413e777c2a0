-- The pairs at the places that are kept, and which of them is the first that passes a test.
use Rattle.std.proofs.Common.{◌≡◌, ℕ, ◌+◌, ◌<◌, Bool, true, false, ◌&&◌, List, [], ◌∷◌, ◌++◌, length, get_or, take, drop, map, refl, sym, ap, ◌∙◌, arith, append-nil, length-append}
use Rattle.std.specs.Prelude.{reverse}
use Rattle.std.specs.List.{filter, list_any}
use Rattle.std.proofs.lemmas.List.{length-map, length-reverse, length-take-le, take-append-drop}
use Rattle.avp_lists.specs.declared.pairs.Pair.{Pair}
use Rattle.avp_lists.specs.declared.lists.List.{List as WhichList}
use Rattle.avp_lists.specs.declared.live.Live.{Live}
use Rattle.avp_lists.specs.declared.slots.End.{End}
use Rattle.avp_lists.specs.declared.slots.End.TheVariants.{Head, Tail}
use Rattle.avp_lists.specs.declared.slots.Slot.{Slot}
use Rattle.avp_lists.specs.internal.Live.{live_at, AreLive, AllLive}
use Rattle.avp_lists.specs.internal.Plans.{places_in}
use Rattle.avp_lists.specs.internal.Shown.{entered_at, shows, shows_at, shows_passing_at, pair_at, passes_at, slot_pair, shown_pairs_at, shown_pairs}
use Rattle.avp_lists.specs.internal.Slots.{slot_at}
use Rattle.avp_lists.proofs.LivePlaces.{length-places}
use Rattle.avp_lists.proofs.LiveTurns.{live_where}
use Rattle.avp_lists.proofs.PlacesInOrder.{place-within, place-passes, place-front, place-back, all-live, slots-at-places, any-part}

pub at-live : (end : End) (which : WhichList) (c : List Slot) (xs : List ℕ) → xs ≡ places_in (shows_at end which) 0 c → AllLive c xs
at-live end which c xs is = all-live (shows_at end which) (live_where end which) c xs is

-- the pairs
map-pairs : (pool : List Pair) (c : List Slot) (xs : List ℕ) → map (pair_at pool c) xs ≡ map (slot_pair pool) (map (slot_at c) xs)
map-pairs pool c [] = refl
map-pairs pool c (x ∷ xs) = ap (λ (ps : List Pair). pair_at pool c x ∷ ps) (map-pairs pool c xs)

pub live-pairs : (end : End) (which : WhichList) (pool : List Pair) (c : List Slot) (xs : List ℕ) → xs ≡ places_in (shows_at end which) 0 c → map (pair_at pool c) xs ≡ shown_pairs_at end which pool c
live-pairs end which pool c xs is =
    ap (map (pair_at pool c)) is
    ∙ map-pairs pool c (places_in (shows_at end which) 0 c)
    ∙ ap (map (slot_pair pool)) (slots-at-places (shows_at end which) c)

-- their number
pub count-end : (end : End) (which : WhichList) (c : List Slot) (l : Live) → AreLive c l → length (live_at end which l).items ≡ length (filter (shows_at end which) c)
count-end end which c l live = ap length (live end which) ∙ length-places (shows_at end which) 0 c

pub count-live : (which : WhichList) (pool : List Pair) (c : List Slot) (l : Live) → AreLive c l → length (live_at Head which l).items + length (live_at Tail which l).items ≡ length (shown_pairs which pool c)
count-live which pool c l live =
    let heads = shown_pairs_at Head which pool c in
    let tails = shown_pairs_at Tail which pool c in
    let h : length heads ≡ length (live_at Head which l).items = length-map (filter (shows_at Head which) c) (slot_pair pool) ∙ sym (count-end Head which c l live) in
    let t : length tails ≡ length (live_at Tail which l).items = length-map (filter (shows_at Tail which) c) (slot_pair pool) ∙ sym (count-end Tail which c l live) in
    omega (arith, h, t, length-append (reverse heads) tails, length-reverse heads)

-- one that passes a test
and_assoc : (a b x : Bool) → ((a && b) && x) ≡ (a && (b && x))
and_assoc true b x = refl
and_assoc false b x = refl

with-test : (end : End) (which : WhichList) (test : Pair → Bool) (pool : List Pair) (s : Slot) → (shows_at end which s && test (slot_pair pool s)) ≡ shows_passing_at end which test pool s
with-test end which test pool s = and_assoc (entered_at end s) (shows which s) (test (slot_pair pool s))

both : (a b : Bool) → a ≡ true → b ≡ true → (a && b) ≡ true
both a b ha hb = rw (ha, hb) refl

module _ (end : End) (which : WhichList) (test : Pair → Bool) (pool : List Pair) (c : List Slot) where
  abbrev pub p : Slot → Bool
  p = shows_at end which

  abbrev pub h : Slot → Bool
  h s = test (slot_pair pool s)

  abbrev pub g : Slot → Bool
  g = shows_passing_at end which test pool

  pub any-all : list_any (passes_at test pool c) (places_in p 0 c) ≡ list_any g c
  any-all = any-part p h g (with-test end which test pool) [] c [] c (append-nil c)

  pub found-at : (k : ℕ) → k < length (places_in p 0 c) → passes_at test pool c (get_or (places_in p 0 c) k 0) ≡ true → g (slot_at c (get_or (places_in p 0 c) k 0)) ≡ true
  found-at k lt found =
      let s = slot_at c (get_or (places_in p 0 c) k 0) in
      sym (with-test end which test pool s) ∙ both (p s) (h s) (place-passes p c k lt) found

  pub any-front : (k : ℕ) → k < length (places_in p 0 c) → list_any (passes_at test pool c) (take k (places_in p 0 c)) ≡ list_any g (take (get_or (places_in p 0 c) k 0) c)
  any-front k lt =
      let at = get_or (places_in p 0 c) k 0 in
      ap (list_any (passes_at test pool c)) (place-front p c k lt)
      ∙ any-part p h g (with-test end which test pool) [] (take at c) (drop at c) c (take-append-drop at c)

  pub any-back : (k : ℕ) → k < length (places_in p 0 c) → list_any (passes_at test pool c) (drop (k + 1) (places_in p 0 c)) ≡ list_any g (drop (get_or (places_in p 0 c) k 0 + 1) c)
  any-back k lt =
      let at = get_or (places_in p 0 c) k 0 in
      let d = drop (at + 1) c in
      let f = take (at + 1) c in
      let within : at < length c = place-within p c k lt in
      let long : length f ≡ at + 1 = length-take-le (at + 1) c (omega (arith, within)) in
      ap (list_any (passes_at test pool c)) (place-back p c k lt)
      ∙ ap (λ (n : ℕ). list_any (passes_at test pool c) (places_in p n d)) (sym long)
      ∙ any-part p h g (with-test end which test pool) f d [] c (ap (λ (xs : List Slot). f ++ xs) (append-nil d) ∙ take-append-drop (at + 1) c)
