-- The places kept for the lists, after a turn, an exchange of pairs, a cut and a slot more.
use Rattle.std.proofs.Common.{◌≡◌, ℕ, ◌+◌, ◌<◌, ◌≤◌, Bool, true, false, not, ◌&&◌, cond, Option, Some, None, List, [], ◌∷◌, ◌++◌, length, take, refl, sym, ap, ◌∙◌, subst, arith, append-nil, length-append}
use Rattle.std.specs.Prelude.{vec_capacity}
use Rattle.std.specs.List.{filter, insert}
use Rattle.std.specs.Option.{option_to_list}
use Rattle.std.proofs.lemmas.List.{take_more, length-take, length-take-le}
use Rattle.std.proofs.lemmas.List.Edits.{insert_end}
use Rattle.std.proofs.lemmas.List.Elements.{filter-append}
use Rattle.avp_lists.specs.declared.lists.List.{List as WhichList}
use Rattle.avp_lists.specs.declared.lists.List.TheVariants.{Request, Reply, Control}
use Rattle.avp_lists.specs.declared.live.Live.{Live}
use Rattle.avp_lists.specs.declared.slots.End.{End}
use Rattle.avp_lists.specs.declared.slots.End.TheVariants.{Head, Tail}
use Rattle.avp_lists.specs.declared.slots.Slot.{Slot}
use Rattle.avp_lists.specs.declared.steps.Step.{Step}
use Rattle.avp_lists.specs.internal.Steps.{slots_at, step_at, AllHoused}
use Rattle.avp_lists.specs.internal.Live.{live_at, before, turned_place, entered_in, LiveRoom, LiveTurned, AreLive, HaveRoom, AllBelow, AddsDark, HasRoomFor}
use Rattle.avp_lists.specs.internal.Plans.{places_in}
use Rattle.avp_lists.specs.internal.Shown.{same_list, same_end, shows_at}
use Rattle.avp_lists.specs.internal.Slots.{no_slot, slot_at, flipped, turn, Housed}
use Rattle.avp_lists.proofs.Edited.{same_itself, and_first, and_second}
use Rattle.avp_lists.proofs.Finding.{end_is}
use Rattle.avp_lists.proofs.Lengths.{filter_short}
use Rattle.avp_lists.proofs.LivePlaces.{places-append, length-places, places-cut, all-before, places-turned_at, places-same_at}
use Rattle.avp_lists.proofs.LiveRoom.{fewer, strictly_fewer, fewer-take, shows-entered}

-- a slot shows its pair in the list that it entered, at that end
and_on : (a l b : Bool) → (a && b) ≡ true → (a && (l && b)) ≡ l
and_on true true true h = refl
and_on true false true h = refl
and_on true l false h = cc
and_on false l b h = cc

and_off : (a l b : Bool) → (a && b) ≡ false → (a && (l && b)) ≡ false
and_off true true b h = h
and_off true false b h = refl
and_off false l b h = refl

pub shown_where : (e : End) (w : WhichList) (s : Slot) → entered_in e w s ≡ true → shows_at e w s ≡ s.mark.live
shown_where e w s h = and_on (same_end e s.end) s.mark.live (same_list w s.list) h

pub hidden_where : (e : End) (w : WhichList) (s : Slot) → entered_in e w s ≡ false → shows_at e w s ≡ false
hidden_where e w s h = and_off (same_end e s.end) s.mark.live (same_list w s.list) h

shows-live : (a l b : Bool) → (a && (l && b)) ≡ true → l ≡ true
shows-live true true b h = refl
shows-live true false b h = cc
shows-live false l b h = cc

pub live_where : (e : End) (w : WhichList) (s : Slot) → shows_at e w s ≡ true → s.mark.live ≡ true
live_where e w s h = shows-live (same_end e s.end) s.mark.live (same_list w s.list) h

hide : (a l b : Bool) → l ≡ false → (a && (l && b)) ≡ false
hide true l b h = rw h refl
hide false l b h = refl

dark_where : (e : End) (w : WhichList) (s : Slot) → s.mark.live ≡ false → shows_at e w s ≡ false
dark_where e w s h = hide (same_end e s.end) s.mark.live (same_list w s.list) h

not-swap : (a b : Bool) → b ≡ not a → a ≡ not b
not-swap true b h = ap not (sym h)
not-swap false b h = ap not (sym h)

-- a turn
turned-one : (e : End) (w : WhichList) (c : List Slot) (i : ℕ) (b : Bool) → i < length c → b ≡ not (slot_at c i).mark.live → (t : Bool) → entered_in e w (slot_at c i) ≡ t → cond t (turned_place i b (places_in (shows_at e w) 0 c)) (places_in (shows_at e w) 0 c) ≡ places_in (shows_at e w) 0 (turn c i)
turned-one e w c i b within is true h =
    let s = slot_at c i in
    places-turned_at (shows_at e w) c i (flipped s) b within (shown_where e w s h ∙ not-swap s.mark.live b is) (shown_where e w (flipped s) h ∙ sym is)
turned-one e w c i b within is false h =
    let s = slot_at c i in
    sym (places-same_at (shows_at e w) c i (flipped s) (hidden_where e w s h ∙ sym (hidden_where e w (flipped s) h)))

pub live-turned : (c : List Slot) (i : ℕ) (b : Bool) (old new : Live) → i < length c → b ≡ not (slot_at c i).mark.live → AreLive c old → LiveTurned (slot_at c i).end (slot_at c i).list i b old new → AreLive (turn c i) new
live-turned c i b old new within is live turned e w =
    turned e w
    ∙ ap (λ (xs : List ℕ). cond (entered_in e w (slot_at c i)) (turned_place i b xs) xs) (live e w)
    ∙ turned-one e w c i b within is (entered_in e w (slot_at c i)) refl

-- room for one more
same_end-itself : (e : End) → same_end e e ≡ true
same_end-itself Head = refl
same_end-itself Tail = refl

pub entered-own : (s : Slot) → entered_in s.end s.list s ≡ true
entered-own s = rw (same_end-itself s.end, same_itself s.list) refl

pub room-for : (c : List Slot) (i : ℕ) (l : Live) → i < length c → (slot_at c i).mark.live ≡ false → AreLive c l → HaveRoom c l → length (live_at (slot_at c i).end (slot_at c i).list l).items < vec_capacity (live_at (slot_at c i).end (slot_at c i).list l)
room-for c i l within off live room =
    let s = slot_at c i in
    let p = shows_at s.end s.list in
    let q = entered_in s.end s.list in
    let here = entered-own s in
    let few : length (filter p c) < length (filter q c) = strictly_fewer p q (shows-entered s.end s.list) c i within (shown_where s.end s.list s here ∙ off) here in
    omega (arith, few, ap length (live s.end s.list) ∙ length-places p 0 c, room s.end s.list)

pub room-kept : (c : List Slot) (old new : Live) → LiveRoom old new → HaveRoom c old → HaveRoom c new
room-kept c old new more room e w = omega (arith, room e w, more e w)

-- a cut, and a slot more that shows nothing
pub live-cut : (n : ℕ) (c : List Slot) (l : Live) → AllBelow n c → AreLive c l → AreLive (take n c) l
live-cut n c l below live e w = live e w ∙ sym (places-cut (shows_at e w) n c (λ i h. below i (live_where e w (slot_at c i) h)))

added-none : (e : End) (w : WhichList) (n : ℕ) (o : Option Slot) → AddsDark o → places_in (shows_at e w) n (option_to_list o) ≡ []
added-none e w n None dark = refl
added-none e w n (Some s) dark =
    ap (λ (b : Bool). cond b (n ∷ []) []) (dark_where e w s dark)

pub live-added : (n : ℕ) (c : List Slot) (o : Option Slot) (l : Live) → AllBelow n c → AddsDark o → AreLive c l → AreLive (take n c ++ option_to_list o) l
live-added n c o l below dark live e w =
    let p = shows_at e w in
    live-cut n c l below live e w
    ∙ sym (append-nil (places_in p 0 (take n c)))
    ∙ ap (λ (xs : List ℕ). places_in p 0 (take n c) ++ xs) (sym (added-none e w (0 + length (take n c)) o dark))
    ∙ sym (places-append p 0 (take n c) (option_to_list o))

pub room-added : (n : ℕ) (c : List Slot) (o : Option Slot) (l : Live) → HasRoomFor n o l → HaveRoom c l → HaveRoom (take n c ++ option_to_list o) l
room-added n c None l more room e w =
    let q = entered_in e w in
    let all = ap (λ (xs : List Slot). length (filter q xs)) (append-nil (take n c)) in
    omega (arith, all, fewer-take q n c, room e w)
room-added n c (Some s) l more room e w =
    let q = entered_in e w in
    let parts = ap length (filter-append q (take n c) (s ∷ [])) ∙ length-append (filter q (take n c)) (filter q (s ∷ [])) in
    let cut = fewer-take q n c in
    let short = filter_short q (take n c) in
    let least = length-take n c in
    elim (q s) as (λ b. q s ≡ b → length (filter q (take n c ++ s ∷ [])) ≡ length (filter q (take n c)) + length (cond b (s ∷ []) []) → length (filter q (take n c ++ s ∷ [])) ≤ vec_capacity (live_at e w l)) [
      | true ↦ λ h sum.
          let own = entered-there e w s h in
          let room_here : n < vec_capacity (live_at e w l) = let P : End → WhichList → Type 0 = λ a b. n < vec_capacity (live_at a b l) in let Q : End → Type 0 = λ a. P a w in subst Q (sym own.0) (let R : WhichList → Type 0 = λ b. P s.end b in subst R (sym own.1) more) in
          omega (arith, sum, short, least, room_here)
      | false ↦ λ h sum. omega (arith, sum, cut, room e w)
    ] refl parts
  where
    same_list-is : (a b : WhichList) → same_list a b ≡ true → a ≡ b
    same_list-is Request Request h = refl
    same_list-is Reply Reply h = refl
    same_list-is Control Control h = refl
    same_list-is Request Reply h = cc
    same_list-is Request Control h = cc
    same_list-is Reply Request h = cc
    same_list-is Reply Control h = cc
    same_list-is Control Request h = cc
    same_list-is Control Reply h = cc

    entered-there : (e : End) (w : WhichList) (s : Slot) → entered_in e w s ≡ true → (e ≡ s.end) × (w ≡ s.list)
    entered-there e w s h =
        let end = same_end e s.end in
        let list = same_list w s.list in
        (sym (end_is e s.end (and_first end list h)), same_list-is w s.list (and_second end list h))

-- the places put in one after another
filled-one : (e : End) (w : WhichList) (c : List Slot) (i : ℕ) → i < length c → (slot_at c i).mark.live ≡ true → (t : Bool) → entered_in e w (slot_at c i) ≡ t → cond t (turned_place i true (places_in (shows_at e w) 0 (take i c))) (places_in (shows_at e w) 0 (take i c)) ≡ places_in (shows_at e w) 0 (take (i + 1) c)
filled-one e w c i within on t h =
    let p = shows_at e w in
    let s = slot_at c i in
    let xs = places_in p 0 (take i c) in
    let long : length (take i c) ≡ i = length-take-le i c (omega (arith, within)) in
    let more : places_in p 0 (take (i + 1) c) ≡ xs ++ cond (p s) (i ∷ []) [] =
    ap (places_in p 0) (take_more c i no_slot within)
    ∙ places-append p 0 (take i c) (s ∷ [])
    ∙ ap (λ (n : ℕ). xs ++ cond (p s) (n ∷ []) []) (let n : 0 + length (take i c) ≡ i = omega (arith, long) in n) in
    elim t as (λ b. entered_in e w s ≡ b → cond b (turned_place i true xs) xs ≡ places_in p 0 (take (i + 1) c)) [
      | true ↦ λ h.
          let le : 0 + length (take i c) ≤ i = omega (arith, long) in
          let count : filter (before i) xs ≡ xs = all-before p 0 (take i c) i le in
          ap (λ (ys : List ℕ). insert xs (length ys) i) count
          ∙ insert_end xs i
          ∙ sym (ap (λ (b : Bool). xs ++ cond b (i ∷ []) []) (shown_where e w s h ∙ on))
          ∙ sym more
      | false ↦ λ h.
          sym (append-nil xs)
          ∙ sym (ap (λ (b : Bool). xs ++ cond b (i ∷ []) []) (hidden_where e w s h))
          ∙ sym more
    ] h

pub live-filled : (c : List Slot) (i : ℕ) (old new : Live) → i < length c → (slot_at c i).mark.live ≡ true → AreLive (take i c) old → LiveTurned (slot_at c i).end (slot_at c i).list i true old new → AreLive (take (i + 1) c) new
live-filled c i old new within on live turned e w =
    turned e w
    ∙ ap (λ (xs : List ℕ). cond (entered_in e w (slot_at c i)) (turned_place i true xs) xs) (live e w)
    ∙ filled-one e w c i within on (entered_in e w (slot_at c i)) refl

pub live-passed : (c : List Slot) (i : ℕ) (l : Live) → i < length c → (slot_at c i).mark.live ≡ false → AreLive (take i c) l → AreLive (take (i + 1) c) l
live-passed c i l within off live e w =
    let p = shows_at e w in
    let s = slot_at c i in
    let xs = places_in p 0 (take i c) in
    let n = 0 + length (take i c) in
    let hidden : p s ≡ false = dark_where e w s off in
    live e w
    ∙ sym (append-nil xs)
    ∙ sym (ap (λ (b : Bool). xs ++ cond b (n ∷ []) []) hidden)
    ∙ sym (places-append p 0 (take i c) (s ∷ []))
    ∙ sym (ap (places_in p 0) (take_more c i no_slot within))

-- while there is still room
pub room-filling : (c : List Slot) (i : ℕ) (l : Live) → i < length c → (slot_at c i).mark.live ≡ true → AreLive (take i c) l → HaveRoom c l → length (live_at (slot_at c i).end (slot_at c i).list l).items < vec_capacity (live_at (slot_at c i).end (slot_at c i).list l)
room-filling c i l within on live room =
    let s = slot_at c i in
    let p = shows_at s.end s.list in
    let q = entered_in s.end s.list in
    let here : p s ≡ true = shown_where s.end s.list s (entered-own s) ∙ on in
    let more = ap (λ (xs : List Slot). length (filter p xs)) (take_more c i no_slot within) ∙ ap length (filter-append p (take i c) (s ∷ [])) ∙ length-append (filter p (take i c)) (filter p (s ∷ [])) in
    let one : length (filter p (s ∷ [])) ≡ 1 = ap (λ (b : Bool). length (cond b (s ∷ []) [])) here in
    let now = ap length (live s.end s.list) ∙ length-places p 0 (take i c) in
    omega (arith, more, one, now, fewer-take p (i + 1) c, fewer p q (shows-entered s.end s.list) c, room s.end s.list)

-- in the present state, the slots after those of its step show nothing
pub below-now : (slots : List Slot) (steps : List Step) (k : ℕ) → AllHoused slots steps → slots_at slots steps k ≡ slots → AllBelow (step_at steps k).slots slots
below-now slots steps k housed standing i live =
    let P : List Slot → Type 0 = λ c. Housed (step_at steps k).slots (step_at steps k).pairs c in
    let h = subst P standing (housed k) i live in
    h.0

pub adds-dark : (o : Option Slot) → ((s : Slot) → o ≡ Some s → (s.mark.live ≡ false) × (s.initial ≡ s.mark)) → AddsDark o
adds-dark None h = tt
adds-dark (Some s) h = let a = h s refl in a.0
