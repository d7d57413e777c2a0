use Rattle.std.proofs.Common.{◌≡◌, ℕ, ◌+◌, ◌<◌, ◌≤◌, true, List, [], ◌∷◌, ◌++◌, length, get_or, take, arith, ◌∙◌, ap, sym, subst, refl}
use Rattle.std.proofs.lemmas.List.{get_or_read}
use Rattle.avp_lists.specs.declared.lists.State.{State}
use Rattle.avp_lists.specs.declared.steps.Change.TheVariants.{Back}
use Rattle.avp_lists.specs.declared.steps.Step.{Step}
use Rattle.avp_lists.specs.History.{History}
use Rattle.avp_lists.specs.States.{empty_state, IsLimited}
use Rattle.avp_lists.specs.internal.Steps.{slots_at, shown_states, no_step, step_at, change_at, turns, origin, BacksBelow, AllCounted, CountsWithin, CountsGrow, AllHoused, StatesLimited}
use Rattle.avp_lists.proofs.Replay.{origin_fits}
use Rattle.avp_lists.specs.internal.SlotLaws.{length-shown_states}
use Rattle.avp_lists.proofs.Moves.{housed-same, steps_within}
use Rattle.avp_lists.proofs.Continuing.{length-more, counted-more, counts-more, grow-more, below-more, standing-back, housed-back, limited-continued, states-rolled}
use Rattle.avp_lists.proofs.slot_store.SlotStoreStore.rollback.Goals as goal

pub move_to-requires-clause-within : goal.move_to-requires-clause-within
move_to-requires-clause-within c =
    let s = c.args.self.now in
    rw (c.deref.ensures.value, c.in_ok-make_room_beside.ensures.steps) (steps_within _ _ s.steps.items s.counted s.counts)

pub move_to-requires-clause-below : goal.move_to-requires-clause-below
move_to-requires-clause-below c = rw (c.deref.ensures.value, c.in_ok-make_room_beside.ensures.steps) c.args.self.now.below

-- nothing has changed
pub invariant_of-self : goal.invariant_of-self
invariant_of-self c =
    let s = c.args.self.now in
    let e = c.in_err-make_room_beside.ensures in
    record {
      placed = rw e.steps s.placed;
      beside = ap length e.nexts ∙ s.beside ∙ sym (ap length e.steps);
      below = rw e.steps s.below;
      counted = rw e.steps s.counted;
      counts = rw e.steps s.counts;
      grow = rw e.steps s.grow;
      housed = rw e.steps s.housed;
      standing = rw e.steps s.standing;
      limited = rw e.steps s.limited;
    }

-- one step more
pub invariant_of-self-2 : goal.invariant_of-self-2
invariant_of-self-2 c =
    let s = c.args.self.now in
    let steps = s.steps.items in
    let slots = s.slots.all.items in
    let pool = s.pool.items in
    let moved = c.move_to.new.slots.all.items in
    let n = s.place + 1 in
    let to = c.args.to in
    let w = c.origin-earlier.result in
    let room = c.in_ok-make_room_beside.ensures in
    let last = c.index-last.result.now in
    let e : Step = record { change = Back w; slots = last.slots; pairs = last.pairs } in
    let new : c.cut_and_push.new.steps.items ≡ take n steps ++ e ∷ [] = c.cut_and_push.ensures.steps ∙ ap (λ (xs : List Step). take n xs ++ e ∷ []) room.steps in
    let is : w ≡ origin steps to = c.origin-earlier.ensures ∙ ap (λ (xs : List Step). origin xs to) (c.deref-2.ensures.value ∙ room.steps) in
    let fine : n ≤ length steps = omega (arith, s.placed) in
    let before : to ≤ s.place = c.requires in
    let lt : to < length steps = omega arith in
    let fits = origin_fits moved steps to s.below lt in
    let low : origin steps to ≤ to = fits.0 in
    let earlier : w < n = omega arith in
    let turned : turns (change_at steps w) ≡ true = ap (λ (m : ℕ). turns (change_at steps m)) is ∙ fits.1 in
    let there : slots_at moved steps to ≡ moved = ap (λ (xs : List Step). slots_at moved xs to) (sym (c.deref.ensures.value ∙ room.steps)) ∙ c.move_to.ensures.standing in
    let initials = c.move_to.ensures.initials in
    let long = length-more steps n e fine in
    let read : last ≡ get_or steps s.place last = c.index-last.ensures ∙ ap (λ (xs : List Step). get_or xs s.place last) room.steps in
    let count : step_at steps s.place ≡ last = sym (get_or_read steps s.place last s.placed read no_step) in
    let most : (j : ℕ) → j < n → ((step_at steps j).slots ≤ last.slots) × ((step_at steps j).pairs ≤ last.pairs) = λ j below.
    let P : Step → Type 0 = λ x. ((step_at steps j).slots ≤ x.slots) × ((step_at steps j).pairs ≤ x.pairs) in
    subst P count (s.grow j s.place (omega (arith, below)) s.placed) in
    let all : (last.slots ≤ length slots) × (last.pairs ≤ length pool) =
    let P : Step → Type 0 = λ x. (x.slots ≤ length slots) × (x.pairs ≤ length pool) in subst P count (s.counts s.place) in
    let same_slots : length moved ≡ length slots = c.move_to.ensures.slots in
    let le_slots : last.slots ≤ length moved = omega (arith, all.0, same_slots) in
    let counts : CountsWithin (length moved) (length pool) steps = let P : ℕ → Type 0 = λ m. CountsWithin m (length pool) steps in subst P (sym same_slots) s.counts in
    let of_w = most w earlier in
    let states = states-rolled pool slots moved steps n to w e fine (omega (arith, before)) s.below is refl initials in
    let within : n ≤ length (shown_states pool slots steps) = omega (arith, length-shown_states pool slots steps, fine) in
    record {
      placed = omega (arith, ap length new, long);
      beside = c.cut_and_push.ensures.nexts ∙ sym (ap length new ∙ long);
      below = subst BacksBelow (sym new) (below-more steps n e fine s.below (λ k h. let j : w ≡ k = cc in let P : ℕ → Type 0 = λ m. (m < n) × (turns (change_at steps m) ≡ true) in subst P j (earlier, turned)));
      counted = subst AllCounted (sym new) (counted-more steps n e fine s.counted (λ i h. absurd (omega (arith, h)), omega arith));
      counts = subst (CountsWithin (length moved) (length pool)) (sym new) (counts-more steps n e fine (length moved) (length pool) (λ k below. counts k) le_slots all.1);
      grow = subst CountsGrow (sym new) (grow-more steps n e fine s.grow most);
      housed = subst (AllHoused moved) (sym new) (housed-back moved steps n w e fine refl earlier (housed-same pool slots moved steps initials s.housed) of_w.0 of_w.1);
      standing = let P : List Step → Type 0 = λ xs. slots_at moved xs n ≡ moved in subst P (sym new) (standing-back moved steps n w e fine refl earlier ∙ ap (slots_at moved steps) is ∙ fits.2 ∙ there);
      limited = subst (StatesLimited pool moved) (sym new) (λ k. let P : List State → Type 0 = λ xs. IsLimited (get_or xs k empty_state) in subst P (sym states) (limited-continued (shown_states pool slots steps) n (get_or (shown_states pool slots steps) to empty_state) within s.limited (s.limited to) k));
    }

pub returns-clause-ok : goal.returns-clause-ok
returns-clause-ok c =
    let s = c.args.self.now in
    let steps = s.steps.items in
    let moved = c.move_to.new.slots.all.items in
    let n = s.place + 1 in
    let to = c.args.to in
    let w = c.origin-earlier.result in
    let room = c.in_ok-make_room_beside.ensures in
    let e : Step = record { change = Back w; slots = c.index-last.result.now.slots; pairs = c.index-last.result.now.pairs } in
    let new : c.cut_and_push.new.steps.items ≡ take n steps ++ e ∷ [] = c.cut_and_push.ensures.steps ∙ ap (λ (xs : List Step). take n xs ++ e ∷ []) room.steps in
    let is : w ≡ origin steps to = c.origin-earlier.ensures ∙ ap (λ (xs : List Step). origin xs to) (c.deref-2.ensures.value ∙ room.steps) in
    let fine : n ≤ length steps = omega (arith, s.placed) in
    let before : to < n = omega (arith, c.requires) in
    ap (λ (xs : List State). let h : History = record { states = xs; place = n } in h)
    (ap (shown_states s.pool.items moved) new ∙ states-rolled s.pool.items s.slots.all.items moved steps n to w e fine before s.below is refl c.move_to.ensures.initials)
