use Rattle.std.proofs.Common.{◌≡◌, ◌+◌, List, [], ◌∷◌, ◌++◌, length, take, arith, ◌∙◌, ap, ap₂, sym, subst, refl, rules}
use Rattle.std.proofs.lemmas.List.{get_or_read}
use Rattle.avp_lists.specs.declared.pairs.Pair.{Pair}
use Rattle.avp_lists.specs.declared.lists.State.{State}
use Rattle.avp_lists.specs.declared.slots.Slot.{Slot}
use Rattle.avp_lists.specs.declared.steps.Change.TheVariants.{Turned}
use Rattle.avp_lists.specs.declared.steps.Step.{Step}
use Rattle.avp_lists.specs.History.{History}
use Rattle.avp_lists.specs.internal.Plans.{pooled, planned, IsPlan}
use Rattle.avp_lists.specs.internal.Steps.{slots_at, no_step, step_at, BacksBelow, AllCounted, CountsWithin, CountsGrow, AllHoused, StatesLimited}
use Rattle.avp_lists.proofs.Changing.{length-changed, below-changed, counted-changed, counts-changed, grow-changed, housed-changed, standing-changed, states-changed, limited-changed, slim-changed}
use Rattle.avp_lists.specs.internal.Live.{AreLive, AllBelow}
use Rattle.avp_lists.proofs.LiveTurns.{live-cut, below-now, adds-dark}
use Rattle.avp_lists.proofs.slot_store.SlotStore.change.Goals as goal

-- the slots after those of the place show nothing, and neither does one to be added
pub plan_edit-requires-clause-live : goal.plan_edit-requires-clause-live
plan_edit-requires-clause-live c =
    let s = c.args.self.now in
    let slots = s.slots.all.items in
    let steps = s.steps.items in
    let last = c.index-last.result.now in
    let count : last ≡ step_at steps s.place = get_or_read steps s.place last s.placed c.index-last.ensures no_step in
    let P : Step → Type 0 = λ x. AllBelow x.slots slots in
    let Q : List Slot → Type 0 = λ xs. AreLive (take last.slots xs) s.slots.live in
    subst Q (sym c.deref.ensures.value) (live-cut last.slots slots s.slots.live (subst P (sym count) (below-now slots steps s.place s.housed s.standing)) s.slots.in_order)

pub slots_for-requires-clause-dark : goal.slots_for-requires-clause-dark
slots_for-requires-clause-dark c =
    let s = c.args.self.now in
    let slots = s.slots.all.items in
    let steps = s.steps.items in
    let last = c.index-last.result.now in
    let count : last ≡ step_at steps s.place = get_or_read steps s.place last s.placed c.index-last.ensures no_step in
    let P : Step → Type 0 = λ x. AllBelow x.slots slots in
    subst (AllBelow last.slots) (sym c.in_ok-make_room_after.ensures.slots) (subst P (sym count) (below-now slots steps s.place s.housed s.standing))

pub slots_for-requires-clause-unlit : goal.slots_for-requires-clause-unlit
slots_for-requires-clause-unlit c = adds-dark c.in_ok-plan.plan.added c.in_ok-plan.ensures.added

-- nothing has changed
pub invariant_of-self-in-Break-branch-2 : goal.invariant_of-self-in-Break-branch-2
invariant_of-self-in-Break-branch-2 c =
    let s = c.args.self.now in
    let e = c.in_err-make_room_after.ensures in
    let pool = s.pool.items in
    let slots = s.slots.all.items in
    let new_pool = c.make_room_after.new.pool.items in
    let new_slots = c.make_room_after.new.slots.all.items in
    let new_steps = c.make_room_after.new.steps.items in
    let C1 : List Pair → Type 0 = λ x. CountsWithin (length slots) (length x) new_steps in
    let C2 : List Slot → Type 0 = λ x. CountsWithin (length x) (length new_pool) new_steps in
    let H : List Slot → Type 0 = λ x. AllHoused x new_steps in
    let S1 : List Step → Type 0 = λ x. slots_at slots x s.place ≡ slots in
    let S2 : List Slot → Type 0 = λ x. slots_at x new_steps s.place ≡ x in
    let L1 : List Slot → Type 0 = λ x. StatesLimited pool x new_steps in
    let L2 : List Pair → Type 0 = λ x. StatesLimited x new_slots new_steps in
    record {
      placed = omega (arith, ap length e.steps, s.placed);
      beside = ap length e.nexts ∙ s.beside ∙ sym (ap length e.steps);
      below = subst BacksBelow (sym e.steps) s.below;
      counted = subst AllCounted (sym e.steps) s.counted;
      counts = subst C2 (sym e.slots) (subst C1 (sym e.pool) (subst (CountsWithin (length slots) (length pool)) (sym e.steps) s.counts));
      grow = subst CountsGrow (sym e.steps) s.grow;
      housed = subst H (sym e.slots) (subst (AllHoused slots) (sym e.steps) s.housed);
      standing = subst S2 (sym e.slots) (subst S1 (sym e.steps) s.standing);
      limited = subst L2 (sym e.pool) (subst L1 (sym e.slots) (subst (StatesLimited pool slots) (sym e.steps) s.limited));
    }

pub invariant_of-self-2 : goal.invariant_of-self-2
invariant_of-self-2 c =
    let s = c.args.self.now in
    let selection = c.args.selection in
    let e = c.args.edit in
    let pool = s.pool.items in
    let slots = s.slots.all.items in
    let steps = s.steps.items in
    let k = s.place in
    let p = c.in_ok-plan.plan in
    let last = c.index-last.result.now in
    let room = c.in_ok-make_room_after.ensures in
    let count : last ≡ step_at steps k = get_or_read steps k last s.placed c.index-last.ensures no_step in
    let new_pool = c.pool_for.new.pool.items in
    let new_slots = c.slots_for.new.slots.all.items in
    let new_steps = c.cut_and_push.new.steps.items in
    let step : Step = record { change = Turned p.turned p.swap; slots = c.len.result; pairs = c.len-2.result } in
    let made : IsPlan selection e (take last.pairs c.deref-2.result.now) (take last.slots c.deref.result.now) p = c.in_ok-plan.ensures in
    let H : Step → List Pair → List Slot → Type 0 = λ x a b. IsPlan selection e (take x.pairs a) (take x.slots b) p in
    let H1 : List Pair → Type 0 = λ a. H last a c.deref.result.now in
    let H2 : List Slot → Type 0 = λ b. H last pool b in
    let H3 : Step → Type 0 = λ x. H x pool slots in
    let plan : IsPlan selection e (take (step_at steps k).pairs pool) (take (step_at steps k).slots slots) p = subst H3 count (subst H2 c.deref.ensures.value (subst H1 c.deref-2.ensures.value made)) in
    let P : new_pool ≡ pooled p e.pair (take (step_at steps k).pairs pool) = c.pool_for.ensures ∙ ap₂ (λ (x : Step) (a : List Pair). pooled p e.pair (take x.pairs a)) count room.pool in
    let N : new_slots ≡ planned p (take (step_at steps k).slots slots) = c.slots_for.ensures ∙ ap₂ (λ (x : Step) (a : List Slot). planned p (take x.slots a)) count room.slots in
    let S : new_steps ≡ take (k + 1) steps ++ step ∷ [] = c.cut_and_push.ensures.steps ∙ ap (λ (xs : List Step). take (k + 1) xs ++ step ∷ []) room.steps in
    let es : c.len.result ≡ length new_slots = omega (arith, c.len.ensures, c.slots_for.new.slots.all.ok.0) in
    let ep : c.len-2.result ≡ length new_pool = omega (arith, c.len-2.ensures, c.pool_for.new.pool.ok.0) in
    let long = length-changed selection e pool slots steps k s.placed s.counted s.counts s.grow s.housed s.standing p plan step new_pool new_slots new_steps P N S refl es ep in
    record {
      placed = omega (arith, long);
      beside = c.cut_and_push.ensures.nexts ∙ (let t : k + 1 + 1 ≡ length new_steps = omega (arith, long) in t);
      below = below-changed selection e pool slots steps k s.placed s.counted s.counts s.grow s.housed s.standing p plan step new_pool new_slots new_steps P N S refl es ep s.below;
      counted = counted-changed selection e pool slots steps k s.placed s.counted s.counts s.grow s.housed s.standing p plan step new_pool new_slots new_steps P N S refl es ep;
      counts = counts-changed selection e pool slots steps k s.placed s.counted s.counts s.grow s.housed s.standing p plan step new_pool new_slots new_steps P N S refl es ep;
      grow = grow-changed selection e pool slots steps k s.placed s.counted s.counts s.grow s.housed s.standing p plan step new_pool new_slots new_steps P N S refl es ep;
      housed = housed-changed selection e pool slots steps k s.placed s.counted s.counts s.grow s.housed s.standing p plan step new_pool new_slots new_steps P N S refl es ep;
      standing = standing-changed selection e pool slots steps k s.placed s.counted s.counts s.grow s.housed s.standing p plan step new_pool new_slots new_steps P N S refl es ep;
      limited = limited-changed selection e pool slots steps k s.placed s.counted s.counts s.grow s.housed s.standing p plan step new_pool new_slots new_steps P N S refl es ep s.limited c.requires.fits;
    }

pub returns : goal.returns
returns c =
    let s = c.args.self.now in
    let selection = c.args.selection in
    let e = c.args.edit in
    let pool = s.pool.items in
    let slots = s.slots.all.items in
    let steps = s.steps.items in
    let k = s.place in
    let p = c.in_ok-plan.plan in
    let last = c.index-last.result.now in
    let room = c.in_ok-make_room_after.ensures in
    let count : last ≡ step_at steps k = get_or_read steps k last s.placed c.index-last.ensures no_step in
    let new_pool = c.pool_for.new.pool.items in
    let new_slots = c.slots_for.new.slots.all.items in
    let new_steps = c.cut_and_push.new.steps.items in
    let step : Step = record { change = Turned p.turned p.swap; slots = c.len.result; pairs = c.len-2.result } in
    let made : IsPlan selection e (take last.pairs c.deref-2.result.now) (take last.slots c.deref.result.now) p = c.in_ok-plan.ensures in
    let H : Step → List Pair → List Slot → Type 0 = λ x a b. IsPlan selection e (take x.pairs a) (take x.slots b) p in
    let H1 : List Pair → Type 0 = λ a. H last a c.deref.result.now in
    let H2 : List Slot → Type 0 = λ b. H last pool b in
    let H3 : Step → Type 0 = λ x. H x pool slots in
    let plan : IsPlan selection e (take (step_at steps k).pairs pool) (take (step_at steps k).slots slots) p = subst H3 count (subst H2 c.deref.ensures.value (subst H1 c.deref-2.ensures.value made)) in
    let P : new_pool ≡ pooled p e.pair (take (step_at steps k).pairs pool) = c.pool_for.ensures ∙ ap₂ (λ (x : Step) (a : List Pair). pooled p e.pair (take x.pairs a)) count room.pool in
    let N : new_slots ≡ planned p (take (step_at steps k).slots slots) = c.slots_for.ensures ∙ ap₂ (λ (x : Step) (a : List Slot). planned p (take x.slots a)) count room.slots in
    let S : new_steps ≡ take (k + 1) steps ++ step ∷ [] = c.cut_and_push.ensures.steps ∙ ap (λ (xs : List Step). take (k + 1) xs ++ step ∷ []) room.steps in
    let es : c.len.result ≡ length new_slots = omega (arith, c.len.ensures, c.slots_for.new.slots.all.ok.0) in
    let ep : c.len-2.result ≡ length new_pool = omega (arith, c.len-2.ensures, c.pool_for.new.pool.ok.0) in
    record {
      ok = ap (λ (xs : List State). let h : History = record { states = xs; place = k + 1 } in h)
          (states-changed selection e pool slots steps k s.placed s.counted s.counts s.grow s.housed s.standing p plan step new_pool new_slots new_steps P N S refl es ep);
      err = search rules;
      slim = slim-changed selection e pool slots steps k s.placed s.counted s.counts s.grow s.housed s.standing p plan step new_pool new_slots new_steps P N S refl es ep;
      kept = search rules;
    }
