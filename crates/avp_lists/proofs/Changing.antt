-- A store after an edit: the steps and states that stay, and the edited state.
use Rattle.std.proofs.Common.{◌≡◌, ℕ, zero, suc, ◌+◌, ◌<◌, ◌≤◌, true, false, cond, List, [], ◌∷◌, ◌++◌, Option, Some, None, length, get_or, map, take, refl, sym, ap, ◌∙◌, subst, arith, append-nil, length-append}
use Rattle.std.specs.Option.{option_to_list}
use Rattle.std.proofs.lemmas.List.{length-take-le}
use Rattle.avp_lists.specs.declared.pairs.Pair.{Pair}
use Rattle.avp_lists.specs.declared.edits.Edit.{Edit}
use Rattle.avp_lists.specs.declared.lists.State.{State}
use Rattle.avp_lists.specs.declared.planning.Plan.{Plan}
use Rattle.avp_lists.specs.declared.slots.Slot.{Slot}
use Rattle.avp_lists.specs.declared.slots.Mark.{Mark}
use Rattle.avp_lists.specs.declared.steps.Change.TheVariants.{Turned}
use Rattle.avp_lists.specs.declared.steps.Step.{Step}
use Rattle.avp_lists.specs.internal.Plans.{widened, planned, enters, pooled, IsPlan}
use Rattle.avp_lists.specs.internal.Shown.{shown_state}
use Rattle.avp_lists.specs.internal.SlotLaws.{length-shown_states}
use Rattle.avp_lists.specs.internal.Slots.{slot_at, at_initial, PairsWithin}
use Rattle.avp_lists.specs.States.{empty_state, IsLimited}
use Rattle.avp_lists.specs.internal.Steps.{slots_at, shown_states, step_at, max_kept, BacksBelow, AllCounted, CountsWithin, CountsGrow, AllHoused, StatesLimited}
use Rattle.avp_lists.specs.declared.tags.Selection.{Selection}
use Rattle.avp_lists.specs.Selections.{edited_selected}
use Rattle.avp_lists.proofs.Adding.{long-few, long-pairs, state-few, standing-new, states-new, below-new, counted-new, counts-new, grow-new, housed-new}
use Rattle.avp_lists.proofs.Continuing.{limited-continued}
use Rattle.avp_lists.proofs.ShownPairs.{present-shown}
use Rattle.avp_lists.proofs.Turning.{length-forward}

-- a slot that shows nothing yet is as it is in the first state
added-initials : (o : Option Slot) → ((s : Slot) → o ≡ Some s → (s.mark.live ≡ false) × (s.initial ≡ s.mark)) → map at_initial (option_to_list o) ≡ option_to_list o
added-initials None h = refl
added-initials (Some s) h =
    let a = h s refl in
    ap (λ (m : Mark). let t : Slot = record { list = s.list; end = s.end; mark = m; initial = s.initial } in t ∷ []) a.1

added-dark : (o : Option Slot) → ((s : Slot) → o ≡ Some s → (s.mark.live ≡ false) × (s.initial ≡ s.mark)) → (i : ℕ) → (slot_at (option_to_list o) i).mark.live ≡ true → ⊥
added-dark None h i live = cc
added-dark (Some s) h zero live = let a = h s refl in let dark : false ≡ true = sym a.0 ∙ live in cc
added-dark (Some s) h (suc i) live = cc

abbrev entering : Plan → Pair → List Pair
entering p pair = cond (enters p) (pair ∷ []) []

pooled-entering : (p : Plan) (pair : Pair) (pool : List Pair) → pooled p pair pool ≡ pool ++ entering p pair
pooled-entering p pair pool = elim (enters p) as (λ b. cond b (pool ++ pair ∷ []) pool ≡ pool ++ cond b (pair ∷ []) []) [ true ↦ refl | false ↦ sym (append-nil pool) ]

module _ (selection : Selection) (e : Edit) (pool : List Pair) (slots : List Slot) (steps : List Step) (k : ℕ) (placed : k < length steps) (counted : AllCounted steps) (counts : CountsWithin (length slots) (length pool) steps) (grow : CountsGrow steps) (housed : AllHoused slots steps) (standing : slots_at slots steps k ≡ slots) (p : Plan) (plan : IsPlan selection e (take (step_at steps k).pairs pool) (take (step_at steps k).slots slots) p) (step : Step) (new_pool : List Pair) (new_slots : List Slot) (new_steps : List Step) (P : new_pool ≡ pooled p e.pair (take (step_at steps k).pairs pool)) (N : new_slots ≡ planned p (take (step_at steps k).slots slots)) (S : new_steps ≡ take (k + 1) steps ++ step ∷ []) (T : step.change ≡ Turned p.turned p.swap) (es : step.slots ≡ length new_slots) (ep : step.pairs ≡ length new_pool) where
  pool_is : new_pool ≡ take (step_at steps k).pairs pool ++ entering p e.pair
  pool_is = P ∙ pooled-entering p e.pair (take (step_at steps k).pairs pool)

  initials : map at_initial (option_to_list p.added) ≡ option_to_list p.added
  initials = added-initials p.added plan.added

  dark : (i : ℕ) → (slot_at (option_to_list p.added) i).mark.live ≡ true → ⊥
  dark = added-dark p.added plan.added

  more_slots : (step_at steps k).slots ≤ step.slots
  more_slots =
      let few = take (step_at steps k).slots slots in
      omega (arith, es, ap length N, length-forward p.turned.items p.swap (widened p few), length-append few (option_to_list p.added), long-few pool slots steps k placed counted counts grow housed standing)

  more_pairs : (step_at steps k).pairs ≤ step.pairs
  more_pairs =
      let few = take (step_at steps k).pairs pool in
      omega (arith, ep, ap length pool_is, length-append few (entering p e.pair), long-pairs pool slots steps k placed counted counts grow housed standing)

  pairs_is : step.pairs ≡ length (take (step_at steps k).pairs pool ++ entering p e.pair)
  pairs_is = ep ∙ ap length pool_is

  pub length-changed : length new_steps ≡ k + 2
  length-changed =
      let below : k + 1 ≤ length steps = omega (arith, placed) in
      omega (arith, ap length S, length-append (take (k + 1) steps) (step ∷ []), length-take-le (k + 1) steps below)

  -- one pair more than there were, or none
  pub slim-changed : length new_pool ≤ max_kept steps k
  slim-changed =
      let few = take (step_at steps k).pairs pool in
      let one : length (entering p e.pair) ≤ 1 = elim (enters p) as (λ b. length (cond b (e.pair ∷ []) []) ≤ 1) [ true ↦ omega arith | false ↦ omega arith ] in
      omega (arith, ap length pool_is, length-append few (entering p e.pair), one, long-pairs pool slots steps k placed counted counts grow housed standing)

  pub below-changed : BacksBelow steps → BacksBelow new_steps
  below-changed backs = subst BacksBelow (sym S) (below-new pool slots steps k placed counted counts grow housed standing (option_to_list p.added) initials dark (entering p e.pair) p.turned p.swap step new_slots N T backs)

  pub counted-changed : AllCounted new_steps
  counted-changed = subst AllCounted (sym S) (counted-new pool slots steps k placed counted counts grow housed standing (option_to_list p.added) initials dark (entering p e.pair) p.turned p.swap step new_slots N T es pairs_is more_slots more_pairs plan.places plan.swap)

  pub counts-changed : CountsWithin (length new_slots) (length new_pool) new_steps
  counts-changed =
      let Q : List Pair → List Step → Type 0 = λ x y. CountsWithin (length new_slots) (length x) y in
      let R : List Pair → Type 0 = λ x. Q x new_steps in
      subst R (sym pool_is) (subst (Q (take (step_at steps k).pairs pool ++ entering p e.pair)) (sym S) (counts-new pool slots steps k placed counted counts grow housed standing (option_to_list p.added) initials dark (entering p e.pair) p.turned p.swap step new_slots N T es pairs_is more_slots more_pairs))

  pub grow-changed : CountsGrow new_steps
  grow-changed = subst CountsGrow (sym S) (grow-new pool slots steps k placed counted counts grow housed standing (option_to_list p.added) initials dark (entering p e.pair) p.turned p.swap step new_slots N T es pairs_is more_slots more_pairs)

  fits : PairsWithin (length (take (step_at steps k).pairs pool ++ entering p e.pair)) new_slots
  fits =
      let Q : List Pair → Type 0 = λ x. PairsWithin (length x) new_slots in
      let R : List Slot → Type 0 = λ x. PairsWithin (length (pooled p e.pair (take (step_at steps k).pairs pool))) x in
      subst Q (sym P ∙ pool_is) (subst R (sym N) plan.within)

  pub housed-changed : AllHoused new_slots new_steps
  housed-changed = subst (AllHoused new_slots) (sym S) (housed-new pool slots steps k placed counted counts grow housed standing (option_to_list p.added) initials dark (entering p e.pair) p.turned p.swap step new_slots N T es pairs_is more_slots more_pairs fits)

  pub standing-changed : slots_at new_slots new_steps (k + 1) ≡ new_slots
  standing-changed =
      ap (λ (x : List Step). slots_at new_slots x (k + 1)) S
      ∙ standing-new pool slots steps k placed counted counts grow housed standing (option_to_list p.added) initials dark (entering p e.pair) p.turned p.swap step new_slots N T

  now_is : shown_state new_pool new_slots ≡ edited_selected selection e (get_or (shown_states pool slots steps) k empty_state)
  now_is =
      ap (λ (x : List Pair). shown_state x new_slots) P
      ∙ ap (shown_state (pooled p e.pair (take (step_at steps k).pairs pool))) N
      ∙ plan.state
      ∙ ap (edited_selected selection e) (state-few pool slots steps k placed counted counts grow housed standing ∙ sym (present-shown pool slots steps k placed standing))

  pub states-changed : shown_states new_pool new_slots new_steps ≡ take (k + 1) (shown_states pool slots steps) ++ edited_selected selection e (get_or (shown_states pool slots steps) k empty_state) ∷ []
  states-changed =
      let other = take (step_at steps k).pairs pool ++ entering p e.pair in
      ap (λ (x : List Pair). shown_states x new_slots new_steps) pool_is
      ∙ ap (shown_states other new_slots) S
      ∙ states-new pool slots steps k placed counted counts grow housed standing (option_to_list p.added) initials dark (entering p e.pair) p.turned p.swap step new_slots N T
      ∙ ap (λ (x : State). take (k + 1) (shown_states pool slots steps) ++ x ∷ []) (ap (λ (x : List Pair). shown_state x new_slots) (sym pool_is) ∙ now_is)

  pub limited-changed : StatesLimited pool slots steps → IsLimited (edited_selected selection e (get_or (shown_states pool slots steps) k empty_state)) → StatesLimited new_pool new_slots new_steps
  limited-changed limited new j =
      let all = shown_states pool slots steps in
      let within : k + 1 ≤ length all = omega (arith, length-shown_states pool slots steps, placed) in
      let Q : List State → Type 0 = λ xs. IsLimited (get_or xs j empty_state) in
      subst Q (sym states-changed) (limited-continued all (k + 1) (edited_selected selection e (get_or all k empty_state)) within limited new j)
