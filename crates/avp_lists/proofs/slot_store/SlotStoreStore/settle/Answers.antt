use Rattle.std.proofs.Common.{◌≡◌, List, [], ◌∷◌, None, length, map, arith, ◌∙◌, ap, sym, subst, refl}
use Rattle.std.specs.List.{filter}
use Rattle.avp_lists.specs.declared.lists.State.{State}
use Rattle.avp_lists.specs.declared.steps.Change.TheVariants.{Turned}
use Rattle.avp_lists.specs.declared.steps.Step.{Step}
use Rattle.avp_lists.specs.History.{History}
use Rattle.avp_lists.specs.internal.Shown.{shown_state}
use Rattle.avp_lists.specs.internal.Slots.{is_live, at_initial, Housed}
use Rattle.avp_lists.specs.States.{IsLimited}
use Rattle.avp_lists.proofs.Settling.{initials-kept, settled_state, settled_within, housed_all, standing-alone, counted-alone, counts-alone, grow-alone, below-alone, housed-alone, states-alone, limited-alone}
use Rattle.avp_lists.proofs.ShownPairs.{present-shown, pairs-now}
use Rattle.avp_lists.proofs.slot_store.SlotStoreStore.settle.Goals as goal

pub invariant_of-self : goal.invariant_of-self
invariant_of-self c =
    let s = c.args.self.now in
    let slots = s.slots.all.items in
    let pool = s.pool.items in
    let new = c.settle.new.self.all.items in
    let steps = c.cut_and_push.new.steps.items in
    let v = c.new.result in
    let e : Step = record { change = Turned v None; slots = c.len.result; pairs = c.len-2.result } in
    let K = c.settle.ensures in
    let N = c.cut_and_push.ensures.steps in
    let Z = c.new.ensures.items in
    let initials : map at_initial new ≡ new = ap (map at_initial) K ∙ initials-kept (filter is_live slots) ∙ sym K in
    let shown = present-shown pool slots s.steps.items s.place s.placed s.standing in
    let fits = settled_within (length pool) slots new K (pairs-now (length slots) (length pool) slots s.steps.items s.place s.housed s.counts s.standing) in
    let slots_len : e.slots ≡ length new = omega (arith, c.len.ensures, c.settle.new.self.all.ok.0) in
    let pairs_len : e.pairs ≡ length pool = omega (arith, c.len-2.ensures, s.pool.ok.0) in
    let H : Housed e.slots e.pairs new = rw (slots_len, pairs_len) (housed_all (length pool) new fits) in
    record {
      placed = omega (arith, ap length N);
      beside = c.cut_and_push.ensures.nexts ∙ sym (ap length N);
      below = below-alone new steps v e initials N refl Z;
      counted = counted-alone new steps v e initials N refl Z;
      counts = counts-alone new steps v e initials N refl Z (length new) (length pool) (omega (arith, slots_len)) (omega (arith, pairs_len));
      grow = grow-alone new steps v e initials N refl Z;
      housed = housed-alone new steps v e initials N refl Z H;
      standing = standing-alone new steps v e initials N refl Z;
      limited = limited-alone new steps v e initials N refl Z pool (subst IsLimited (shown ∙ sym (ap (shown_state pool) K ∙ settled_state pool slots)) (s.limited s.place));
    }

pub returns-clause-settled : goal.returns-clause-settled
returns-clause-settled c =
    let s = c.args.self.now in
    let slots = s.slots.all.items in
    let pool = s.pool.items in
    let new = c.settle.new.self.all.items in
    let steps = c.cut_and_push.new.steps.items in
    let v = c.new.result in
    let e : Step = record { change = Turned v None; slots = c.len.result; pairs = c.len-2.result } in
    let K = c.settle.ensures in
    let initials : map at_initial new ≡ new = ap (map at_initial) K ∙ initials-kept (filter is_live slots) ∙ sym K in
    let shown = present-shown pool slots s.steps.items s.place s.placed s.standing in
    ap (λ (xs : List State). let h : History = record { states = xs; place = 0 } in h)
    (states-alone new steps v e initials c.cut_and_push.ensures.steps refl c.new.ensures.items pool ∙ ap (λ (x : State). x ∷ []) (ap (shown_state pool) K ∙ settled_state pool slots ∙ sym shown))
