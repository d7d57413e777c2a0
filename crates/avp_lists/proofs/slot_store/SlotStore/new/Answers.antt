use Rattle.std.proofs.Common.{◌≡◌, ◌≤◌, List, [], ◌∷◌, None, ◌++◌, length, map, arith, ◌∙◌, ap, sym, subst, refl}
use Rattle.avp_lists.specs.declared.lists.State.{State}
use Rattle.avp_lists.specs.declared.lists.List.TheVariants.{Request, Reply, Control}
use Rattle.avp_lists.specs.declared.steps.Change.TheVariants.{Turned}
use Rattle.avp_lists.specs.declared.steps.Step.{Step}
use Rattle.avp_lists.specs.History.{History}
use Rattle.avp_lists.specs.internal.Slots.{Housed}
use Rattle.avp_lists.specs.States.{IsLimited}
use Rattle.avp_lists.proofs.Settling.{housed_all, standing-alone, counted-alone, counts-alone, grow-alone, below-alone, housed-alone, states-alone, limited-alone}
use Rattle.avp_lists.proofs.Starting.{started-length, started-state}
use Rattle.avp_lists.specs.States.{max_pairs}
use Rattle.avp_lists.specs.declared.slots.Slot.{Slot}
use Rattle.avp_lists.specs.internal.Live.{HasTailRoom}
use Rattle.avp_lists.specs.internal.Plans.{fresh}
use Rattle.avp_lists.specs.internal.Shown.{shown_state}
use Rattle.avp_lists.specs.internal.Slots.{at_initial, PairsWithin}
use Rattle.avp_lists.proofs.LiveRoom.{room-fresh}
use Rattle.avp_lists.proofs.slot_store.SlotStore.new.Goals as goal

limited_given : (s : State) → length s.request ≤ max_pairs → length s.reply ≤ max_pairs → length s.control ≤ max_pairs → IsLimited s
limited_given s r p c Request = r
limited_given s r p c Reply = p
limited_given s r p c Control = c

pub add_list-requires-2-clause-slots_room : goal.add_list-requires-2-clause-slots_room
add_list-requires-2-clause-slots_room c =
    let parts = c.in-Ok.parts in
    let room = c.in-Ok.ensures.slots in
    let long = started-length Request parts.pool.items c.args.request.items c.add_list.new.pool.items parts.slots.items c.add_list.new.slots.items c.add_list.ensures.pool c.add_list.ensures.slots in
    omega (arith, long, ap length room.0, room.1, c.add_list.ensures.slots_kept, c.len.ensures, c.len-2.ensures, c.len-3.ensures, c.args.request.ok.0, c.args.reply.ok.0, c.args.control.ok.0)

pub add_list-requires-3-clause-slots_room : goal.add_list-requires-3-clause-slots_room
add_list-requires-3-clause-slots_room c =
    let parts = c.in-Ok.parts in
    let room = c.in-Ok.ensures.slots in
    let long = started-length Request parts.pool.items c.args.request.items c.add_list.new.pool.items parts.slots.items c.add_list.new.slots.items c.add_list.ensures.pool c.add_list.ensures.slots in
    let more = started-length Reply c.add_list.new.pool.items c.args.reply.items c.add_list-2.new.pool.items c.add_list.new.slots.items c.add_list-2.new.slots.items c.add_list-2.ensures.pool c.add_list-2.ensures.slots in
    omega (arith, long, more, ap length room.0, room.1, c.add_list.ensures.slots_kept, c.add_list-2.ensures.slots_kept, c.len.ensures, c.len-2.ensures, c.len-3.ensures, c.args.request.ok.0, c.args.reply.ok.0, c.args.control.ok.0)

-- there is room for their places
pub new-slots-requires-clause-room : goal.new-slots-requires-clause-room
new-slots-requires-clause-room c =
    let parts = c.in-Ok.parts in
    let R = c.args.request.items in
    let P = c.args.reply.items in
    let C = c.args.control.items in
    let pool1 = c.add_list.new.pool.items in
    let pool2 = c.add_list-2.new.pool.items in
    let first : c.add_list.new.slots.items ≡ fresh Request (length parts.pool.items) (length R) = c.add_list.ensures.slots ∙ ap (λ (xs : List Slot). xs ++ fresh Request (length parts.pool.items) (length R)) c.in-Ok.ensures.slots.0 in
    let second = c.add_list-2.ensures.slots ∙ ap (λ (xs : List Slot). xs ++ fresh Reply (length pool1) (length P)) first in
    let third = c.add_list-3.ensures.slots ∙ ap (λ (xs : List Slot). xs ++ fresh Control (length pool2) (length C)) second in
    let given = c.in-Ok.ensures.live_room in
    let room : HasTailRoom (length R) (length P) (length C) parts.live =
    (omega (arith, given.0, c.len.ensures, c.args.request.ok.0), omega (arith, given.1, c.len-2.ensures, c.args.reply.ok.0), omega (arith, given.2, c.len-3.ensures, c.args.control.ok.0)) in
    room-fresh (length R) (length P) (length C) (length parts.pool.items) (length pool1) (length pool2) parts.live room c.add_list-3.new.slots.items third

pub invariant_of-result : goal.invariant_of-result
invariant_of-result c =
    let parts = c.in-Ok.parts in
    let pool = c.add_list-3.new.pool.items in
    let slots = c.new-slots.result.all.items in
    let same = c.new-slots.ensures in
    let given : State = record { request = c.args.request.items; reply = c.args.reply.items; control = c.args.control.items } in
    let Start : List Slot → Type 0 = λ xs. (shown_state pool xs ≡ given) × (map at_initial xs ≡ xs) × PairsWithin (length pool) xs in
    let start = subst Start (sym same) (started-state parts.pool.items c.add_list.new.pool.items c.add_list-2.new.pool.items pool parts.slots.items c.add_list.new.slots.items c.add_list-2.new.slots.items c.add_list-3.new.slots.items c.args.request.items c.args.reply.items c.args.control.items c.in-Ok.ensures.pool.0 c.in-Ok.ensures.slots.0 c.add_list.ensures.pool c.add_list.ensures.slots c.add_list-2.ensures.pool c.add_list-2.ensures.slots c.add_list-3.ensures.pool c.add_list-3.ensures.slots) in
    let steps = c.cut_and_push.new.steps.items in
    let v = c.new.result in
    let e : Step = record { change = Turned v None; slots = c.len-4.result; pairs = c.len-5.result } in
    let N = c.cut_and_push.ensures.steps in
    let Z = c.new.ensures.items in
    let initials = start.1 in
    let slots_len : e.slots ≡ length slots = omega (arith, c.len-4.ensures, c.new-slots.result.all.ok.0) in
    let pairs_len : e.pairs ≡ length pool = omega (arith, c.len-5.ensures, c.add_list-3.new.pool.ok.0) in
    let H : Housed e.slots e.pairs slots = rw (slots_len, pairs_len) (housed_all (length pool) slots start.2) in
    let few : IsLimited given = limited_given given c.requires.request_fits c.requires.reply_fits c.requires.control_fits in
    record {
      placed = omega (arith, ap length N);
      beside = c.cut_and_push.ensures.nexts ∙ sym (ap length N);
      below = below-alone slots steps v e initials N refl Z;
      counted = counted-alone slots steps v e initials N refl Z;
      counts = counts-alone slots steps v e initials N refl Z (length slots) (length pool) (omega (arith, slots_len)) (omega (arith, pairs_len));
      grow = grow-alone slots steps v e initials N refl Z;
      housed = housed-alone slots steps v e initials N refl Z H;
      standing = standing-alone slots steps v e initials N refl Z;
      limited = limited-alone slots steps v e initials N refl Z pool (subst IsLimited (sym start.0) few);
    }

pub returns-clause-ok : goal.returns-clause-ok
returns-clause-ok c =
    let parts = c.in-Ok.parts in
    let pool = c.add_list-3.new.pool.items in
    let slots = c.new-slots.result.all.items in
    let same = c.new-slots.ensures in
    let given : State = record { request = c.args.request.items; reply = c.args.reply.items; control = c.args.control.items } in
    let Start : List Slot → Type 0 = λ xs. (shown_state pool xs ≡ given) × (map at_initial xs ≡ xs) × PairsWithin (length pool) xs in
    let start = subst Start (sym same) (started-state parts.pool.items c.add_list.new.pool.items c.add_list-2.new.pool.items pool parts.slots.items c.add_list.new.slots.items c.add_list-2.new.slots.items c.add_list-3.new.slots.items c.args.request.items c.args.reply.items c.args.control.items c.in-Ok.ensures.pool.0 c.in-Ok.ensures.slots.0 c.add_list.ensures.pool c.add_list.ensures.slots c.add_list-2.ensures.pool c.add_list-2.ensures.slots c.add_list-3.ensures.pool c.add_list-3.ensures.slots) in
    let v = c.new.result in
    let e : Step = record { change = Turned v None; slots = c.len-4.result; pairs = c.len-5.result } in
    ap (λ (xs : List State). let h : History = record { states = xs; place = 0 } in h)
    (states-alone slots c.cut_and_push.new.steps.items v e start.1 c.cut_and_push.ensures.steps refl c.new.ensures.items pool ∙ ap (λ (x : State). x ∷ []) start.0)
