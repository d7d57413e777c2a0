use Rattle.std.proofs.Common.{◌≡◌, ◌<◌, ◌+◌, ◌-◌, length, ap, ◌∙◌, arith, length-append}
use Rattle.std.specs.Vec.{vec_capacity, vec_len}
use Rattle.avp_lists.specs.internal.Plans.{fresh}
use Rattle.avp_lists.proofs.Starting.{fresh_step, length-fresh}
use Rattle.avp_lists.proofs.slot_store.push_firsts.Goals as goal

pub unwrap-requires : goal.unwrap-requires
unwrap-requires c =
    let slots = c.loop-pair.slots in
    let n = c.loop-pair.pair - c.args.from in
    let long : length slots.items ≡ length c.args.slots.now.items + n = ap length c.loop-pair.invariant.items ∙ length-append c.args.slots.now.items (fresh c.args.list c.args.from n) ∙ ap (λ m. length c.args.slots.now.items + m) (length-fresh c.args.list c.args.from n) in
    let room : vec_len slots < vec_capacity slots = omega (arith, long, slots.ok.0, c.loop-pair.invariant.capacity, c.requires.room, c.loop-pair-test.true, c.loop-pair.auto.pair) in
    c.push.ensures.succeeds room

pub loop-pair-preserved : goal.loop-pair-preserved
loop-pair-preserved c =
    let step = fresh_step c.args.list c.args.from c.loop-pair.pair c.args.slots.now.items c.loop-pair.auto.pair in
    let slots = c.loop-pair.slots in
    let n = c.loop-pair.pair - c.args.from in
    let long : length slots.items ≡ length c.args.slots.now.items + n = ap length c.loop-pair.invariant.items ∙ length-append c.args.slots.now.items (fresh c.args.list c.args.from n) ∙ ap (λ m. length c.args.slots.now.items + m) (length-fresh c.args.list c.args.from n) in
    let room : vec_len slots < vec_capacity slots = omega (arith, long, slots.ok.0, c.loop-pair.invariant.capacity, c.requires.room, c.loop-pair-test.true, c.loop-pair.auto.pair) in
    let done = c.push.ensures.succeeds room in
    record {
      items = grind (arith, done, c.push.ensures.items, c.loop-pair.invariant.items, step);
      capacity = omega (arith, c.push.ensures.capacity, c.loop-pair.invariant.capacity);
    }
