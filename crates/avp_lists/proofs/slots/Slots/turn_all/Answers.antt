use Rattle.std.proofs.Common.{◌<◌, ◌∙◌, ℕ, List, length, get_or, take, sym, ap, arith}
use Rattle.std.proofs.lemmas.List.{take_more}
use Rattle.avp_lists.specs.declared.slots.Slot.{Slot}
use Rattle.avp_lists.specs.internal.Slots.{turn, turn_all}
use Rattle.avp_lists.proofs.Turning.{turn_all_more, length-turn_all}
use Rattle.avp_lists.proofs.slots.Slots.turn_all.Goals as goal

pub turn-requires : goal.turn-requires
turn-requires c =
    let places = c.args.places.now in
    let i = c.loop-place.place-index in
    let within : i < length places = omega (arith, c.loop-place-test.true) in
    let long = ap length c.loop-place.invariant ∙ length-turn_all (take i places) c.args.self.now.all.items in
    omega (arith, c.requires i within, long)

-- one place more
pub loop-place-preserved : goal.loop-place-preserved
loop-place-preserved c =
    let places = c.args.places.now in
    let i = c.loop-place.place-index in
    let within : i < length places = omega (arith, c.loop-place-test.true) in
    c.turn.ensures
    ∙ ap (λ (s : List Slot). turn s (get_or places i 0)) c.loop-place.invariant
    ∙ sym (turn_all_more (take i places) (get_or places i 0) c.args.self.now.all.items)
    ∙ ap (λ (ns : List ℕ). turn_all ns c.args.self.now.all.items) (sym (take_more places i 0 within))
