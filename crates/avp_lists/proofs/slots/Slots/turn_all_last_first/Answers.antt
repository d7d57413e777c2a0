use Rattle.std.proofs.Common.{◌≡◌, ◌+◌, ◌-◌, ◌<◌, ℕ, List, length, get_or, drop, sym, ap, ◌∙◌, arith}
use Rattle.std.proofs.lemmas.List.{drop_more}
use Rattle.avp_lists.specs.internal.Slots.{turn, turn_all}
use Rattle.avp_lists.proofs.Turning.{turn_over, length-turn_all}
use Rattle.avp_lists.proofs.slots.Slots.turn_all_last_first.Goals as goal

pub turn-requires : goal.turn-requires
turn-requires c =
    let places = c.args.places.now in
    let end = c.loop-end.end in
    let inv = c.loop-end.invariant in
    let within : end - 1 < length places = omega (arith, inv.within, c.loop-end-test.true) in
    let long = ap length inv.turned ∙ length-turn_all (drop end places) c.args.self.now.all.items in
    omega (arith, c.requires (end - 1) within, long)

pub loop-end-preserved : goal.loop-end-preserved
loop-end-preserved c =
    let places = c.args.places.now in
    let all = c.args.self.now.all.items in
    let end = c.loop-end.end in
    let inv = c.loop-end.invariant in
    let at = get_or places (end - 1) 0 in
    let within : end - 1 < length places = omega (arith, inv.within, c.loop-end-test.true) in
    let one : end - 1 + 1 ≡ end = omega (arith, c.loop-end-test.true) in
    let rest = drop end places in
    record {
      within = omega (arith, inv.within);
      turned =
          c.turn.ensures
          ∙ ap (λ (xs : List _). turn xs at) inv.turned
          ∙ turn_over rest all at
          ∙ ap (λ (n : ℕ). turn_all (drop n places) (turn all at)) (sym one)
          ∙ ap (λ (xs : List ℕ). turn_all xs all) (sym (drop_more places (end - 1) 0 within));
    }
