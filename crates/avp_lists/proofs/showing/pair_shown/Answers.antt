use Rattle.std.proofs.Common.{◌≡◌, ◌∙◌, ◌-◌, List, length, sym, ap, arith}
use Rattle.std.specs.List.{filter, slice_get}
use Rattle.avp_lists.specs.declared.live.LivePlaces.{LivePlaces}
use Rattle.avp_lists.specs.declared.pairs.Pair.{Pair}
use Rattle.avp_lists.specs.declared.slots.End.TheVariants.{Head, Tail}
use Rattle.avp_lists.specs.internal.Shown.{shows_at}
use Rattle.avp_lists.proofs.Finding.{get_at_head, get_at_tail}
use Rattle.avp_lists.proofs.LivePairs.{at-live, live-pairs}
use Rattle.avp_lists.proofs.LivePlaces.{length-places}
use Rattle.avp_lists.proofs.showing.pair_shown.Goals as goal

pub pair_of-requires-clause-live : goal.pair_of-requires-clause-live
pair_of-requires-clause-live c = at-live Head c.args.list c.args.slots.now _ (c.deref.ensures.value ∙ ap (λ (p : LivePlaces). p.head.items) c.of-places.ensures ∙ c.requires.live Head c.args.list)

pub pair_of-requires-else-at-heads-clause-live : goal.pair_of-requires-else-at-heads-clause-live
pair_of-requires-else-at-heads-clause-live c = at-live Tail c.args.list c.args.slots.now _ (c.deref-else-at-heads.ensures.value ∙ ap (λ (p : LivePlaces). p.tail.items) c.of-places.ensures ∙ c.requires.live Tail c.args.list)

pub returns-then-at-heads : goal.returns-then-at-heads
returns-then-at-heads c =
    let which = c.args.list in
    let pool = c.args.pool.now in
    let slots = c.args.slots.now in
    let heads = c.len-heads.result in
    let is = ap (λ (p : LivePlaces). p.head.items) c.of-places.ensures ∙ c.requires.live Head which in
    let count : heads ≡ length (filter (shows_at Head which) slots) = omega (arith, c.len-heads.ensures, c.of-places.result.now.head.ok.0, ap length is, length-places (shows_at Head which) 0 slots) in
    c.pair_of.ensures
    ∙ ap (λ (ps : List Pair). slice_get ps (heads - 1 - c.args.at)) (live-pairs Head which pool slots _ (c.deref.ensures.value ∙ is))
    ∙ sym (get_at_head which pool slots heads c.args.at count c.if-at-heads.true)

pub returns-else-at-heads : goal.returns-else-at-heads
returns-else-at-heads c =
    let which = c.args.list in
    let pool = c.args.pool.now in
    let slots = c.args.slots.now in
    let heads = c.len-heads.result in
    let is = ap (λ (p : LivePlaces). p.head.items) c.of-places.ensures ∙ c.requires.live Head which in
    let tails = ap (λ (p : LivePlaces). p.tail.items) c.of-places.ensures ∙ c.requires.live Tail which in
    let count : heads ≡ length (filter (shows_at Head which) slots) = omega (arith, c.len-heads.ensures, c.of-places.result.now.head.ok.0, ap length is, length-places (shows_at Head which) 0 slots) in
    c.pair_of-else-at-heads.ensures
    ∙ ap (λ (ps : List Pair). slice_get ps (c.args.at - heads)) (live-pairs Tail which pool slots _ (c.deref-else-at-heads.ensures.value ∙ tails))
    ∙ sym (get_at_tail which pool slots heads c.args.at count c.if-at-heads.false)
