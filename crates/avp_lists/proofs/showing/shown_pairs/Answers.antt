use Rattle.std.proofs.Common.{◌∙◌, ◌++◌, List, map, ap, ap₂}
use Rattle.std.specs.Prelude.{reverse}
use Rattle.avp_lists.specs.declared.live.LivePlaces.{LivePlaces}
use Rattle.avp_lists.specs.declared.pairs.Pair.{Pair}
use Rattle.avp_lists.specs.declared.slots.End.TheVariants.{Head, Tail}
use Rattle.avp_lists.specs.internal.Shown.{pair_at}
use Rattle.avp_lists.proofs.LivePairs.{at-live, live-pairs}
use Rattle.avp_lists.proofs.showing.shown_pairs.Goals as goal

pub push_shown-requires-clause-live : goal.push_shown-requires-clause-live
push_shown-requires-clause-live c = at-live Head c.args.list c.args.slots.now _ (c.deref.ensures.value ∙ ap (λ (p : LivePlaces). p.head.items) c.of-places.ensures ∙ c.requires.live Head c.args.list)

pub push_shown-requires-2-clause-live : goal.push_shown-requires-2-clause-live
push_shown-requires-2-clause-live c = at-live Tail c.args.list c.args.slots.now _ (c.deref-2.ensures.value ∙ ap (λ (p : LivePlaces). p.tail.items) c.of-places.ensures ∙ c.requires.live Tail c.args.list)

pub returns : goal.returns
returns c =
    let heads = live-pairs Head c.args.list c.args.pool.now c.args.slots.now _ (c.deref.ensures.value ∙ ap (λ (p : LivePlaces). p.head.items) c.of-places.ensures ∙ c.requires.live Head c.args.list) in
    let tails = live-pairs Tail c.args.list c.args.pool.now c.args.slots.now _ (c.deref-2.ensures.value ∙ ap (λ (p : LivePlaces). p.tail.items) c.of-places.ensures ∙ c.requires.live Tail c.args.list) in
    let made = c.in_ok-push_shown.ensures ∙ ap (λ (ps : List Pair). ps ++ map (pair_at c.args.pool.now c.args.slots.now) c.deref.result.now) c.new-made.ensures.items in
    c.in_ok-push_shown-2.ensures
    ∙ ap (λ (ps : List Pair). ps ++ map (pair_at c.args.pool.now c.args.slots.now) c.deref-2.result.now) (c.reverse.ensures.items ∙ ap reverse made)
    ∙ ap₂ (λ (hs ts : List Pair). reverse hs ++ ts) heads tails
