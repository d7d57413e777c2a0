use Rattle.std.proofs.Common.{◌∙◌, ◌++◌, List, ap, ap₂}
use Rattle.std.specs.List.{filter}
use Rattle.avp_lists.specs.declared.live.LivePlaces.{LivePlaces}
use Rattle.avp_lists.specs.declared.slots.End.TheVariants.{Head, Tail}
use Rattle.avp_lists.specs.internal.Plans.{is_taken_at}
use Rattle.avp_lists.proofs.LivePairs.{at-live}
use Rattle.avp_lists.proofs.planning.find_taken_places.Goals as goal

pub push_taken-requires-clause-live : goal.push_taken-requires-clause-live
push_taken-requires-clause-live c =
    let which = c.args.edit.now.list in
    at-live Head which c.args.slots.now _ (c.deref.ensures.value ∙ ap (λ (p : LivePlaces). p.head.items) c.of-places.ensures ∙ c.requires.live Head which)

pub push_taken-requires-2-clause-live : goal.push_taken-requires-2-clause-live
push_taken-requires-2-clause-live c =
    let which = c.args.edit.now.list in
    at-live Tail which c.args.slots.now _ (c.deref-2.ensures.value ∙ ap (λ (p : LivePlaces). p.tail.items) c.of-places.ensures ∙ c.requires.live Tail which)

pub returns : goal.returns
returns c =
    let which = c.args.edit.now.list in
    let q = is_taken_at c.args.selection c.args.edit.now c.args.pool.now c.args.slots.now in
    let heads = c.deref.ensures.value ∙ ap (λ (p : LivePlaces). p.head.items) c.of-places.ensures ∙ c.requires.live Head which in
    let tails = c.deref-2.ensures.value ∙ ap (λ (p : LivePlaces). p.tail.items) c.of-places.ensures ∙ c.requires.live Tail which in
    c.in_ok-push_taken-2.ensures
    ∙ ap (λ (xs : List _). xs ++ filter q c.deref-2.result.now) (c.in_ok-push_taken.ensures ∙ ap (λ (xs : List _). xs ++ filter q c.deref.result.now) c.new-taken.ensures.items)
    ∙ ap₂ (λ (xs ys : List _). filter q xs ++ filter q ys) heads tails
