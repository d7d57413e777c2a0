use Rattle.std.proofs.Common.{ℕ, List, length, ap, arith}
use Rattle.std.specs.List.{filter}
use Rattle.avp_lists.specs.internal.Live.{before}
use Rattle.avp_lists.proofs.Lengths.{filter_short}
use Rattle.avp_lists.proofs.live.turn_place.Goals as goal

pub insert-requires : goal.insert-requires
insert-requires c =
    let test = before c.args.place in
    let places = c.args.places.now in
    let same = ap (λ (xs : List ℕ). length (filter test xs)) c.as_slice.ensures.value in
    omega (arith, c.count_before-at.ensures, same, filter_short test places.items, places.ok.0)
