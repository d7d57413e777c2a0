use Rattle.std.proofs.Common.{◌≡◌, ◌<◌, Option, Some, None, ℕ, List, true, false, length, take, Bool}
use Rattle.std.specs.Option.{IfSome, IfNone}
use Rattle.std.specs.List.{list_any}
use Rattle.avp_lists.specs.declared.pairs.Pair.{Pair}
use Rattle.avp_lists.specs.declared.lists.List.{List as WhichList}
use Rattle.avp_lists.specs.declared.slots.End.TheVariants.{Head, Tail}
use Rattle.avp_lists.specs.declared.slots.Slot.{Slot}
use Rattle.avp_lists.specs.internal.Shown.{shows_passing, shows_passing_at, ahead_at}
use Rattle.avp_lists.specs.internal.Slots.{slot_at}
use Rattle.avp_lists.specs.Tags.{is_selected}
use Rattle.avp_lists.proofs.Finding.{first-head, first-tail, none-at_all}
use Rattle.avp_lists.proofs.showing.first_slot.Goals as goal

-- where none is at the head
tail_before : (which : WhichList) (test : Pair → Bool) (pool : List Pair) (c : List Slot) (o : Option ℕ) → list_any (shows_passing_at Head which test pool) c ≡ false → IfSome o (λ at. (at < length c) × (shows_passing_at Tail which test pool (slot_at c at) ≡ true)) → IfSome o (λ at. list_any (shows_passing_at Tail which test pool) (take at c) ≡ false) → IfSome o (λ at. list_any (shows_passing which test pool) (ahead_at at c) ≡ false)
tail_before which test pool c None heads shown none = tt
tail_before which test pool c (Some at) heads shown none = (first-tail which test pool c at shown.0 shown.1 none heads).1

tail_none : (which : WhichList) (test : Pair → Bool) (pool : List Pair) (c : List Slot) (o : Option ℕ) → list_any (shows_passing_at Head which test pool) c ≡ false → IfNone o (list_any (shows_passing_at Tail which test pool) c ≡ false) → IfNone o (list_any (shows_passing which test pool) c ≡ false)
tail_none which test pool c None heads none = none-at_all which test pool c heads none
tail_none which test pool c (Some at) heads none = tt

pub returns-in-Some-clause-none_before : goal.returns-in-Some-clause-none_before
returns-in-Some-clause-none_before c =
    let e = c.in-Some.ensures in
    let shown = e.shown in
    let first = first-head c.args.list (is_selected c.args.selection c.args.id) c.args.pool.now c.args.slots.now c.in-Some.place shown.1 e.none_after in
    first.1

pub returns-in-None-clause-none_before : goal.returns-in-None-clause-none_before
returns-in-None-clause-none_before c = tail_before c.args.list (is_selected c.args.selection c.args.id) c.args.pool.now c.args.slots.now c.first_tail.result c.in-None.ensures.none c.first_tail.ensures.shown c.first_tail.ensures.none_before

pub returns-in-None-clause-none : goal.returns-in-None-clause-none
returns-in-None-clause-none c = tail_none c.args.list (is_selected c.args.selection c.args.id) c.args.pool.now c.args.slots.now c.first_tail.result c.in-None.ensures.none c.first_tail.ensures.none
