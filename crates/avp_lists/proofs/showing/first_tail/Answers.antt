use Rattle.std.proofs.Common.{◌≡◌, ◌<◌, ℕ, Option, true, false, List, length, get_or, take, sym, ap, subst, ◌∙◌}
use Rattle.std.specs.List.{list_any}
use Rattle.std.specs.Option.{IfNone}
use Rattle.avp_lists.specs.declared.live.LivePlaces.{LivePlaces}
use Rattle.avp_lists.specs.declared.slots.End.TheVariants.{Tail}
use Rattle.avp_lists.specs.internal.Plans.{places_in}
use Rattle.avp_lists.specs.internal.Shown.{passes_at, shows_at, shows_passing_at}
use Rattle.avp_lists.specs.internal.Slots.{slot_at}
use Rattle.avp_lists.specs.Tags.{is_selected}
use Rattle.avp_lists.proofs.LivePairs.{at-live, any-all, found-at, any-front}
use Rattle.avp_lists.proofs.PlacesInOrder.{place-within}
use Rattle.avp_lists.proofs.showing.first_tail.Goals as goal

pub first_with-requires-clause-live : goal.first_with-requires-clause-live
first_with-requires-clause-live c = at-live Tail c.args.list c.args.slots.now _ (c.as_slice-places.ensures.value ∙ ap (λ (p : LivePlaces). p.tail.items) c.of.ensures ∙ c.requires.live Tail c.args.list)

pub returns-in_err-at-clause-none : goal.returns-in_err-at-clause-none
returns-in_err-at-clause-none c =
    let slots = c.args.slots.now in
    let is = c.as_slice-places.ensures.value ∙ ap (λ (p : LivePlaces). p.tail.items) c.of.ensures ∙ c.requires.live Tail c.args.list in
    let none = sym (any-all Tail c.args.list (is_selected c.args.selection c.args.id) c.args.pool.now slots) ∙ sym (ap (list_any (passes_at (is_selected c.args.selection c.args.id) c.args.pool.now slots)) is) ∙ c.in_err-at.ensures.none in
    let P : Option ℕ → Type 0 = λ o. IfNone o (list_any (shows_passing_at Tail c.args.list (is_selected c.args.selection c.args.id) c.args.pool.now) slots ≡ false) in
    subst P (sym c.from_residual.ensures) none

pub returns-clause-shown : goal.returns-clause-shown
returns-clause-shown c =
    let which = c.args.list in
    let slots = c.args.slots.now in
    let k = c.in_ok-at.at in
    let is = c.as_slice-places.ensures.value ∙ ap (λ (p : LivePlaces). p.tail.items) c.of.ensures ∙ c.requires.live Tail which in
    let found = c.in_ok-at.ensures.found in
    let P : List ℕ → Type 0 = λ xs. k < length xs in
    let lt : k < length (places_in (shows_at Tail which) 0 slots) = subst P is found.0 in
    let Q : List ℕ → Type 0 = λ xs. passes_at (is_selected c.args.selection c.args.id) c.args.pool.now slots (get_or xs k 0) ≡ true in
    let R : List ℕ → Type 0 = λ xs. (get_or xs k 0 < length slots) × (shows_passing_at Tail which (is_selected c.args.selection c.args.id) c.args.pool.now (slot_at slots (get_or xs k 0)) ≡ true) in
    subst R (sym is) (place-within (shows_at Tail which) slots k lt, found-at Tail which (is_selected c.args.selection c.args.id) c.args.pool.now slots k lt (subst Q is found.1))

pub returns-clause-none_before : goal.returns-clause-none_before
returns-clause-none_before c =
    let which = c.args.list in
    let slots = c.args.slots.now in
    let k = c.in_ok-at.at in
    let is = c.as_slice-places.ensures.value ∙ ap (λ (p : LivePlaces). p.tail.items) c.of.ensures ∙ c.requires.live Tail which in
    let P : List ℕ → Type 0 = λ xs. k < length xs in
    let lt : k < length (places_in (shows_at Tail which) 0 slots) = subst P is c.in_ok-at.ensures.found.0 in
    let Q : List ℕ → Type 0 = λ xs. list_any (passes_at (is_selected c.args.selection c.args.id) c.args.pool.now slots) (take k xs) ≡ false in
    let R : List ℕ → Type 0 = λ xs. list_any (shows_passing_at Tail which (is_selected c.args.selection c.args.id) c.args.pool.now) (take (get_or xs k 0) slots) ≡ false in
    subst R (sym is) (sym (any-front Tail which (is_selected c.args.selection c.args.id) c.args.pool.now slots k lt) ∙ subst Q is c.in_ok-at.ensures.none_before)
