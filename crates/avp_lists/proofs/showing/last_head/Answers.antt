use Rattle.std.proofs.Common.{◌≡◌, ◌<◌, ℕ, ◌+◌, Option, true, false, List, length, get_or, drop, sym, ap, subst, ◌∙◌}
use Rattle.std.specs.List.{list_any}
use Rattle.std.specs.Option.{IfNone}
use Rattle.avp_lists.specs.declared.live.LivePlaces.{LivePlaces}
use Rattle.avp_lists.specs.declared.slots.End.TheVariants.{Head}
use Rattle.avp_lists.specs.internal.Plans.{places_in}
use Rattle.avp_lists.specs.internal.Shown.{passes_at, shows_at, shows_passing_at}
use Rattle.avp_lists.specs.internal.Slots.{slot_at}
use Rattle.avp_lists.specs.Tags.{is_selected}
use Rattle.avp_lists.proofs.LivePairs.{at-live, any-all, found-at, any-back}
use Rattle.avp_lists.proofs.PlacesInOrder.{place-within}
use Rattle.avp_lists.proofs.showing.last_head.Goals as goal

pub last_with-requires-clause-live : goal.last_with-requires-clause-live
last_with-requires-clause-live c = at-live Head c.args.list c.args.slots.now _ (c.as_slice-places.ensures.value ∙ ap (λ (p : LivePlaces). p.head.items) c.of.ensures ∙ c.requires.live Head c.args.list)

pub returns-in_err-at-clause-none : goal.returns-in_err-at-clause-none
returns-in_err-at-clause-none c =
    let slots = c.args.slots.now in
    let is = c.as_slice-places.ensures.value ∙ ap (λ (p : LivePlaces). p.head.items) c.of.ensures ∙ c.requires.live Head c.args.list in
    let none = sym (any-all Head c.args.list (is_selected c.args.selection c.args.id) c.args.pool.now slots) ∙ sym (ap (list_any (passes_at (is_selected c.args.selection c.args.id) c.args.pool.now slots)) is) ∙ c.in_err-at.ensures.none in
    let P : Option ℕ → Type 0 = λ o. IfNone o (list_any (shows_passing_at Head c.args.list (is_selected c.args.selection c.args.id) c.args.pool.now) slots ≡ false) in
    subst P (sym c.from_residual.ensures) none

pub returns-clause-shown : goal.returns-clause-shown
returns-clause-shown c =
    let which = c.args.list in
    let slots = c.args.slots.now in
    let k = c.in_ok-at.at in
    let is = c.as_slice-places.ensures.value ∙ ap (λ (p : LivePlaces). p.head.items) c.of.ensures ∙ c.requires.live Head which in
    let found = c.in_ok-at.ensures.found in
    let P : List ℕ → Type 0 = λ xs. k < length xs in
    let lt : k < length (places_in (shows_at Head which) 0 slots) = subst P is found.0 in
    let Q : List ℕ → Type 0 = λ xs. passes_at (is_selected c.args.selection c.args.id) c.args.pool.now slots (get_or xs k 0) ≡ true in
    let R : List ℕ → Type 0 = λ xs. (get_or xs k 0 < length slots) × (shows_passing_at Head which (is_selected c.args.selection c.args.id) c.args.pool.now (slot_at slots (get_or xs k 0)) ≡ true) in
    subst R (sym is) (place-within (shows_at Head which) slots k lt, found-at Head which (is_selected c.args.selection c.args.id) c.args.pool.now slots k lt (subst Q is found.1))

pub returns-clause-none_after : goal.returns-clause-none_after
returns-clause-none_after c =
    let which = c.args.list in
    let slots = c.args.slots.now in
    let k = c.in_ok-at.at in
    let is = c.as_slice-places.ensures.value ∙ ap (λ (p : LivePlaces). p.head.items) c.of.ensures ∙ c.requires.live Head which in
    let P : List ℕ → Type 0 = λ xs. k < length xs in
    let lt : k < length (places_in (shows_at Head which) 0 slots) = subst P is c.in_ok-at.ensures.found.0 in
    let Q : List ℕ → Type 0 = λ xs. list_any (passes_at (is_selected c.args.selection c.args.id) c.args.pool.now slots) (drop (k + 1) xs) ≡ false in
    let R : List ℕ → Type 0 = λ xs. list_any (shows_passing_at Head which (is_selected c.args.selection c.args.id) c.args.pool.now) (drop (get_or xs k 0 + 1) slots) ≡ false in
    subst R (sym is) (sym (any-back Head which (is_selected c.args.selection c.args.id) c.args.pool.now slots k lt) ∙ subst Q is c.in_ok-at.ensures.none_after)
