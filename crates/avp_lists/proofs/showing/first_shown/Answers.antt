use Rattle.std.proofs.Common.{◌≡◌, ◌<◌, ◌∙◌, Some, true, length, sym, ap}
use Rattle.std.proofs.lemmas.List.{get_or_read}
use Rattle.avp_lists.specs.declared.pairs.Pair.{Pair}
use Rattle.avp_lists.specs.internal.Shown.{same_list, shows, no_pair, slot_pair}
use Rattle.avp_lists.specs.internal.Slots.{slot_at}
use Rattle.avp_lists.specs.Tags.{is_selected}
use Rattle.avp_lists.proofs.Edited.{and_first}
use Rattle.avp_lists.proofs.Finding.{found-first, found-none}
use Rattle.avp_lists.proofs.showing.first_shown.Goals as goal

pub returns-in_err-place : goal.returns-in_err-place
returns-in_err-place c = rw c.from_residual.ensures (sym (found-none c.args.list (is_selected c.args.selection c.args.id) c.args.pool.now c.args.slots.now c.in_err-place.ensures.none))

pub returns : goal.returns
returns c =
    let which = c.args.list in
    let pool = c.args.pool.now in
    let place = c.in_ok-place.place in
    let shown = c.in_ok-place.ensures.shown in
    let s = slot_at c.args.slots.now place in
    let live : s.mark.live ≡ true = and_first s.mark.live (same_list which s.list) (and_first (shows which s) (is_selected c.args.selection c.args.id (slot_pair pool s)) shown.1) in
    let within : s.mark.pair < length pool = c.requires.pooled place live in
    ap (λ (p : Pair). Some p) (get_or_read pool s.mark.pair c.index-pool-slots.result within c.index-pool-slots.is no_pair)
    ∙ sym (found-first which (is_selected c.args.selection c.args.id) pool c.args.slots.now place shown.0 shown.1 c.in_ok-place.ensures.none_before)
