use Rattle.std.proofs.Common.{◌≡◌, ℕ, length, ap, sym, subst, ◌∙◌}
use Rattle.avp_lists.specs.internal.Slots.{SwapWithin}
use Rattle.avp_lists.proofs.Turning.{length-turn_all}
use Rattle.avp_lists.proofs.slots.Slots.forward.Goals as goal

pub put_other-requires : goal.put_other-requires
put_other-requires c =
    let slots = c.args.self.now.all.items in
    let long : length c.turn_all_last_first.new.self.all.items ≡ length slots = ap length c.turn_all_last_first.ensures ∙ length-turn_all c.args.places.now slots in
    let P : ℕ → Type 0 = λ n. SwapWithin n c.args.by in
    subst P (sym long) c.requires.swap
