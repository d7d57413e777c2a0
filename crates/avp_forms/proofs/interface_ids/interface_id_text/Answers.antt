use Rattle.std.proofs.Common.{◌≡◌, ◌∙◌, ℕ, ◌+◌, ◌*◌, List, [], ◌∷◌, ◌++◌, get_or, rules, ap, sym, append_assoc, append-nil}
use Rattle.std.proofs.NetLemmas.Arrays.{eight_items}
use Rattle.avp_forms.specs.InterfaceIds.{group_text, interface_id_text}
use Rattle.avp_forms.proofs.interface_ids.interface_id_text.Goals as goal

joined : (w x y z : List ℕ) → ((w ++ x) ++ y) ++ z ≡ w ++ (x ++ (y ++ (z ++ [])))
joined w x y z = simp (append_assoc, append-nil)

pub returns : goal.returns
unfolding interface_id_text
returns c =
    let os = c.args.octets in
    let g : ℕ → ℕ → List ℕ = λ i j. group_text (get_or os i 0 * 256 + get_or os j 0) in
    rw (c.push_after_colon-3.ensures.items, c.push_after_colon-2.ensures.items, c.push_after_colon.ensures.items, c.push_group_of.ensures.items, c.new-text.ensures)
    (joined (g 0 1) (58 ∷ g 2 3) (58 ∷ g 4 5) (58 ∷ g 6 7) ∙ sym (ap interface_id_text (eight_items c.args.octets (search rules))))
