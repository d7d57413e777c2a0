use Rattle.std.proofs.Common.{◌≡◌, ◌∙◌, ℕ, List, [], ◌∷◌, ◌++◌, get_or, length, refl, rules, ap, sym, append_assoc, append-nil}
use Rattle.std.proofs.lemmas.Slice.Eq.{text_from_reads}
use Rattle.avp_dict.specs.Printing.{digit_pair_text, ether_text}
use Rattle.avp_forms.proofs.short_texts.ether_text.Goals as goal

six_items : (xs : List ℕ) → length xs ≡ 6 → xs ≡ get_or xs 0 0 ∷ get_or xs 1 0 ∷ get_or xs 2 0 ∷ get_or xs 3 0 ∷ get_or xs 4 0 ∷ get_or xs 5 0 ∷ []
six_items xs h = text_from_reads xs _ h (refl, (refl, (refl, (refl, (refl, (refl, tt))))))

joined : (u v w x y z : List ℕ) → ((((u ++ v) ++ w) ++ x) ++ y) ++ z ≡ u ++ (v ++ (w ++ (x ++ (y ++ (z ++ [])))))
joined u v w x y z = simp (append_assoc, append-nil)

pub returns : goal.returns
returns c =
    let g : ℕ → List ℕ = λ i. digit_pair_text (get_or c.args.octets i 0) in
    rw (c.push_after_colon-5.ensures.items, c.push_after_colon-4.ensures.items, c.push_after_colon-3.ensures.items, c.push_after_colon-2.ensures.items, c.push_after_colon.ensures.items, c.push_digit_pair.ensures.items, c.new-text.ensures)
    (joined (g 0) (58 ∷ g 1) (58 ∷ g 2) (58 ∷ g 3) (58 ∷ g 4) (58 ∷ g 5) ∙ sym (ap ether_text (six_items c.args.octets (search rules))))
