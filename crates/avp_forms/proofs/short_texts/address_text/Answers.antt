use Rattle.std.proofs.Common.{◌≡◌, ◌∙◌, ℕ, List, [], ◌∷◌, ◌++◌, get_or, length, rules, ap, sym, subst, append_assoc, append-nil}
use Rattle.std.proofs.NetLemmas.Arrays.{four_items}
use Rattle.std.specs.Net.Text.{ipv4_text}
use Rattle.avp_dict.specs.Printing.{address_text}
use Rattle.avp_forms.proofs.short_texts.address_text.Goals as goal

dotted : (a b c d : ℕ) → ipv4_text (a ∷ b ∷ c ∷ d ∷ []) ≡ address_text (a ∷ b ∷ c ∷ d ∷ [])
dotted a b c d = simp (append_assoc, append-nil)

same : (os : List ℕ) → length os ≡ 4 → ipv4_text os ≡ address_text os
same os e = subst (λ xs. ipv4_text xs ≡ address_text xs) (sym (four_items os e)) (dotted (get_or os 0 0) (get_or os 1 0) (get_or os 2 0) (get_or os 3 0))

pub returns : goal.returns
returns c = c.push_ipv4.ensures.items ∙ ap (λ t. t ++ ipv4_text c.args.octets) c.new-text.ensures ∙ same c.args.octets (search rules)
