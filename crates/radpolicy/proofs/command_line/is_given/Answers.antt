use Rattle.std.proofs.Common.{◌∙◌, ap, Bool, codes, false, sym, List, Option, ℕ}
use Rattle.std.specs.Option.{option_map, option_map_or}
use Rattle.std.specs.Str.{bytes_eq}
use Rattle.radpolicy.proofs.command_line.is_given.Goals as goal

abbrev says_true : Option (List ℕ) → Bool
says_true given = option_map_or (λ text. bytes_eq text (codes "true")) given false

pub returns-in-Some : goal.returns-in-Some
returns-in-Some c = c.eq.ensures ∙ ap says_true (ap (option_map (λ text. text.now)) (sym c.in-Some.is) ∙ c.text_in.ensures)

pub returns-in-None : goal.returns-in-None
returns-in-None c = ap says_true (ap (option_map (λ text. text.now)) (sym c.in-None.is) ∙ c.text_in.ensures)
