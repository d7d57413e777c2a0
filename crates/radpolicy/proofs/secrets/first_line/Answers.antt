use Rattle.std.proofs.Common.{◌≡◌, ◌==◌, ℕ, Bool, true, false, if◌then◌else◌, List, [], ◌∷◌, length, refl, ap, arith}
use Rattle.std.specs.List.{before_first, onto_first}
use Rattle.avp_dict.specs.Lines.{is_line_end, texts_of}
use Rattle.radpolicy.proofs.secrets.first_line.Goals as goal

-- a text with no lines is empty
some_line : (b : Bool) (o : ℕ) (lines : List (List ℕ)) → (if b then [] ∷ lines else onto_first o lines) ≡ [] → ⊥
some_line true o lines e = omega (arith, ap length e)
some_line false o [] e = omega (arith, ap length e)
some_line false o (line ∷ lines) e = omega (arith, ap length e)

no_text : (os : List ℕ) → texts_of os ≡ [] → os ≡ before_first is_line_end os
no_text [] e = refl
no_text (o ∷ os) e = absurd (some_line (o == 10) o (texts_of os) e)

pub returns-in-None : goal.returns-in-None
returns-in-None c = no_text c.args.text.now c.in-None.ensures.cut
