-- A pattern that is one of others, looked for from the first on.
use Rattle.std.proofs.Common.{◌≡◌, ℕ, ◌+◌, ◌<◌, ◌≤◌, Bool, true, false, true≢false, ◌||◌, IsTrue, bytes_eq, List, ◌∷◌, drop, get_or, length, refl, sym, ap, ap₂, ◌∙◌, subst}
use Rattle.std.proofs.lemmas.List.{drop_all, drop_more}
use Rattle.std.proofs.lemmas.Slice.Eq.{bytes_eq-Decides}
use Rattle.avp_patterns.specs.Patterns.{Written}
use Rattle.avp_patterns.specs.declared.flags.PatternFlags.{PatternFlags}
use Rattle.avp_unlang.specs.PolicyPatterns.{is_among, same_bool, same_pattern}
use Rattle.avp_unlang.proofs.Comparing.{and_left, and_right}

same_bools : (a b : Bool) → same_bool a b ≡ true → a ≡ b
same_bools true true h = refl
same_bools true false h = sym h
same_bools false true h = h
same_bools false false h = refl

flags_of : Bool → Bool → PatternFlags
flags_of ignore_case multi_line = record { ignore_case = ignore_case; multi_line = multi_line }

written_of : List ℕ → PatternFlags → Written
written_of text flags = record { text = text; flags = flags }

pub same_pattern_is : (v w : Written) → same_pattern v w ≡ true → v ≡ w
unfolding same_pattern flags_of written_of
same_pattern_is v w h =
    let flags = and_right (bytes_eq v.text w.text) _ h in
    let text : v.text ≡ w.text = (bytes_eq-Decides v.text w.text).0 (and_left _ _ h) in
    let cases = same_bools v.flags.ignore_case w.flags.ignore_case (and_left _ _ flags) in
    let lines = same_bools v.flags.multi_line w.flags.multi_line (and_right (same_bool v.flags.ignore_case w.flags.ignore_case) _ flags) in
    let same : v.flags ≡ w.flags = ap₂ flags_of cases lines in
    ap₂ written_of text same

module _ (w : Written) (ps : List Written) where
  left_over : (v : Written) (vs : List Written) → IsTrue (is_among (v ∷ vs) w) → same_pattern v w ≡ false → IsTrue (is_among vs w)
  left_over v vs h other = subst (λ b. IsTrue (b || is_among vs w)) other h

  pub next_among : (place : ℕ) → place < length ps → IsTrue (is_among (drop place ps) w) → same_pattern (get_or ps place w) w ≡ false →
      IsTrue (is_among (drop (place + 1) ps) w)
  next_among place within h other =
      left_over (get_or ps place w) (drop (place + 1) ps) (subst (λ vs. IsTrue (is_among vs w)) (drop_more ps place w within) h) other

  pub none_left : (place : ℕ) → length ps ≤ place → IsTrue (is_among (drop place ps) w) → ⊥
  none_left place past h = true≢false (sym h ∙ ap (λ vs. is_among vs w) (drop_all place ps past))
