-- Matching is that of the textbook.
use Rattle.std.proofs.Common.{◌≡◌, ◌↔◌, ℕ, ◌≤◌, List, Option, None, Some, IsTrue, is_some, length, refl, sym, subst, false, true≢false, arith}
use Rattle.std.specs.Option.{option_and_then}
use Rattle.regex_hir.proofs.OptionLemmas.{value_of_IsSome}
use Rattle.regex.proofs.SearchLemmas.{leftmost_attempt}
use Rattle.regex.specs.Patterns.{Re, Matches, find}
use Rattle.regex.proofs.ForCallers.{find_sound, find_complete}
use Rattle.avp_patterns.specs.Matching.{HasMatch, matches}
use Rattle.avp_patterns.specs.Patterns.{Written, expression_of}

module _ (octets : List ℕ) where
  -- some run of the octets is in the language of this expression, if it is one
  HasRun : Option Re → Type 0
  HasRun o = (re : Re) × (o ≡ Some re) × (i : ℕ) × (j : ℕ) × (i ≤ length octets) × Matches octets re i j

  run_found : (o : Option Re) → IsTrue (is_some (option_and_then (λ re. find re octets 0) o)) → HasRun o
  unfolding HasRun
  run_found None p = absurd (true≢false (sym p))
  run_found (Some re) p =
      let m = value_of_IsSome _ p in
      let s = find_sound re octets 0 m.0 m.1 in
      (re, refl, m.0.start, m.0.trace.end, (leftmost_attempt re octets false 0 m.0 m.1).1, s.1)

  found_run : (o : Option Re) → HasRun o → IsTrue (is_some (option_and_then (λ re. find re octets 0) o))
  unfolding HasRun
  found_run o (re, e, i, j, within, run) =
      subst (λ (x : Option Re). IsTrue (is_some (option_and_then (λ re. find re octets 0) x))) (sym e)
      (find_complete re octets 0 i j (omega arith) within run)

pub by_language : (w : Written) (octets : List ℕ) → IsTrue (matches w octets) ↔ HasMatch w octets
unfolding matches HasRun
by_language w octets = (run_found octets (expression_of w), found_run octets (expression_of w))
