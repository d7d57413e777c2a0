-- Whether a pattern matches, by its groups; and what a group captured, by its span.
use Rattle.std.proofs.Common.{◌≡◌, ℕ, List, Option, None, Some, refl, ap, ◌∙◌, is_some, option_map}
use Rattle.avp_patterns.specs.Matching.{groups_in, match_in, matches, spans_of}
use Rattle.avp_patterns.specs.Patterns.{Written}

mapped_some : {A B : Type 0} (f : A → B) (o : Option A) → is_some (option_map f o) ≡ is_some o
mapped_some f None = refl
mapped_some f (Some x) = refl

pub matched_by : (w : Written) (octets : List ℕ) (found : Option (List (Option (ℕ × ℕ)))) → found ≡ groups_in w octets → is_some found ≡ matches w octets
unfolding matches
matched_by w octets found is = ap is_some is ∙ mapped_some spans_of (match_in w octets)
