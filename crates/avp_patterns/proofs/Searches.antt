-- What a compiled pattern searches for, and what its searches come to.
use Rattle.std.proofs.Common.{◌≡◌, ℕ, ◌+◌, ◌*◌, ◌≤◌, true, false, cond, true≢false, List, [], ◌∷◌, map, length, get_or, Option, None, Some, IsSome, IsSomeAnd, w8, Fits, is_some, option_map, refl, sym, ap, ap₂, ◌∙◌, subst, arith, nat_le}
use Rattle.std.proofs.lemmas.Bool.Decides.{nat_tests}
use Rattle.std.proofs.lemmas.Option.{same_Some}
use Rattle.std.proofs.lemmas.List.Elements.{All-cons, All-nil}
use Rattle.std.specs.List.{All, range_with_len}
use Rattle.std.specs.Option.{option_and_then}
use Rattle.regex_syntax.specs.Brackets.{Nested}
use Rattle.regex_syntax.specs.Grammar.{Names, group_count, read}
use Rattle.regex.specs.Patterns.{Re, Match, SameCaptures, find, slot_of, span, Reads}
use Rattle.regex.specs.Names.{names_of}
use Rattle.regex.specs.Bytes.{IsCapturesOf, captures_span, IsReadFromSource, regex_config, regex_pattern, regex_source}
use Rattle.regex.specs.Writes.{both, group_of}
use Rattle.regex.specs.Search.{group_span}
use Rattle.regex.specs.declared.bytes.captures.Captures.{Captures}
use Rattle.regex.specs.declared.bytes.regex.Regex.{Regex}
use Rattle.regex.proofs.ForCallers.{found_alike, is_match_alike, span_alike}
use Rattle.avp_patterns.specs.Matching.{groups_in, match_in, matches, spans_of}
use Rattle.avp_patterns.specs.Patterns.{Written, expression_in, expression_of, options, unicode_at, within}
use Rattle.avp_patterns.specs.declared.flags.PatternFlags.{PatternFlags}
use Rattle.avp_patterns.specs.internal.Searching.{SearchesFor}

-- what the grammar read, within the depth
pub alike_within : (o : Option (Nested Re × Names)) (a : Re) (names : Names) →
    IsSomeAnd o (λ (re, found). (re.depth ≤ 250) × SameCaptures a re.value × (names ≡ found) × (group_count a ≤ length names)) →
    IsSomeAnd (option_and_then (within 250) o) (SameCaptures a)
alike_within None a names p = absurd p
alike_within (Some x) a names p =
    let shallow : nat_le x.0.depth 250 ≡ true = grind (arith, nat_tests) in
    subst (λ b. IsSomeAnd (cond b (Some x.0.value) None) (SameCaptures a)) (sym shallow) p.1

pub searches_in : (r : Regex) (flags : PatternFlags) → regex_config r ≡ options flags → IsReadFromSource r →
    IsSomeAnd (expression_in (record { text = regex_source r; flags = flags })) (SameCaptures (regex_pattern r))
unfolding expression_in Reads
searches_in r flags config read = alike_within _ (regex_pattern r) _ (subst (λ c. Reads c (regex_source r) r.pattern.program.hir (names_of r.pattern.names.items)) config read)

-- a text without a group that sets `u` is read as it stands
pub as_read : (w : Written) → unicode_at false w.text ≡ None → expression_of w ≡ expression_in w
unfolding expression_of
as_read w e = ap (λ (o : Option ℕ). cond (is_some o) None (expression_in w)) e

without : (o : Option ℕ) (read : Option Re) → IsSome (cond (is_some o) None read) → o ≡ None
without None read p = refl
without (Some at) read p = absurd (true≢false (sym p))

-- and a pattern is such a text
pub of_octets : (w : Written) → IsSome (expression_of w) → unicode_at false w.text ≡ None
unfolding expression_of
of_octets w p = without (unicode_at false w.text) (expression_in w) p

pub searches_for : (r : Regex) (flags : PatternFlags) → regex_config r ≡ options flags → IsReadFromSource r →
    IsSome (expression_of (record { text = regex_source r; flags = flags })) →
    SearchesFor (record { text = regex_source r; flags = flags }) (regex_pattern r)
searches_for r flags config read is_read =
    let w : Written = record { text = regex_source r; flags = flags } in
    subst (λ o. IsSomeAnd o (SameCaptures (regex_pattern r))) (sym (as_read w (of_octets w is_read))) (searches_in r flags config read)

module _ (hay : List ℕ) (bytes : (k : ℕ) → Fits w8 (get_or hay k 0)) (a : Re) where
  match_over : (o : Option Re) → IsSomeAnd o (SameCaptures a) →
      is_some (find a hay 0) ≡ is_some (option_and_then (λ re. find re hay 0) o)
  match_over None p = absurd p
  match_over (Some re) p = is_match_alike p hay (λ k. (bytes k).fits) false 0

  pub matched : (w : Written) → SearchesFor w a → is_some (find a hay 0) ≡ matches w hay
  unfolding matches
  matched w p = match_over (expression_of w) p

  groups_alike : (m n : Match) → span n ≡ span m → slot_of n ≡ slot_of m → spans_of n ≡ spans_of m
  groups_alike m n s e =
      ap₂ ◌∷◌ (ap Some s) (ap (λ (slots : ℕ → Option ℕ). map (λ k. both (slots (2 * k)) (slots (2 * k + 1))) (range_with_len 1 9)) e)

  groups_over : (o : Option Re) → IsSomeAnd o (SameCaptures a) → (m : Match) → find a hay 0 ≡ Some m →
      option_map spans_of (option_and_then (λ re. find re hay 0) o) ≡ Some (spans_of m)
  groups_over None p m e = absurd p
  groups_over (Some re) p m e =
      let n = found_alike p hay (λ k. (bytes k).fits) false 0 m e in
      let same : span n.0 ≡ span m =
      same_Some _ _ (sym (ap (option_map span) n.1) ∙ sym (span_alike p hay (λ k. (bytes k).fits) false 0) ∙ ap (option_map span) e)
      in
      ap (option_map spans_of) n.1 ∙ ap Some (groups_alike m n.0 same n.2)

  -- the groups of what was found
  pub captured : (w : Written) → SearchesFor w a → (m : Match) → find a hay 0 ≡ Some m → groups_in w hay ≡ Some (spans_of m)
  captured w p = groups_over (expression_of w) p

  none_mapped : (o : Option Match) → is_some o ≡ false → option_map spans_of o ≡ None
  none_mapped None e = refl
  none_mapped (Some m) e = absurd (true≢false e)

  -- and none where nothing was
  pub not_captured : (w : Written) → SearchesFor w a → find a hay 0 ≡ None → groups_in w hay ≡ None
  unfolding matches
  not_captured w p e = none_mapped (match_in w hay) (sym (matched w p) ∙ ap is_some e)

  -- what the captures tell, one group after another
  pub told : (c : Captures) (m : Match) → IsCapturesOf hay m c →
      captures_span c 0 ∷ captures_span c 1 ∷ captures_span c 2 ∷ captures_span c 3 ∷ captures_span c 4 ∷ captures_span c 5
      ∷ captures_span c 6 ∷ captures_span c 7 ∷ captures_span c 8 ∷ captures_span c 9 ∷ [] ≡ spans_of m
  unfolding group_span
  told c m p =
      let group : (n : ℕ) → 1 ≤ n → captures_span c n ≡ group_of m n = p.2 in
      ap₂ ◌∷◌ (ap Some p.1.whole_is)
      (ap₂ ◌∷◌ (group 1 (omega arith)) (ap₂ ◌∷◌ (group 2 (omega arith)) (ap₂ ◌∷◌ (group 3 (omega arith))
      (ap₂ ◌∷◌ (group 4 (omega arith)) (ap₂ ◌∷◌ (group 5 (omega arith)) (ap₂ ◌∷◌ (group 6 (omega arith))
      (ap₂ ◌∷◌ (group 7 (omega arith)) (ap₂ ◌∷◌ (group 8 (omega arith)) (ap₂ ◌∷◌ (group 9 (omega arith)) refl)))))))))

-- what holds of each of ten
pub each_of_ten : {A : Type 0} (P : A → Type 0) (a : A) → P a → (b : A) → P b → (c : A) → P c → (d : A) → P d → (e : A) → P e → (f : A) → P f → (g : A) → P g → (h : A) → P h → (i : A) → P i → (j : A) → P j → All P (a ∷ b ∷ c ∷ d ∷ e ∷ f ∷ g ∷ h ∷ i ∷ j ∷ [])
each_of_ten P a ha b hb c hc d hd e he f hf g hg h hh i hi j hj =
    All-cons P a (b ∷ c ∷ d ∷ e ∷ f ∷ g ∷ h ∷ i ∷ j ∷ []) ha (All-cons P b (c ∷ d ∷ e ∷ f ∷ g ∷ h ∷ i ∷ j ∷ []) hb (All-cons P c (d ∷ e ∷ f ∷ g ∷ h ∷ i ∷ j ∷ []) hc (All-cons P d (e ∷ f ∷ g ∷ h ∷ i ∷ j ∷ []) hd (All-cons P e (f ∷ g ∷ h ∷ i ∷ j ∷ []) he (All-cons P f (g ∷ h ∷ i ∷ j ∷ []) hf (All-cons P g (h ∷ i ∷ j ∷ []) hg (All-cons P h (i ∷ j ∷ []) hh (All-cons P i (j ∷ []) hi (All-cons P j ([]) hj (All-nil P))))))))))
