-- An attribute's name and a tag are read as the attribute with the tag.
use Rattle.std.proofs.Common.{◌≡◌, ◌∙◌, ℕ, ◌+◌, ◌≤◌, true, false, ◌&&◌, ◌==◌, nat_le, List, [], ◌∷◌, ◌++◌, codes, decimal, Option, Some, None, refl, sym, ap, subst, arith, All, le-leb}
use Rattle.std.specs.List.{list_all, slice_split}
use Rattle.std.proofs.Math.Bool.{and-false}
use Rattle.std.proofs.lemmas.Bool.{and_parts, and_right, cond_both, false_from_ne_true, false≢true}
use Rattle.std.proofs.lemmas.List.Elements.{All-weaker}
use Rattle.std.proofs.lemmas.List.Splits.{slice_split_at, slice_split_none}
use Rattle.std.proofs.lemmas.List.Sums.{AllPass-from_list_all}
use Rattle.avp_dict.specs.Dictionary.{Dictionary, id_named, is_attribute_named, last_where}
use Rattle.avp_dict.specs.Letters.{begins_as_attr, is_name_octet}
use Rattle.avp_dict.specs.Names.{form_of, named}
use Rattle.avp_dict.specs.Soundness.{IsSound, IsSoundAttribute}
use Rattle.avp_dict.specs.Spellings.{is_colon}
use Rattle.avp_dict.specs.Words.{lower, same_name}
use Rattle.avp_dict.specs.declared.entries.AttributeLine.{AttributeLine}
use Rattle.avp_dict.specs.declared.entries.Named.{Named}
use Rattle.avp_dict.specs.declared.forms.Form.{Form}
use Rattle.avp_dict.proofs.Numerals.{IsDigit, decimal_numeral, digits_numeral}
use Rattle.avp_dict.proofs.PrintedNames.{last_holds}
use Rattle.avp_forms.specs.Numerals.{number_within}
use Rattle.avp_forms.specs.Targets.{has_tag, tagged, target_of, untagged}
use Rattle.avp_forms.specs.Values.{max_tag}
use Rattle.avp_forms.specs.declared.profiles.Profile.TheVariants.{Wider}

-- ---- names have no colons

lower_colon : (o : ℕ) → (lower o == 58) ≡ true → o ≡ 58
lower_colon o h =
    cond_both (nat_le 65 o && nat_le o 90) _ _ (λ l. (l == 58) ≡ true → o ≡ 58)
    (λ upper e.
    let parts = and_parts (nat_le 65 o) (nat_le o 90) upper in
    let at : o + 32 ≡ 58 = grind (arith, e) in
    let low : 65 ≤ o = grind (arith, parts.0) in
    absurd (omega (arith, at, low)))
    (λ other e. grind (arith, e)) h

apart_from_colon : (o : ℕ) → is_name_octet o ≡ true → (lower o == 58) ≡ false
apart_from_colon o h =
    false_from_ne_true (lower o == 58) (λ e.
    let is : is_name_octet 58 ≡ true = subst (λ (x : ℕ). is_name_octet x ≡ true) (lower_colon o e) h in
    cc)

no_colon : (o : ℕ) → is_name_octet o ≡ true → is_colon o ≡ false
no_colon o h =
    false_from_ne_true (o == 58) (λ e.
    let at : o ≡ 58 = grind (arith, e) in
    let is : is_name_octet 58 ≡ true = subst (λ (x : ℕ). is_name_octet x ≡ true) at h in
    cc)

-- no name is the same as one with a colon
colon_differs : (a n xs : List ℕ) → list_all is_name_octet a ≡ true → same_name a (n ++ 58 ∷ xs) ≡ false
colon_differs [] [] xs h = refl
colon_differs [] (m ∷ ms) xs h = refl
colon_differs (o ∷ os) [] xs h = rw (apart_from_colon o (and_parts (is_name_octet o) (list_all is_name_octet os) h).0)
colon_differs (o ∷ os) (m ∷ ms) xs h =
    and_right (lower o == lower m) (same_name os (ms ++ 58 ∷ xs)) (colon_differs os ms xs (and_parts (is_name_octet o) (list_all is_name_octet os) h).1)

still_no_number : (n xs : List ℕ) → begins_as_attr n ≡ false → begins_as_attr (n ++ 58 ∷ xs) ≡ false
still_no_number [] xs h = refl
still_no_number (a ∷ []) xs h = rw (and-false (lower a == 97))
still_no_number (a ∷ b ∷ []) xs h = rw (and-false (lower b == 116), and-false (lower a == 97))
still_no_number (a ∷ b ∷ c ∷ []) xs h = rw (and-false (lower c == 116), and-false (lower b == 116), and-false (lower a == 97))
still_no_number (a ∷ b ∷ c ∷ e ∷ []) xs h = rw (and-false (lower e == 114), and-false (lower c == 116), and-false (lower b == 116), and-false (lower a == 97))
still_no_number (a ∷ b ∷ c ∷ e ∷ f ∷ []) xs h = and-false (same_name (a ∷ b ∷ c ∷ e ∷ f ∷ []) (codes "attr-"))
still_no_number (a ∷ b ∷ c ∷ e ∷ f ∷ g ∷ os) xs h = h

module _ (d : Dictionary) (sound : IsSound d) where
  no_line : (n xs : List ℕ) → (found : Option AttributeLine) → last_where (is_attribute_named (n ++ 58 ∷ xs)) d.attributes ≡ found → found ≡ None
  no_line n xs None e = refl
  no_line n xs (Some a) e =
      let held = last_holds (IsSoundAttribute d) (is_attribute_named (n ++ 58 ∷ xs)) d.attributes a sound.attributes e in
      absurd (false≢true (sym (colon_differs a.name n xs held.0.spelled) ∙ held.1))

  no_name : (n xs : List ℕ) → begins_as_attr n ≡ false → named (n ++ 58 ∷ xs) d ≡ None
  unfolding named id_named
  no_name n xs h =
      let none = no_line n xs (last_where (is_attribute_named (n ++ 58 ∷ xs)) d.attributes) refl in
      rw (still_no_number n xs h, none)

  -- ---- the parts

  colon_split : (n : List ℕ) (tag : ℕ) → list_all is_name_octet n ≡ true → tag ≤ max_tag → slice_split is_colon (n ++ 58 ∷ decimal tag) ≡ n ∷ decimal tag ∷ []
  colon_split n tag h low =
      let digits_only = decimal_numeral tag (omega arith) in
      let apart : All (λ x. is_colon x ≡ false) (decimal tag) = All-weaker IsDigit (λ x. is_colon x ≡ false) (λ x is. grind arith) (decimal tag) digits_only.each in
      slice_split_at is_colon n 58 (decimal tag) (All-weaker (λ x. is_name_octet x ≡ true) (λ x. is_colon x ≡ false) no_colon n (AllPass-from_list_all is_name_octet n h)) refl
      ∙ ap (λ (parts : List (List ℕ)). n ∷ parts) (slice_split_none is_colon (decimal tag) apart)

  tag_back : (tag : ℕ) → tag ≤ max_tag → number_within 10 max_tag (decimal tag) ≡ Some tag
  unfolding number_within
  tag_back tag low = rw (digits_numeral tag (decimal tag) (decimal_numeral tag (omega arith)), le-leb tag max_tag low)

  -- ---- targets

  pub tagged_target_back : (n : List ℕ) (name : Named) (tag : ℕ) (form : Form) → list_all is_name_octet n ≡ true → begins_as_attr n ≡ false → named n d ≡ Some name → name.raw ≡ false → form_of name.id d ≡ Some form → has_tag form ≡ true → tag ≤ max_tag → target_of Wider d (n ++ 58 ∷ decimal tag) ≡ Some (tagged name tag)
  unfolding target_of
  tagged_target_back n name tag form octets plain known raw formed tags low =
      rw (no_name n (decimal tag) plain, colon_split n tag octets low, known, raw, formed, tags, tag_back tag low)

  pub plain_target_back : (n : List ℕ) (name : Named) → named n d ≡ Some name → target_of Wider d n ≡ Some (untagged name)
  unfolding target_of
  plain_target_back n name known = rw known
