-- A printed name of a number beside a tag is read as the number.
use Rattle.std.proofs.Common.{◌≡◌, ℕ, true, List, Option, Some, None, refl, ap, subst, arith, option_map}
use Rattle.std.proofs.lemmas.Bool.{cond_both}
use Rattle.std.proofs.lemmas.Grind.{common_steps}
use Rattle.avp_lists.specs.declared.pairs.AttrId.{AttrId}
use Rattle.avp_dict.specs.Dictionary.{Dictionary, is_number_found, is_value_numbered, last_where, name_numbered, name_of_line, name_standing, number_named, tagged_name_numbered}
use Rattle.avp_dict.specs.declared.entries.ValueLine.{ValueLine}
use Rattle.avp_dict.specs.Soundness.{IsSound, IsSoundTagged}
use Rattle.avp_dict.specs.Words.{number_of}
use Rattle.avp_dict.proofs.PrintedNames.{last_holds, not_number}

module _ (dictionary : Dictionary) (sound : IsSound dictionary) (id : AttrId) (number : ℕ) (name : List ℕ) where
  number_found : (found : Option ℕ) → is_number_found number found ≡ true → found ≡ Some number
  number_found None h = absurd (cc)
  number_found (Some other) h = let e : other ≡ number = grind (arith, common_steps) in ap (λ (n : ℕ). Some n) e

  apart_by : (found : Option ValueLine) → last_where (is_value_numbered id number) dictionary.tagged_values ≡ found → option_map name_of_line found ≡ Some name → number_of name ≡ None
  apart_by None at e = absurd (cc)
  apart_by (Some v) at e =
      let held = last_holds IsSoundTagged (is_value_numbered id number) dictionary.tagged_values v sound.tagged_values at in
      let name_is : v.name ≡ name = cc in
      subst (λ (n : List ℕ). number_of n ≡ None) name_is (not_number v.name held.0)

  apart : name_numbered id number dictionary.tagged_values ≡ Some name → number_of name ≡ None
  unfolding name_numbered
  apart e = apart_by _ refl e

  standing_by : (found : Option (List ℕ)) → name_standing id number dictionary.tagged_values found ≡ Some name → (found ≡ Some name) × (number_named id name dictionary.tagged_values ≡ Some number)
  standing_by None e = absurd (cc)
  standing_by (Some other) e =
      cond_both (is_number_found number (number_named id other dictionary.tagged_values)) _ _ (λ (o : Option (List ℕ)). o ≡ Some name → (Some other ≡ Some name) × (number_named id name dictionary.tagged_values ≡ Some number))
      (λ stands at. let same : other ≡ name = cc in
      (at, subst (λ (n : List ℕ). number_named id n dictionary.tagged_values ≡ Some number) same (number_found (number_named id other dictionary.tagged_values) stands)))
      (λ other_now at. absurd (cc)) e

  pub tagged_name_back : tagged_name_numbered id number dictionary.tagged_values ≡ Some name → (number_of name ≡ None) × (number_named id name dictionary.tagged_values ≡ Some number)
  unfolding tagged_name_numbered
  tagged_name_back e =
      let is = standing_by (name_numbered id number dictionary.tagged_values) e in
      (apart is.0, is.1)
