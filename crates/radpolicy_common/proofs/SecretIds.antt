-- The ids that names of a dictionary make secret, one name after another.
use Rattle.std.proofs.Common.{◌≡◌, Bool, true, false, ◌||◌, ◌&&◌, ℕ, List, [], ◌∷◌, ◌++◌, None, Some, inl, inr, ◌+◌, ◌∙◌, suc, take, get_or, refl, sym, subst, arith}
use Rattle.std.specs.List.{list_any, slice_get}
use Rattle.std.proofs.Math.Seq.{take-suc}
use Rattle.std.proofs.lemmas.List.{take_all}
use Rattle.std.proofs.lemmas.Option.{get_or_from_slice_get, slice_get_cases, slice_get_within}
use Rattle.std.proofs.lemmas.List.Folds.{list_any-append}
use Rattle.avp_lists.specs.declared.pairs.AttrId.{AttrId}
use Rattle.avp_lists.specs.Pairs.{id_eq}
use Rattle.avp_lists.proofs.Equality.{same_id}
use Rattle.avp_dict.specs.Dictionary.{Dictionary}
use Rattle.avp_dict.specs.Names.{named}
use Rattle.avp_dict.specs.declared.entries.Named.{Named}
use Rattle.radpolicy_common.specs.SecretAttributes.{is_secret_name, is_untold, makes_secret, stands_for}
use Rattle.radpolicy_common.specs.internal.SecretIds.{AreFoundIn, is_secret_alone}

module _ (d : Dictionary) (names : List (List ℕ)) (ids : List AttrId) (name : List ℕ) (before : AreFoundIn d names ids) where
  pub stands_for_none : named name d ≡ None → AreFoundIn d (names ++ name ∷ []) ids
  stands_for_none none id = grind (arith, before id, none, list_any-append (makes_secret id d) names (name ∷ []))

  module _ (found : Named) (named_so : named name d ≡ Some found) where
    stands : (id : AttrId) → stands_for id d name ≡ id_eq id found.id
    stands id = rw named_so refl

    pub is_known : is_secret_alone found.id d || list_any (id_eq found.id) ids ≡ true → AreFoundIn d (names ++ name ∷ []) ids
    is_known known id =
        elim (id_eq id found.id) as (λ b. id_eq id found.id ≡ b → is_secret_alone id d || list_any (id_eq id) ids ≡ is_secret_alone id d || list_any (makes_secret id d) (names ++ name ∷ [])) [
          | true ↦ λ e. (
              let here : is_secret_alone id d || list_any (id_eq id) ids ≡ true = subst (λ (x : AttrId). is_secret_alone x d || list_any (id_eq x) ids ≡ true) (sym (same_id id found.id e)) known in
              grind (arith, here, before id, list_any-append (makes_secret id d) names (name ∷ [])))
          | false ↦ λ e. grind (arith, e, stands id, before id, list_any-append (makes_secret id d) names (name ∷ []))
        ] refl

    pub is_plain : is_secret_name name || is_untold found.id d ≡ false → AreFoundIn d (names ++ name ∷ []) ids
    is_plain plain id =
        elim (id_eq id found.id) as (λ b. id_eq id found.id ≡ b → is_secret_alone id d || list_any (id_eq id) ids ≡ is_secret_alone id d || list_any (makes_secret id d) (names ++ name ∷ [])) [
          | true ↦ λ e. (
              let here : is_secret_name name || is_untold id d ≡ false = subst (λ (x : AttrId). is_secret_name name || is_untold x d ≡ false) (sym (same_id id found.id e)) plain in
              grind (arith, here, before id, list_any-append (makes_secret id d) names (name ∷ [])))
          | false ↦ λ e. grind (arith, e, stands id, before id, list_any-append (makes_secret id d) names (name ∷ []))
        ] refl

    pub is_secret : is_secret_name name || is_untold found.id d ≡ true → AreFoundIn d (names ++ name ∷ []) (ids ++ found.id ∷ [])
    is_secret secret id =
        elim (id_eq id found.id) as (λ b. id_eq id found.id ≡ b → is_secret_alone id d || list_any (id_eq id) (ids ++ found.id ∷ []) ≡ is_secret_alone id d || list_any (makes_secret id d) (names ++ name ∷ [])) [
          | true ↦ λ e. (
              let here : is_secret_name name || is_untold id d ≡ true = subst (λ (x : AttrId). is_secret_name name || is_untold x d ≡ true) (sym (same_id id found.id e)) secret in
              grind (arith, e, here, stands id, before id, list_any-append (id_eq id) ids (found.id ∷ []), list_any-append (makes_secret id d) names (name ∷ [])))
          | false ↦ λ e. grind (arith, e, stands id, before id, list_any-append (id_eq id) ids (found.id ∷ []), list_any-append (makes_secret id d) names (name ∷ []))
        ] refl

-- ---- from the first name to the last

pub none_found : (d : Dictionary) → AreFoundIn d [] []
none_found d id = refl

pub next_name : (d : Dictionary) (names : List (List ℕ)) (k : ℕ) (name : List ℕ) (ids : List AttrId) → slice_get names k ≡ Some name → AreFoundIn d (take k names ++ name ∷ []) ids → AreFoundIn d (take (k + 1) names) ids
next_name d names k name ids there found =
    let grown = take-suc names k name (slice_get_within names k name there) in
    let own = subst (λ (x : List ℕ). AreFoundIn d (take k names ++ x ∷ []) ids) (sym (get_or_from_slice_get names k name name there)) found in
    let next : suc k ≡ k + 1 = omega arith in
    subst (λ (n : ℕ). AreFoundIn d (take n names) ids) next (subst (λ (xs : List (List ℕ)). AreFoundIn d xs ids) (sym grown) own)

pub no_more_names : (d : Dictionary) (names : List (List ℕ)) (k : ℕ) (ids : List AttrId) → slice_get names k ≡ None → AreFoundIn d (take k names) ids → AreFoundIn d names ids
no_more_names d names k ids none found =
    elim (slice_get_cases names k).1 as (λ _. AreFoundIn d names ids) [
      | inl here ↦ absurd (cc (sym here.2 ∙ none))
      | inr past ↦ subst (λ (xs : List (List ℕ)). AreFoundIn d xs ids) (take_all k names past.0) found
    ]
