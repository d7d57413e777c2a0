-- What a condition says of attributes is right of its truth and of a server's answer.
use Rattle.std.proofs.Common.{◌≡◌, Bool, true, false, not, ◌&&◌, ◌||◌, cond, List, [], ◌∷◌, ◌++◌, Some, None, refl, sym, ap, ◌∙◌, subst}
use Rattle.std.specs.List.{list_all, list_any}
use Rattle.std.specs.Option.{option_map}
use Rattle.std.proofs.lemmas.List.Folds.{list_any-append}
use Rattle.avp_lists.specs.declared.lists.State.{State}
use Rattle.policy_warnings.specs.Absences.{any_implies, both, compared, either, negated}
use Rattle.policy_warnings.specs.Answers.{Answer, answer_both, answer_compared, answer_either}
use Rattle.policy_warnings.specs.Mentions.{implies, is_there}
use Rattle.policy_warnings.specs.declared.absences.Absence.{Absence}
use Rattle.policy_warnings.specs.declared.mentions.Mention.{Mention}
use Rattle.policy_warnings.proofs.Answered.{and_left, and_right, and_true, any_mono, implies_same, not_false, not_implied, not_true, or_left, or_right, overlooked_first, overlooked_negated, overlooked_next, overlooked_when, present_both, present_negated, present_when}

module _ (s : State) where
  -- m is absent, and overlooked
  abbrev pub misses : (Mention → Absence) → Bool → Mention → Bool
  misses say t m = not (is_there s m) && overlooked_when t (say m)

  -- of a condition that says this, mentions these, is answered a, and is true or not
  abbrev pub Sound : (Mention → Absence) → List Mention → Answer → Bool → Type 0
  Sound say ms a t =
      ((m : Mention) → is_there s m ≡ false → present_when t (say m) ≡ false)
      × ((b : Bool) → a ≡ Some b → t ≡ b)
      × (a ≡ None → list_any (misses say t) ms ≡ true)

  pub sound_same : (say : Mention → Absence) (ms ns : List Mention) (a b : Answer) (t u : Bool) → ms ≡ ns → a ≡ b → t ≡ u → Sound say ms a t → Sound say ns b u
  sound_same say ms ns a b t u e f g p =
      subst (λ z. Sound say ns b z) g (subst (λ z. Sound say ns z t) f (subst (λ z. Sound say z a t) e p))

  pub sound_told : (say : Mention → Absence) (b : Bool) → ((m : Mention) → is_there s m ≡ false → present_when b (say m) ≡ false) → Sound say [] (Some b) b
  sound_told say b h = (h, (λ v e. cc), (λ e. cc))

  pub sound_negated : (say : Mention → Absence) (ms : List Mention) (a : Answer) (t : Bool) → Sound say ms a t → Sound (λ m. negated (say m)) ms (option_map not a) (not t)
  sound_negated say ms None t p = (
    (λ m h. present_negated t (say m) ∙ p.0 m h),
    (λ b e. cc),
    (λ e. any_mono (misses say t) (misses (λ m. negated (say m)) (not t)) (λ m h. ap (λ z. not (is_there s m) && z) (overlooked_negated t (say m)) ∙ h) ms (p.2 refl)),
  )
  sound_negated say ms (Some x) t p =
      let same : t ≡ x = p.1 x refl in
      ((λ m h. present_negated t (say m) ∙ p.0 m h), (λ b e. ap not same ∙ cc), (λ e. cc))

  module _ (say also : Mention → Absence) (xs ys : List Mention) where
    abbrev joint : Mention → Absence
    joint m = both (say m) (also m)

    pub sound_both : (a b : Answer) (t u : Bool) → Sound say xs a t → Sound also ys b u → Sound joint (xs ++ ys) (answer_both a b) (t && u)
    sound_both None b t u p q = (
      (λ m h. present_both t u (say m) (also m) (p.0 m h) (q.0 m h)),
      (λ v e. cc),
      (λ e. list_any-append (misses joint (t && u)) xs ys ∙ or_left (list_any (misses joint (t && u)) xs) (list_any (misses joint (t && u)) ys)
          (any_mono (misses say t) (misses joint (t && u)) first xs (p.2 refl))),
    ) where
      first : (m : Mention) → misses say t m ≡ true → misses joint (t && u) m ≡ true
      first m h =
          let absent = not_false (is_there s m) (and_left (not (is_there s m)) (overlooked_when t (say m)) h) in
          and_true (not (is_there s m)) (overlooked_when (t && u) (joint m)) (not_true (is_there s m) absent)
          (overlooked_first t u (say m) (also m) (and_right (not (is_there s m)) (overlooked_when t (say m)) h) (q.0 m absent))
    sound_both (Some true) b t u p q = (
      (λ m h. present_both t u (say m) (also m) (p.0 m h) (q.0 m h)),
      (λ v e. ap (λ z. z && u) same ∙ q.1 v e),
      (λ e. list_any-append (misses joint (t && u)) xs ys ∙ or_right (list_any (misses joint (t && u)) xs) (list_any (misses joint (t && u)) ys)
          (any_mono (misses also u) (misses joint (t && u)) next ys (q.2 e))),
    ) where
      same : t ≡ true
      same = p.1 true refl

      next : (m : Mention) → misses also u m ≡ true → misses joint (t && u) m ≡ true
      next m h =
          let absent = not_false (is_there s m) (and_left (not (is_there s m)) (overlooked_when u (also m)) h) in
          and_true (not (is_there s m)) (overlooked_when (t && u) (joint m)) (not_true (is_there s m) absent)
          (ap (λ z. overlooked_when (z && u) (joint m)) same
          ∙ overlooked_next u (say m) (also m) (ap (λ z. present_when z (say m)) (sym same) ∙ p.0 m absent)
          (and_right (not (is_there s m)) (overlooked_when u (also m)) h))
    sound_both (Some false) b t u p q =
        ((λ m h. present_both t u (say m) (also m) (p.0 m h) (q.0 m h)), (λ v e. ap (λ z. z && u) (p.1 false refl) ∙ cc), (λ e. cc))

  either_answer : (a b : Answer) → option_map not (answer_both (option_map not a) (option_map not b)) ≡ answer_either a b
  either_answer None b = refl
  either_answer (Some true) b = refl
  either_answer (Some false) None = refl
  either_answer (Some false) (Some true) = refl
  either_answer (Some false) (Some false) = refl

  either_truth : (t u : Bool) → not (not t && not u) ≡ (t || u)
  either_truth true u = refl
  either_truth false true = refl
  either_truth false false = refl

  pub sound_either : (say also : Mention → Absence) (xs ys : List Mention) (a b : Answer) (t u : Bool) → Sound say xs a t → Sound also ys b u → Sound (λ m. either (say m) (also m)) (xs ++ ys) (answer_either a b) (t || u)
  sound_either say also xs ys a b t u p q =
      sound_same (λ m. either (say m) (also m)) (xs ++ ys) (xs ++ ys) (option_map not (answer_both (option_map not a) (option_map not b))) (answer_either a b) (not (not t && not u)) (t || u)
      refl (either_answer a b) (either_truth t u)
      (sound_negated (λ m. both (negated (say m)) (negated (also m))) (xs ++ ys) (answer_both (option_map not a) (option_map not b)) (not t && not u)
      (sound_both (λ m. negated (say m)) (λ m. negated (also m)) xs ys (option_map not a) (option_map not b) (not t) (not u)
      (sound_negated say xs a t p) (sound_negated also ys b u q)))

  -- ---- comparisons

  none_implies : (ms : List Mention) (m : Mention) → list_all (is_there s) ms ≡ true → is_there s m ≡ false → any_implies ms m ≡ false
  none_implies [] m h absent = refl
  none_implies (x ∷ xs) m h absent =
      ap (λ z. z || any_implies xs m) (not_implied s x m (and_left (is_there s x) (list_all (is_there s) xs) h) absent)
      ∙ none_implies xs m (and_right (is_there s x) (list_all (is_there s) xs) h) absent

  abbrev absent_among : List Mention → Mention → Bool
  absent_among ms m = not (is_there s m) && any_implies ms m

  first_absent : (ms : List Mention) → list_all (is_there s) ms ≡ false → list_any (absent_among ms) ms ≡ true
  first_absent [] h = sym h
  first_absent (x ∷ xs) h = by (first_absent xs) (is_there s x) refl where
    wider : (m : Mention) → absent_among xs m ≡ true → absent_among (x ∷ xs) m ≡ true
    wider m k =
        and_true (not (is_there s m)) (any_implies (x ∷ xs) m) (and_left (not (is_there s m)) (any_implies xs m) k)
        (or_right (implies x m) (any_implies xs m) (and_right (not (is_there s m)) (any_implies xs m) k))

    by : (list_all (is_there s) xs ≡ false → list_any (absent_among xs) xs ≡ true) → (b : Bool) → is_there s x ≡ b → list_any (absent_among (x ∷ xs)) (x ∷ xs) ≡ true
    by others false e =
        or_left (absent_among (x ∷ xs) x) (list_any (absent_among (x ∷ xs)) xs)
        (and_true (not (is_there s x)) (any_implies (x ∷ xs) x) (not_true (is_there s x) e) (or_left (implies x x) (any_implies xs x) (implies_same x)))
    by others true e =
        or_right (absent_among (x ∷ xs) x) (list_any (absent_among (x ∷ xs)) xs)
        (any_mono (absent_among xs) (absent_among (x ∷ xs)) wider xs (others (ap (λ z. z && list_all (is_there s) xs) (sym e) ∙ h)))

  module _ (ms : List Mention) where
    abbrev says : Mention → Absence
    says m = compared (any_implies ms m)

    unmet : (met there : Bool) → (met ≡ true → there ≡ true) → there ≡ false → met ≡ false
    unmet true there f e = sym (f refl) ∙ e
    unmet false there f e = refl

    told : (met : Bool) → (met ≡ true → list_all (is_there s) ms ≡ true) → (m : Mention) → is_there s m ≡ false → present_when met (says m) ≡ false
    told true f m absent = none_implies ms m (f refl) absent
    told false f m absent = refl

    pub sound_compared : (met : Bool) → (met ≡ true → list_all (is_there s) ms ≡ true) → Sound says ms (answer_compared ms s met) met
    sound_compared met f = by (list_all (is_there s) ms) refl where
      by : (there : Bool) → list_all (is_there s) ms ≡ there → Sound says ms (answer_compared ms s met) met
      by true e =
          sound_same says ms ms (Some met) (answer_compared ms s met) met met refl (ap (λ z. cond z (Some met) None) (sym e)) refl
          ((told met f), (λ v k. cc), (λ k. cc))
      by false e =
          let no = unmet met (list_all (is_there s) ms) f e in
          sound_same says ms ms None (answer_compared ms s met) met met refl (ap (λ z. cond z (Some met) None) (sym e)) refl
          ((told met f), (λ v k. cc), (λ k. ap (λ z. list_any (misses says z) ms) no ∙ first_absent ms e))
