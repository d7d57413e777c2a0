-- What the lines of a sound dictionary say of an id is found again by its printed names.
use Rattle.std.proofs.Common.{◌≡◌, ◌∙◌, ℕ, Bool, true, false, not, cond, ◌&&◌, ◌||◌, ◌==◌, ltb, List, [], ◌∷◌, drop, reverse, slice_index, Option, Some, None, refl, ap, subst, arith, is_some, option_map, All, find}
use Rattle.std.specs.Char.{digit_value}
use Rattle.std.proofs.lemmas.Bool.{and_parts, cond_both}
use Rattle.std.proofs.lemmas.List.{reverse-append, reverse-reverse}
use Rattle.std.proofs.lemmas.List.Elements.{All-nil, All-cons, All-head, All-tail, All-append}
use Rattle.avp_lists.specs.declared.pairs.AttrId.{AttrId}
use Rattle.avp_lists.specs.Pairs.{id_eq}
use Rattle.avp_lists.proofs.Equality.{id_eq-same, same_id}
use Rattle.avp_dict.specs.declared.entries.AttributeLine.{AttributeLine}
use Rattle.avp_dict.specs.declared.entries.Typing.{Typing}
use Rattle.avp_dict.specs.declared.entries.ValueLine.{ValueLine}
use Rattle.avp_dict.proofs.Agreement.{same_name_refl}
use Rattle.avp_dict.specs.Dictionary.{Dictionary, id_named, id_of_line, is_attribute_named, is_attribute_of, is_value_named, is_value_numbered, last_where, name_numbered, name_of_line, names_other_id, names_other_value, number_named, number_of_line, typing_of_id, typing_of_line}
use Rattle.avp_dict.specs.Names.{Described, described, described_by, named, named_by}
use Rattle.avp_dict.specs.Soundness.{IsSound, IsSoundAttribute, IsSoundValue}
use Rattle.avp_dict.specs.Values.{reads_as_number}
use Rattle.avp_dict.specs.Words.{digits, is_hexadecimal, number_of}

-- ---- finds

module _ {X : Type 0} where
  All-reverse : (P : X → Type 0) (xs : List X) → All P xs → All P (reverse xs)
  All-reverse P [] h = All-nil P
  All-reverse P (x ∷ xs) h =
      rw (reverse-append (x ∷ []) xs) (All-append P (reverse xs) (x ∷ []) (All-reverse P xs (All-tail P x xs h)) (All-cons P x [] (All-head P x xs h) (All-nil P)))

  -- what is found passes the test, and is one of the list
  find_holds : (P : X → Type 0) (test : X → Bool) (xs : List X) (r : X) → All P xs → find test xs ≡ Some r → P r × (test r ≡ true)
  find_holds P test [] r all h = absurd (cc)
  find_holds P test (x ∷ xs) r all h =
      cond_both (test x) _ _ (λ (o : Option X). o ≡ Some r → P r × (test r ≡ true))
      (λ e at. let same : x ≡ r = cc in (subst P same (All-head P x xs all), subst (λ (y : X). test y ≡ true) same e))
      (λ e. find_holds P test xs r (All-tail P x xs all)) h

  pub last_holds : (P : X → Type 0) (test : X → Bool) (xs : List X) (r : X) → All P xs → last_where test xs ≡ Some r → P r × (test r ≡ true)
  last_holds P test xs r all h = find_holds P test (reverse xs) r (All-reverse P xs all) h

  find_none : (test : X → Bool) (xs : List X) → find test xs ≡ None → All (λ r. test r ≡ false) xs
  find_none test [] h = All-nil (λ r. test r ≡ false)
  find_none test (x ∷ xs) h =
      cond_both (test x) _ _ (λ (o : Option X). o ≡ None → All (λ r. test r ≡ false) (x ∷ xs))
      (λ e at. absurd (cc)) (λ e at. All-cons (λ r. test r ≡ false) x xs e (find_none test xs at)) h

  pub last_none : (test : X → Bool) (xs : List X) → last_where test xs ≡ None → All (λ r. test r ≡ false) xs
  last_none test xs h = subst (All (λ r. test r ≡ false)) (reverse-reverse xs) (All-reverse (λ r. test r ≡ false) (reverse xs) (find_none test (reverse xs) h))

-- ---- an id's last ATTRIBUTE line

alone_by : (b c : Bool) → b ≡ true → (b && not c) ≡ false → c ≡ true
alone_by true true e h = refl
alone_by true false e h = absurd (cc)
alone_by false c e h = absurd (cc)

module _ (dictionary : Dictionary) (sound : IsSound dictionary) where
  id_found : (a : AttributeLine) (id : AttrId) → last_where (is_attribute_of id) dictionary.attributes ≡ Some a → IsSoundAttribute dictionary a → a.id ≡ id → (found : Option AttributeLine) → last_where (is_attribute_named a.name) dictionary.attributes ≡ found → option_map id_of_line found ≡ Some id
  id_found a id at h same None e =
      let none = last_holds (λ (b : AttributeLine). is_attribute_named a.name b ≡ false) (is_attribute_of id) dictionary.attributes a (last_none (is_attribute_named a.name) dictionary.attributes e) at in
      let named : is_attribute_named a.name a ≡ true = same_name_refl a.name in
      absurd (cc (none.0, named))
  id_found a id at h same (Some b) e =
      let other = last_holds (λ (c : AttributeLine). names_other_id a.name a.id c ≡ false) (is_attribute_named a.name) dictionary.attributes b h.alone e in
      ap (λ (j : AttrId). Some j) (same_id b.id a.id (alone_by (is_attribute_named a.name b) (id_eq b.id a.id) other.1 other.0) ∙ same)

  pub record IsDescribed (id : AttrId) (d : Described) : Type 0 where
    pub typing : Typing
    pub typed : typing_of_id id dictionary.attributes ≡ Some typing
    pub kind : typing.kind ≡ d.kind
    pub hidden : typing.hidden ≡ d.hidden
    pub keeps : IsSoundAttribute dictionary (record { name = d.name; id = id; typing = typing })
    pub named : id_named d.name dictionary.attributes ≡ Some id

  described_of : (id : AttrId) (d : Described) (found : Option AttributeLine) → last_where (is_attribute_of id) dictionary.attributes ≡ found → option_map described_by found ≡ Some d → IsDescribed id d
  unfolding id_named typing_of_id
  described_of id d None at e = absurd (cc)
  described_of id d (Some a) at e =
      let held = last_holds (IsSoundAttribute dictionary) (is_attribute_of id) dictionary.attributes a sound.attributes at in
      let same : a.id ≡ id = same_id a.id id held.1 in
      let whole : described_by a ≡ d = cc in
      let name : a.name ≡ d.name = ap (λ (x : Described). x.name) whole in
      record {
        typing = a.typing;
        typed = ap (option_map typing_of_line) at;
        kind = ap (λ (x : Described). x.kind) whole;
        hidden = ap (λ (x : Described). x.hidden) whole;
        keeps = subst (λ (n : List ℕ). IsSoundAttribute dictionary (record { name = n; id = id; typing = a.typing })) name
            (subst (λ (i : AttrId). IsSoundAttribute dictionary (record { name = a.name; id = i; typing = a.typing })) same held.0);
        named = subst (λ (n : List ℕ). option_map id_of_line (last_where (is_attribute_named n) dictionary.attributes) ≡ Some id) name (id_found a id at held.0 same _ refl);
      }

  pub is_described : (id : AttrId) (d : Described) → described id dictionary ≡ Some d → IsDescribed id d
  unfolding described
  is_described id d e = described_of id d _ refl e

  pub named_back : (id : AttrId) (d : Described) → described id dictionary ≡ Some d → named d.name dictionary ≡ Some (record { id = id; raw = false })
  unfolding named
  named_back id d e =
      let is = is_described id d e in
      rw is.keeps.named (ap (option_map (named_by false)) is.named)

-- ---- the names of values

no_value : (n : Option ℕ) → is_some n ≡ false → n ≡ None
no_value None h = refl
no_value (Some n) h = absurd (cc)

not_number_by : (hexadecimal other : Bool) (text : List ℕ) → (other ≡ true → digits 10 text ≡ None) → is_some (cond (hexadecimal || other) (digits 16 (drop 2 text)) (digits 10 text)) ≡ false → cond hexadecimal (digits 16 (drop 2 text)) (digits 10 text) ≡ None
not_number_by true other text upper h = no_value (digits 16 (drop 2 text)) h
not_number_by false true text upper h = upper refl
not_number_by false false text upper h = no_value (digits 10 text) h

upper_x : (text : List ℕ) → ((slice_index text 0 == 48) && (slice_index text 1 == 88)) ≡ true → digits 10 text ≡ None
upper_x [] h = refl
upper_x (o ∷ []) h = absurd (cc ((and_parts (o == 48) false h).1))
upper_x (o ∷ p ∷ os) h =
    let e : p ≡ 88 = grind (arith, (and_parts (o == 48) (p == 88) h).1) in
    let none : Option ℕ = None in
    rw e (cond_both (ltb (digit_value o) 10) none none (λ n. n ≡ none) (λ low. refl) (λ high. refl))

pub not_number : (name : List ℕ) → reads_as_number name ≡ false → number_of name ≡ None
not_number name h = not_number_by (is_hexadecimal name) ((slice_index name 0 == 48) && (slice_index name 1 == 88)) name (upper_x name) h

module _ (dictionary : Dictionary) (sound : IsSound dictionary) where
  number_found : (v : ValueLine) (id : AttrId) (number : ℕ) → last_where (is_value_numbered id number) dictionary.values ≡ Some v → IsSoundValue dictionary.values v → v.id ≡ id → v.number ≡ number → (found : Option ValueLine) → last_where (is_value_named id v.name) dictionary.values ≡ found → option_map number_of_line found ≡ Some number
  number_found v id number at h same count None e =
      let none = last_holds (λ (w : ValueLine). is_value_named id v.name w ≡ false) (is_value_numbered id number) dictionary.values v (last_none (is_value_named id v.name) dictionary.values e) at in
      let named : is_value_named id v.name v ≡ true = rw (same, id_eq-same id, same_name_refl v.name) in
      absurd (cc (none.0, named))
  number_found v id number at h same count (Some w) e =
      let alone = subst (λ (i : AttrId). All (λ (x : ValueLine). names_other_value i v.name v.number x ≡ false) dictionary.values) same h.alone in
      let other = last_holds (λ (x : ValueLine). names_other_value id v.name v.number x ≡ false) (is_value_named id v.name) dictionary.values w alone e in
      let equal : (w.number == v.number) ≡ true = alone_by (is_value_named id v.name w) (w.number == v.number) other.1 other.0 in
      let is : w.number ≡ v.number = grind (arith, equal) in
      ap (λ (n : ℕ). Some n) (is ∙ count)

  -- a printed name of a number is no number, and stands for it
  pub record IsNamed (id : AttrId) (number : ℕ) (name : List ℕ) : Type 0 where
    pub apart : number_of name ≡ None
    pub numbered : number_named id name dictionary.values ≡ Some number

  names_of : (id : AttrId) (number : ℕ) (name : List ℕ) (found : Option ValueLine) → last_where (is_value_numbered id number) dictionary.values ≡ found → option_map name_of_line found ≡ Some name → IsNamed id number name
  unfolding number_named
  names_of id number name None at e = absurd (cc)
  names_of id number name (Some v) at e =
      let held = last_holds (IsSoundValue dictionary.values) (is_value_numbered id number) dictionary.values v sound.values at in
      let parts = and_parts (id_eq v.id id) (v.number == number) held.1 in
      let same : v.id ≡ id = same_id v.id id parts.0 in
      let count : v.number ≡ number = grind (arith, parts.1) in
      let name_is : v.name ≡ name = cc in
      record {
        apart = subst (λ (n : List ℕ). number_of n ≡ None) name_is (not_number v.name held.0.named);
        numbered = subst (λ (n : List ℕ). option_map number_of_line (last_where (is_value_named id n) dictionary.values) ≡ Some number) name_is (number_found v id number at held.0 same count _ refl);
      }

  pub is_named_number : (id : AttrId) (number : ℕ) (name : List ℕ) → name_numbered id number dictionary.values ≡ Some name → IsNamed id number name
  unfolding name_numbered
  is_named_number id number name e = names_of id number name _ refl e
