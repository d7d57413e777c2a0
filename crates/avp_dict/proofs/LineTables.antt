-- Keys of ids, and a table of lines' keys: empty, after one more line, what it finds, and how many keys it has.
use Rattle.std.proofs.Common.{◌==◌, ◌≡◌, ◌∙◌, ℕ, suc, Bool, true, false, cond, ◌||◌, List, [], ◌∷◌, ◌++◌, map, length, slice_get, Option, Some, None, is_some, option_and_then, refl, sym, subst, ap, ap₂, if◌then◌else◌}
use Rattle.std.specs.Cmp.{IsEquivalence}
use Rattle.std.specs.List.{IsDistinct, list_any}
use Rattle.std.specs.Map.{keys_of, lookup}
use Rattle.std.specs.Set.{distinct_count, is_member, unique_keys}
use Rattle.std.proofs.Math.Bool.{and-true, or-true}
use Rattle.std.proofs.lemmas.List.{length-map, map-append}
use Rattle.std.proofs.lemmas.List.Sums.{fold_push}
use Rattle.std.proofs.lemmas.Map.Entries.{length-keys_of}
use Rattle.std.proofs.lemmas.Map.Made.{is_some-lookup, length-from_keys}
use Rattle.indexmap.specs.IndexMap.{insert_entry}
use Rattle.avp_lists.specs.declared.pairs.AttrId.{AttrId}
use Rattle.avp_lists.specs.declared.pairs.AttrId.TheVariants.{Plain, Vendor, Extended}
use Rattle.avp_lists.specs.Pairs.{id_eq}
use Rattle.avp_dict.specs.Dictionary.{last_where, with_key}
use Rattle.avp_dict.specs.internal.Tables.{IsLastAt, IsTable, id_key, last_place, same_id_key}
use Rattle.avp_dict.proofs.LastPlaces.{last_at, last_found, last_place_kept}

-- the keys of ids tell them apart
pub same_key : (a b : AttrId) → same_id_key (id_key a) (id_key b) ≡ id_eq a b
same_key (Plain a) (Plain b) = and-true (a == b)
same_key (Vendor a x) (Vendor b y) = refl
same_key (Extended a x) (Extended b y) = refl
same_key _ _ = refl

found_any : {X : Type 0} (test : X → Bool) (xs : List X) → is_some (last_place test xs) ≡ list_any test xs
found_any test [] = refl
found_any {X} test (x ∷ xs) = by (test x) (last_place test xs) (list_any test xs) (found_any test xs)
  where
    by : (b : Bool) (found : Option ℕ) (any : Bool) → is_some found ≡ any → is_some {T = ℕ} (elim found as (λ _. Option ℕ) [ Some i ↦ Some (suc i) | None ↦ (if b then Some 0 else None) ]) ≡ (b || any)
    by b (Some i) any h = sym (or-true b) ∙ ap (λ c. b || c) h
    by true None any h = refl
    by false None any h = h

pub any_key : {X K : Type 0} (key_of : X → K) (test : K → Bool) (xs : List X) → list_any test (map key_of xs) ≡ list_any (λ x. test (key_of x)) xs
any_key key_of test [] = refl
any_key key_of test (x ∷ xs) = ap (λ b. test (key_of x) || b) (any_key key_of test xs)

module _ {K : Type 0} (eq : K → K → Bool) where
  keys_inserted : (entries : List (K × ℕ)) (key : K) (place : ℕ) → keys_of (insert_entry eq entries key place) ≡ with_key eq (keys_of entries) key
  keys_inserted [] key place = refl
  keys_inserted (e ∷ es) key place = by (eq key e.0) (list_any (eq key) (keys_of es)) (keys_inserted es key place)
    where
      by : (b any : Bool) → keys_of (insert_entry eq es key place) ≡ (if any then keys_of es else keys_of es ++ key ∷ [])
          → keys_of (if b then (e.0, place) ∷ es else e ∷ insert_entry eq es key place) ≡ (if b || any then keys_of (e ∷ es) else keys_of (e ∷ es) ++ key ∷ [])
      by true any h = refl
      by false true h = ap (λ ks. e.0 ∷ ks) h
      by false false h = ap (λ ks. e.0 ∷ ks) h

  pub one_line_more : (old new : List (K × ℕ)) (keys : List K) (key : K) (place : ℕ) → IsTable eq old keys → place ≡ length keys
      → ((q : K) → lookup (eq q) new ≡ (if eq key q then Some place else lookup (eq q) old)) → new ≡ insert_entry eq old key place → IsTable eq new (keys ++ key ∷ [])
  one_line_more old new keys key place table at put is = record {
    placed = λ q. last_place_kept (λ k. eq k q) keys key place (lookup (eq q) old) (lookup (eq q) new) at (table.placed q) (put q);
    ordered = ap keys_of is ∙ keys_inserted old key place ∙ ap (λ ks. with_key eq ks key) table.ordered ∙ sym (fold_push (with_key eq) [] keys key);
  }

  -- whether a line has the key
  pub has_line : (entries : List (K × ℕ)) (keys : List K) (q : K) → IsTable eq entries keys → is_some (lookup (eq q) entries) ≡ list_any (λ k. eq k q) keys
  has_line entries keys q table = ap is_some (table.placed q) ∙ found_any (λ k. eq k q) keys

  -- as many as there are different keys
  pub many_keys : IsEquivalence eq → (entries : List (K × ℕ)) → IsDistinct eq (keys_of entries) → (keys : List K) → IsTable eq entries keys → length entries ≡ distinct_count eq keys
  many_keys laws entries distinct keys table =
      sym (length-keys_of entries)
      ∙ length-from_keys laws (keys_of entries) keys distinct (λ q. sym (is_some-lookup (eq q) entries) ∙ has_line entries keys q table ∙ (λ i. list_any (λ k. laws.symm k q i) keys))

  module _ {X : Type 0} (key_of : X → K) where
    place_of_line : (q : K) (test : X → Bool) → ((x : X) → eq (key_of x) q ≡ test x) → (xs : List X) → last_place (λ k. eq k q) (map key_of xs) ≡ last_place test xs
    place_of_line q test alike [] = refl
    place_of_line q test alike (x ∷ xs) = ap₂ (λ b found. elim found as (λ _. Option ℕ) [ Some i ↦ Some (suc i) | None ↦ (if b then Some 0 else None) ]) (alike x) (place_of_line q test alike xs)

    -- the last line with the key
    pub line_found : (entries : List (K × ℕ)) (xs : List X) (q : K) (test : X → Bool) → IsTable eq entries (map key_of xs) → ((x : X) → eq (key_of x) q ≡ test x)
        → option_and_then (slice_get xs) (lookup (eq q) entries) ≡ last_where test xs
    line_found entries xs q test table alike = ap (option_and_then (slice_get xs)) (table.placed q ∙ place_of_line q test alike xs) ∙ sym (last_found test xs)

    -- where the last line with the key of one more is
    pub last_before : (xs : List X) (line : X) (q : K) (test : X → Bool) (place : Option ℕ) → q ≡ key_of line → ((x : X) → eq (key_of x) (key_of line) ≡ test x) → place ≡ last_place (λ k. eq k q) (map key_of xs) → IsLastAt test xs place
    last_before xs line q test place key alike is = subst (IsLastAt test xs) (sym (is ∙ place_of_line q test (λ x. ap (eq (key_of x)) key ∙ alike x) xs)) (last_at test xs)

    -- a table after one more line, by what it is after one more key
    pub line_added : {old new : List (K × ℕ)} (lines : List X) (line : X) {more : List X} {key : K} {place : ℕ} → ((keys : List K) → IsTable eq old keys → place ≡ length keys → IsTable eq new (keys ++ key ∷ []))
        → IsTable eq old (map key_of lines) → place ≡ length lines → key ≡ key_of line → more ≡ lines ++ line ∷ [] → IsTable eq new (map key_of more)
    line_added {old} {new} lines line put table at is grown =
        subst (IsTable eq new) ((λ i. map key_of lines ++ is i ∷ []) ∙ sym (map-append key_of lines (line ∷ [])) ∙ ap (map key_of) (sym grown)) (put (map key_of lines) table (at ∙ sym (length-map lines key_of)))

    -- different keys of lines are counted as lines are
    pub lines_counted : (same : X → X → Bool) → ((x y : X) → eq (key_of x) (key_of y) ≡ same x y) → (xs : List X) → distinct_count eq (map key_of xs) ≡ distinct_count same xs
    lines_counted same alike [] = refl
    lines_counted same alike (x ∷ xs) =
        ap (λ b. length (cond b (unique_keys eq (map key_of xs)) (key_of x ∷ unique_keys eq (map key_of xs)))) (any_key key_of (eq (key_of x)) xs ∙ (λ i. list_any (λ y. alike x y i) xs))
        ∙ by (is_member same xs x) (lines_counted same alike xs)
      where
        by : (b : Bool) → distinct_count eq (map key_of xs) ≡ distinct_count same xs → length (cond b (unique_keys eq (map key_of xs)) (key_of x ∷ unique_keys eq (map key_of xs))) ≡ length (cond b (unique_keys same xs) (x ∷ unique_keys same xs))
        by true h = h
        by false h = ap suc h
