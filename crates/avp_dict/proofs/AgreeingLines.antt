-- Where lines agree, the last one of a name tells whether any gives the name another thing.
use Rattle.std.proofs.Common.{◌≡◌, ◌∙◌, ℕ, Bool, true, false, not, ◌&&◌, ◌==◌, ◌<◌, List, [], ◌∷◌, ◌++◌, Option, Some, None, option_map, get_or, length, refl, sym, subst, ap, arith, All}
use Rattle.std.specs.List.{list_any}
use Rattle.std.proofs.Math.Bool.{and-false}
use Rattle.std.proofs.lemmas.Bool.{and_left, and_parts}
use Rattle.std.proofs.lemmas.List.Elements.{All-nil, All-push}
use Rattle.std.proofs.lemmas.List.Folds.{list_any_at, list_any_none}
use Rattle.avp_lists.specs.declared.pairs.AttrId.{AttrId}
use Rattle.avp_lists.specs.Pairs.{id_eq}
use Rattle.avp_lists.proofs.Equality.{id_eq-same, same_id}
use Rattle.avp_dict.specs.declared.entries.AttributeLine.{AttributeLine}
use Rattle.avp_dict.specs.declared.entries.ValueLine.{ValueLine}
use Rattle.avp_dict.specs.declared.entries.VendorLine.{VendorLine}
use Rattle.avp_dict.specs.Dictionary.{id_of_line, is_attribute_named, is_value_named, is_vendor_named, last_where, names_other_id, names_other_value, names_other_vendor, number_of_line, vendor_named, vendor_of_line}
use Rattle.avp_dict.specs.Words.{same_name}
use Rattle.avp_dict.specs.internal.Agreeing.{AreAloneNames, AreAloneValues, AreAloneVendors, IsAgreeing, differs}
use Rattle.avp_dict.specs.Meanings.{no_context}
use Rattle.avp_dict.proofs.Agreement.{other_id_sym, other_value_sym, other_vendor_sym, same_name_refl}
use Rattle.avp_dict.proofs.Folding.{same_as}
use Rattle.avp_dict.proofs.PrintedNames.{last_holds, last_none}

-- no line passes a test that none does
pub none_passes : {X : Type 0} (test : X → Bool) (lines : List X) → list_any test lines ≡ false → All (λ x. test x ≡ false) lines
none_passes {X} test lines h = λ k d lt. by k d lt (test (get_or lines k d)) refl
  where
    by : (k : ℕ) (d : X) → k < length lines → (b : Bool) → test (get_or lines k d) ≡ b → test (get_or lines k d) ≡ false
    by k d lt true e = absurd (cc (list_any_at test lines k d lt e, h))
    by k d lt false e = e

-- a line that is found passes another test too
any_found : {X : Type 0} (test other : X → Bool) (lines : List X) (x : X) → last_where test lines ≡ Some x → (test x ≡ true → other x ≡ true) → list_any other lines ≡ true
any_found {X} test other lines x at passes = by (list_any other lines) refl
  where
    by : (b : Bool) → list_any other lines ≡ b → list_any other lines ≡ true
    by true e = e
    by false e =
        let none = last_holds (λ (y : X). other y ≡ false) test lines x (none_passes other lines e) at in
        absurd (cc (none.0, passes none.1))

equal_numbers : (a b : ℕ) → (a == b) ≡ true → a ≡ b
equal_numbers a b h = grind (arith, h)

-- ---- lines with a name and what they give it

module _ {X K : Type 0} (named : X → Bool) (given : X → K) (eq : K → K → Bool) (same : (j k : K) → eq j k ≡ true → j ≡ k) (lines : List X) where
  abbrev gives_other : K → X → Bool
  gives_other k x = named x && not (eq (given x) k)

  any_other : (k : K) (x : X) → last_where named lines ≡ Some x → All (λ y. gives_other (given x) y ≡ false) lines → list_any (gives_other k) lines ≡ not (eq (given x) k)
  any_other k x at alone = by (eq (given x) k) refl
    where
      by : (b : Bool) → eq (given x) k ≡ b → list_any (gives_other k) lines ≡ not (eq (given x) k)
      by true e = list_any_none (gives_other k) lines (subst (λ i. All (λ y. gives_other i y ≡ false) lines) (same (given x) k e) alone) ∙ ap not (sym e)
      by false e = any_found named (gives_other k) lines x at (λ is. rw (is, e) refl) ∙ ap not (sym e)

  no_other : (k : K) → last_where named lines ≡ None → list_any (gives_other k) lines ≡ false
  no_other k at = list_any_none (gives_other k) lines (λ i d lt. and_left (named (get_or lines i d)) _ (last_none named lines at i d lt))

-- ---- ATTRIBUTE lines

pub other_id : (lines : List AttributeLine) (name : List ℕ) (id : AttrId) → AreAloneNames lines → (found : Option AttributeLine) → last_where (is_attribute_named name) lines ≡ found → list_any (names_other_id name id) lines ≡ differs id_eq id (option_map id_of_line found)
other_id lines name id are None at = no_other (is_attribute_named name) id_of_line id_eq same_id lines id at
other_id lines name id are (Some a) at =
    let held = last_holds (λ (b : AttributeLine). All (λ c. names_other_id b.name b.id c ≡ false) lines) (is_attribute_named name) lines a are at in
    any_other (is_attribute_named name) id_of_line id_eq same_id lines id a at
    (λ k d lt. ap (λ c. c && not (id_eq (get_or lines k d).id a.id)) (sym (same_as a.name name (get_or lines k d).name held.1)) ∙ held.0 k d lt)

itself_id : (n : List ℕ) (i : AttrId) → (same_name n n && not (id_eq i i)) ≡ false
itself_id n i = rw (same_name_refl n, id_eq-same i)

pub names_more : (lines : List AttributeLine) (new : AttributeLine) → AreAloneNames lines → All (λ b. names_other_id new.name new.id b ≡ false) lines → AreAloneNames (lines ++ new ∷ [])
names_more lines new are is =
    All-push (λ a. All (λ b. names_other_id a.name a.id b ≡ false) (lines ++ new ∷ [])) lines new
    (λ k d lt. let a : AttributeLine = get_or lines k d in All-push (λ b. names_other_id a.name a.id b ≡ false) lines new (are k d lt) (other_id_sym new.name a.name new.id a.id (is k d lt)))
    (All-push (λ b. names_other_id new.name new.id b ≡ false) lines new is (itself_id new.name new.id))

-- ---- VENDOR lines

other_vendor : (lines : List VendorLine) (name : List ℕ) (number : ℕ) → AreAloneVendors lines → (found : Option VendorLine) → last_where (is_vendor_named name) lines ≡ found → list_any (names_other_vendor name number) lines ≡ differs (λ a b. a == b) number (option_map vendor_of_line found)
other_vendor lines name number are None at = no_other (is_vendor_named name) vendor_of_line (λ a b. a == b) equal_numbers lines number at
other_vendor lines name number are (Some v) at =
    let held = last_holds (λ (w : VendorLine). All (λ x. names_other_vendor w.name w.number x ≡ false) lines) (is_vendor_named name) lines v are at in
    any_other (is_vendor_named name) vendor_of_line (λ a b. a == b) equal_numbers lines number v at
    (λ k d lt. ap (λ c. c && not ((get_or lines k d).number == v.number)) (sym (same_as v.name name (get_or lines k d).name held.1)) ∙ held.0 k d lt)

pub other_vendor_by_last : (lines : List VendorLine) (name : List ℕ) (number : ℕ) → AreAloneVendors lines → list_any (names_other_vendor name number) lines ≡ differs (λ a b. a == b) number (vendor_named name lines)
unfolding vendor_named
other_vendor_by_last lines name number are = other_vendor lines name number are (last_where (is_vendor_named name) lines) refl

itself_vendor : (n : List ℕ) (v : ℕ) → (same_name n n && not (v == v)) ≡ false
itself_vendor n v = let e : (v == v) ≡ true = grind arith in rw (same_name_refl n, e)

pub vendors_more : (lines : List VendorLine) (new : VendorLine) → AreAloneVendors lines → All (λ w. names_other_vendor new.name new.number w ≡ false) lines → AreAloneVendors (lines ++ new ∷ [])
vendors_more lines new are is =
    All-push (λ v. All (λ w. names_other_vendor v.name v.number w ≡ false) (lines ++ new ∷ [])) lines new
    (λ k d lt. let v : VendorLine = get_or lines k d in All-push (λ w. names_other_vendor v.name v.number w ≡ false) lines new (are k d lt) (other_vendor_sym new.name v.name new.number v.number (is k d lt)))
    (All-push (λ w. names_other_vendor new.name new.number w ≡ false) lines new is (itself_vendor new.name new.number))

pub none_agreeing : IsAgreeing no_context
none_agreeing = record { attributes = All-nil (λ (a : AttributeLine). All (λ b. names_other_id a.name a.id b ≡ false) []); vendors = All-nil (λ (v : VendorLine). All (λ w. names_other_vendor v.name v.number w ≡ false) []) }

-- ---- VALUE lines

pub other_value : (lines : List ValueLine) (id : AttrId) (name : List ℕ) (number : ℕ) → AreAloneValues lines → (found : Option ValueLine) → last_where (is_value_named id name) lines ≡ found → list_any (names_other_value id name number) lines ≡ differs (λ a b. a == b) number (option_map number_of_line found)
other_value lines id name number are None at = no_other (is_value_named id name) number_of_line (λ a b. a == b) equal_numbers lines number at
other_value lines id name number are (Some v) at =
    let held = last_holds (λ (w : ValueLine). All (λ x. names_other_value w.id w.name w.number x ≡ false) lines) (is_value_named id name) lines v are at in
    let parts = and_parts (id_eq v.id id) (same_name v.name name) held.1 in
    let same : v.id ≡ id = same_id v.id id parts.0 in
    any_other (is_value_named id name) number_of_line (λ a b. a == b) equal_numbers lines number v at
    (λ k d lt.
    ap (λ c. (id_eq (get_or lines k d).id id && c) && not ((get_or lines k d).number == v.number)) (sym (same_as v.name name (get_or lines k d).name parts.1))
    ∙ (ap (λ i. (id_eq (get_or lines k d).id i && same_name (get_or lines k d).name v.name) && not ((get_or lines k d).number == v.number)) (sym same) ∙ held.0 k d lt))

itself_value : (i : AttrId) (n : List ℕ) (v : ℕ) → (id_eq i i && same_name n n && not (v == v)) ≡ false
itself_value i n v = let e : (v == v) ≡ true = grind arith in rw e (and-false (id_eq i i && same_name n n))

pub values_more : (lines : List ValueLine) (new : ValueLine) → AreAloneValues lines → All (λ w. names_other_value new.id new.name new.number w ≡ false) lines → AreAloneValues (lines ++ new ∷ [])
values_more lines new are is =
    All-push (λ v. All (λ w. names_other_value v.id v.name v.number w ≡ false) (lines ++ new ∷ [])) lines new
    (λ k d lt. let v : ValueLine = get_or lines k d in All-push (λ w. names_other_value v.id v.name v.number w ≡ false) lines new (are k d lt) (other_value_sym new.id v.id new.name v.name new.number v.number (is k d lt)))
    (All-push (λ w. names_other_value new.id new.name new.number w ≡ false) lines new is (itself_value new.id new.name new.number))
