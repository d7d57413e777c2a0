-- Sections of items.
use Rattle.std.proofs.Common.{◌≡◌, ℕ, ◌++◌, List, [], ◌∷◌, Option, Some, None, IsTrue, slice_get, zero, suc, length, subst, sym, append_assoc, append-nil}
use Rattle.server_configuration.specs.Contents.{is_section}
use Rattle.server_configuration.specs.Places.{AreNested, AreNestedAfter, IsSectionOf}
use Rattle.server_configuration.specs.declared.items.Item.{Item}

at_stays : (items more : List Item) (place : ℕ) → IsSectionOf items (Some place) → IsSectionOf (items ++ more) (Some place)
at_stays [] more place h = absurd h
at_stays (item ∷ items) more zero h = h
at_stays (item ∷ items) more (suc place) h = at_stays items more place h

pub section_stays : (items more : List Item) (section : Option ℕ) → IsSectionOf items section
    → IsSectionOf (items ++ more) section
section_stays items more None h = tt
section_stays items more (Some place) h = at_stays items more place h

pub new_section : (items : List Item) (item : Item) → IsTrue (is_section item.content)
    → IsSectionOf (items ++ item ∷ []) (Some (length items))
new_section [] item h = h
new_section (other ∷ items) item h = new_section items item h

pub nested_with_one_after : (earlier items : List Item) (item : Item) → AreNestedAfter earlier items
    → IsSectionOf (earlier ++ items) item.section → AreNestedAfter earlier (items ++ item ∷ [])
nested_with_one_after earlier [] item h section =
    let In : List Item → Type 0 = λ xs. IsSectionOf xs item.section in
    (subst In (append-nil earlier) section, tt)
nested_with_one_after earlier (other ∷ items) item h section =
    let In : List Item → Type 0 = λ xs. IsSectionOf xs item.section in (
      h.0,
      nested_with_one_after (earlier ++ other ∷ []) items item h.1
          (subst In (sym (append_assoc earlier (other ∷ []) items)) section),
    )

pub nested_with_one : (items : List Item) (item : Item) → AreNested items → IsSectionOf items item.section
    → AreNested (items ++ item ∷ [])
nested_with_one items item h section = nested_with_one_after [] items item h section

section_of_item_after : (earlier items : List Item) (place : ℕ) (item : Item) → AreNestedAfter earlier items
    → slice_get items place ≡ Some item → IsSectionOf (earlier ++ items) item.section
section_of_item_after earlier [] place item h e = cc
section_of_item_after earlier (other ∷ items) zero item h e =
    let same : other ≡ item = cc in
    let In : Item → Type 0 = λ x. IsSectionOf (earlier ++ other ∷ items) x.section in
    subst In same (section_stays earlier (other ∷ items) other.section h.0)
section_of_item_after earlier (other ∷ items) (suc place) item h e =
    let In : List Item → Type 0 = λ xs. IsSectionOf xs item.section in
    subst In (append_assoc earlier (other ∷ []) items)
    (section_of_item_after (earlier ++ other ∷ []) items place item h.1 e)

-- The section that holds an item is one of the items.
pub section_of_item : (items : List Item) (place : ℕ) (item : Item) → AreNested items
    → slice_get items place ≡ Some item → IsSectionOf items item.section
section_of_item items place item h e = section_of_item_after [] items place item h e
