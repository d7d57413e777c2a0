-- Marks of items, and lines of items that are marked.
use Rattle.std.proofs.Common.{◌≡◌, ◌∙◌, ℕ, suc, zero, List, All, Bool, true, false, Some, get_or, replicate, option_map, slice_get, length, refl, subst, sym}
use Rattle.std.proofs.lemmas.Option.{get_or_from_slice_get}
use Rattle.server_configuration.specs.declared.items.Item.{Item}
use Rattle.radpolicy_import_policies.specs.Origins.{IsImported, IsOfItem, origin_in}
use Rattle.radpolicy_import_policies.specs.internal.Marks.{IsMarked, MarksOnly}
use Rattle.radpolicy_import_policies.specs.declared.origins.LineOrigin.{LineOrigin}
use Rattle.radpolicy_import_policies.specs.declared.statements.Statement.{Statement}

unset : (count place : ℕ) → get_or (replicate count false) place false ≡ false
unset zero place = refl
unset (suc count) zero = refl
unset (suc count) (suc place) = unset count place

-- none is set
pub none_marked : (P : ℕ → Type 0) (count : ℕ) → MarksOnly P (replicate count false)
none_marked P count = λ place e. absurd (let t : false ≡ true = sym (unset count place) ∙ e in cc)

pub is_marked : (items : List Item) (marks : List Bool) (place : ℕ) (line : LineOrigin)
    → option_map origin_in (slice_get items place) ≡ Some line.origin → slice_get marks place ≡ Some true
    → IsMarked items marks line
is_marked items marks place line found mark =
    record { place = place; found = found; mark = get_or_from_slice_get marks place true false mark }

of_item : (items : List Item) (initial : ℕ) (statements : List Statement) (marks : List Bool) (line : LineOrigin)
    → MarksOnly (IsImported statements (length items) initial) marks → IsMarked items marks line
    → IsOfItem items initial statements line
of_item items initial statements marks line only h =
    record { place = h.place; found = h.found; is_imported = only h.place h.mark }

-- lines of marked items are of items that are imported
pub of_items : (items : List Item) (count initial : ℕ) (statements : List Statement) (marks told : List Bool) (lines : List LineOrigin)
    → count ≡ length items → told ≡ marks → MarksOnly (IsImported statements count initial) marks
    → All (IsMarked items told) lines → All (IsOfItem items initial statements) lines
of_items items count initial statements marks told lines all same only h =
    let few : MarksOnly (IsImported statements (length items) initial) told =
    subst (λ n. MarksOnly (IsImported statements n initial) told) all
    (subst (λ (bs : List Bool). MarksOnly (IsImported statements count initial) bs) (sym same) only) in
    λ k d within. of_item items initial statements told (get_or lines k d) few (h k d within)
