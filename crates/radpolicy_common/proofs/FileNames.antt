-- Whether files have distinct names depends on their names alone, and so does how many there are.
use Rattle.std.proofs.Common.{◌≡◌, ◌≢◌, ◌∙◌, ℕ, zero, suc, ◌<◌, Bool, true, false, not, ◌&&◌, ◌||◌, List, [], ◌∷◌, length, get_or, ap, sym, refl, subst, arith, IsTrue, ◌↔◌}
use Rattle.std.specs.List.{list_any}
use Rattle.std.specs.Borrow.{Bor}
use Rattle.std.specs.Str.{bytes_eq}
use Rattle.std.proofs.lemmas.Bool.{and_parts, both_ways, not-true, or_parts}
use Rattle.std.proofs.lemmas.List.{length-map}
use Rattle.std.proofs.lemmas.Slice.Eq.{bytes_eq-Decides}
use Rattle.avp_dict.specs.declared.file.files.NamedFile.{NamedFile}
use Rattle.avp_dict.specs.Lines.{HasDistinctNames, has_name, names_differ}
use Rattle.radpolicy.specs.Plans.{AreDistinct, names_of_files, names_of_paths}
use Rattle.radpolicy.proofs.DistinctFiles.{distinct_files}
use Rattle.radpolicy_common.specs.declared.files.Unread.{Unread}
use Rattle.radpolicy_common.specs.declared.files.Unread.TheVariants.{File, Memory, NoDictionary, SameNames}
use Rattle.radpolicy_common.specs.Unread.{IsRefusalOfFiles, IsRefusalOfSet}

abbrev differ : List (List ℕ) → Bool
differ [] = true
differ (name ∷ names) = not (list_any (λ own. bytes_eq own name) names) && differ names

any_named : (name : List ℕ) (files : List NamedFile) → list_any (has_name name) files ≡ list_any (λ own. bytes_eq own name) (names_of_files files)
any_named name [] = refl
any_named name (file ∷ files) = ap (λ found. bytes_eq file.name name || found) (any_named name files)

by_names : (files : List NamedFile) → names_differ files ≡ differ (names_of_files files)
by_names [] = refl
by_names (file ∷ files) = rw (any_named file.name files, by_names files)

-- files with the names of such that are distinct
pub distinct_by_names : (a b : List NamedFile) → names_of_files a ≡ names_of_files b → HasDistinctNames a → HasDistinctNames b
distinct_by_names a b e h = sym (by_names a ∙ ap differ e ∙ sym (by_names b)) ∙ h

-- there are files where there are paths
pub some_by_names : (files : List NamedFile) (paths : List (Bor (List ℕ))) → names_of_files files ≡ names_of_paths paths → 0 < length paths → 0 < length files
some_by_names files paths e some =
    omega (arith, simp length-map at (ap length e))

-- ---- refusals

not_named : (name : List ℕ) (files : List NamedFile) → list_any (has_name name) files ≡ false → (k : ℕ) (d : List ℕ) → k < length (names_of_files files) → name ≢ get_or (names_of_files files) k d
not_named name [] none k d within = λ same. absurd (omega arith)
not_named name (file ∷ files) none zero d within = λ same. both_ways _ (or_parts (bytes_eq file.name name) _ none).0 ((bytes_eq-Decides file.name name).1 (sym same))
not_named name (file ∷ files) none (suc k) d within = not_named name files (or_parts (bytes_eq file.name name) _ none).1 k d (omega arith)

distinct_names : (files : List NamedFile) → HasDistinctNames files → AreDistinct (names_of_files files)
distinct_names [] distinct i j d below within = λ same. absurd (omega arith)
distinct_names (file ∷ files) distinct zero zero d below within = λ same. absurd (omega arith)
distinct_names (file ∷ files) distinct (suc i) zero d below within = λ same. absurd (omega arith)
distinct_names (file ∷ files) distinct zero (suc j) d below within =
    let parts = and_parts (not (list_any (has_name file.name) files)) (names_differ files) distinct in
    not_named file.name files (not-true _ parts.0) j d (omega arith)
distinct_names (file ∷ files) distinct (suc i) (suc j) d below within =
    let parts = and_parts (not (list_any (has_name file.name) files)) (names_differ files) distinct in
    distinct_names files parts.1 i j d (omega arith) (omega arith)

-- paths of which two have one last component
pub repeated : (files : List NamedFile) (paths : List (Bor (List ℕ))) (r : Bool) → names_of_files files ≡ names_of_paths paths → (IsTrue r ↔ HasDistinctNames files) → r ≡ false → ¬ (AreDistinct (names_of_paths paths))
repeated files paths r same test other = λ distinct. both_ways r other (test.1 (distinct_files files (subst AreDistinct (sym same) distinct)))

-- a set is refused as its files are, where it has some, and no two have one last component
pub of_set : (files : List NamedFile) (paths : List (Bor (List ℕ))) (unread : Unread) → names_of_files files ≡ names_of_paths paths → HasDistinctNames files → 0 < length paths → IsRefusalOfFiles paths unread → IsRefusalOfSet paths unread
of_set files paths Memory same distinct some refused = some
of_set files paths NoDictionary same distinct some refused = absurd refused
of_set files paths SameNames same distinct some refused = absurd refused
of_set files paths (File path) same distinct some refused = (subst AreDistinct same (distinct_names files distinct), refused)
