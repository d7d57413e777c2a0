-- Files of a set without two files of one name have distinct names, and the other way round.
use Rattle.std.proofs.Common.{◌≡◌, ◌≢◌, ℕ, zero, suc, ◌<◌, Bool, true, false, ◌||◌, ◌&&◌, not, List, [], ◌∷◌, length, get_or, refl, sym, arith}
use Rattle.std.specs.List.{list_any}
use Rattle.std.specs.Str.{bytes_eq}
use Rattle.std.proofs.lemmas.Slice.Eq.{bytes_eq-Decides}
use Rattle.avp_dict.specs.declared.file.files.NamedFile.{NamedFile}
use Rattle.avp_dict.specs.Lines.{HasDistinctNames, has_name, names_differ}
use Rattle.radpolicy.specs.Plans.{AreDistinct, names_of_files}

neither_left : (a b : Bool) → (a || b) ≡ false → a ≡ false
neither_left true b h = h
neither_left false b h = refl

neither_right : (a b : Bool) → (a || b) ≡ false → b ≡ false
neither_right true b h = cc h
neither_right false b h = h

neither : (a b : Bool) → a ≡ false → b ≡ false → (a || b) ≡ false
neither true b h k = h
neither false b h k = k

none_of : (a b : Bool) → (not a && b) ≡ true → a ≡ false
none_of true b h = cc h
none_of false b h = refl

rest_of : (a b : Bool) → (not a && b) ≡ true → b ≡ true
rest_of true b h = cc h
rest_of false b h = h

both_of : (a b : Bool) → a ≡ false → b ≡ true → (not a && b) ≡ true
both_of true b h k = cc h
both_of false b h k = k

not_true : (a : Bool) → (a ≡ true → ⊥) → a ≡ false
not_true true h = absurd (h refl)
not_true false h = refl

-- ---- from the test

other_name : (name : List ℕ) (file : NamedFile) → bytes_eq file.name name ≡ false → name ≢ file.name
other_name name file h same =
    let equal = (bytes_eq-Decides file.name name).1 (sym same) in
    cc equal

named_by_none : (name : List ℕ) (files : List NamedFile) → list_any (has_name name) files ≡ false → (k : ℕ) (d : List ℕ) → k < length (names_of_files files) → name ≢ get_or (names_of_files files) k d
named_by_none name [] h k d within = absurd (omega arith)
named_by_none name (file ∷ files) h zero d within = other_name name file (neither_left (bytes_eq file.name name) (list_any (has_name name) files) h)
named_by_none name (file ∷ files) h (suc k) d within = named_by_none name files (neither_right (bytes_eq file.name name) (list_any (has_name name) files) h) k d (omega arith)

pub distinct_names : (files : List NamedFile) → HasDistinctNames files → AreDistinct (names_of_files files)
distinct_names [] h i j d below within = absurd (omega arith)
distinct_names (file ∷ files) h zero zero d below within = absurd (omega arith)
distinct_names (file ∷ files) h zero (suc j) d below within = named_by_none file.name files (none_of (list_any (has_name file.name) files) (names_differ files) h) j d (omega arith)
distinct_names (file ∷ files) h (suc i) zero d below within = absurd (omega arith)
distinct_names (file ∷ files) h (suc i) (suc j) d below within = distinct_names files (rest_of (list_any (has_name file.name) files) (names_differ files) h) i j d (omega arith) (omega arith)

pub some_files : (files : List NamedFile) → (length files ≡ 0 → ⊥) → 0 < length (names_of_files files)
some_files [] h = absurd (h refl)
some_files (file ∷ files) h = omega arith

-- ---- to the test

differs : (name : List ℕ) (file : NamedFile) → name ≢ file.name → bytes_eq file.name name ≡ false
differs name file other = not_true (bytes_eq file.name name) (λ equal. other (sym ((bytes_eq-Decides file.name name).0 equal)))

not_named : (name : List ℕ) (files : List NamedFile) → ((k : ℕ) (d : List ℕ) → k < length (names_of_files files) → name ≢ get_or (names_of_files files) k d) → list_any (has_name name) files ≡ false
not_named name [] h = refl
not_named name (file ∷ files) h =
    neither (bytes_eq file.name name) (list_any (has_name name) files) (differs name file (h zero [] (omega arith)))
    (not_named name files (λ k d within. h (suc k) d (omega arith)))

pub differing_names : (files : List NamedFile) → AreDistinct (names_of_files files) → HasDistinctNames files
differing_names [] h = refl
differing_names (file ∷ files) h =
    both_of (list_any (has_name file.name) files) (names_differ files)
    (not_named file.name files (λ k d within. h zero (suc k) d (omega arith) (omega arith)))
    (differing_names files (λ i j d below within. h (suc i) (suc j) d (omega arith) (omega arith)))

pub no_files : (files : List NamedFile) → 0 < length (names_of_files files) → length files ≡ 0 → ⊥
no_files [] some none = omega arith
no_files (file ∷ files) some none = omega arith
