-- Files whose names are distinct are those of a set without two files of one name.
use Rattle.std.proofs.Common.{◌≡◌, ◌≢◌, ℕ, suc, ◌<◌, true, false, ◌||◌, List, [], ◌∷◌, length, get_or, refl, sym, arith}
use Rattle.std.specs.List.{list_any}
use Rattle.std.specs.Str.{bytes_eq}
use Rattle.std.proofs.lemmas.Slice.Eq.{bytes_eq-Decides}
use Rattle.avp_dict.specs.declared.file.files.NamedFile.{NamedFile}
use Rattle.avp_dict.specs.Lines.{HasDistinctNames, has_name}
use Rattle.radpolicy.specs.Plans.{AreDistinct, names_of_files}

-- a name that none of the files has
not_named : (name : List ℕ) (files : List NamedFile) → ((k : ℕ) (d : List ℕ) → k < length (names_of_files files) → name ≢ get_or (names_of_files files) k d) → list_any (has_name name) files ≡ false
not_named name [] h = refl
not_named name (file ∷ files) h =
    elim (bytes_eq file.name name) as (λ b. bytes_eq file.name name ≡ b → (b || list_any (has_name name) files) ≡ false) [
      | true ↦ λ e. absurd (h 0 [] (omega arith) (sym ((bytes_eq-Decides file.name name).0 e)))
      | false ↦ λ e. not_named name files (λ k d within. h (suc k) d (omega arith))
    ] refl

pub distinct_files : (files : List NamedFile) → AreDistinct (names_of_files files) → HasDistinctNames files
distinct_files [] h = refl
distinct_files (file ∷ files) h =
    let none = not_named file.name files (λ k d within. h 0 (suc k) d (omega arith) (omega arith)) in
    let rest = distinct_files files (λ i j d below within. h (suc i) (suc j) d (omega arith) (omega arith)) in
    rw (none, rest)
