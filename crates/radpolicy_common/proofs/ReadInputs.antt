-- Inputs that are read one after another.
use Rattle.std.proofs.Common.{◌≡◌, ◌∙◌, ◌+◌, ◌<◌, ◌++◌, ℕ, List, [], ◌∷◌, Option, None, Some, map, length, get_or, take, drop, ap, sym, subst, refl}
use Rattle.std.proofs.lemmas.List.{map-append, take-append-drop, take_more}
use Rattle.std.specs.Borrow.{Bor}
use Rattle.avp_dict.specs.declared.file.files.NamedFile.{NamedFile}
use Rattle.avp_dict.specs.Lines.{last_component}
use Rattle.radpolicy.specs.Plans.{names_of_files, names_of_paths}
use Rattle.radpolicy_common.specs.Inputs.{Contents, Input, AreRead, AreUnread, IsHeldBy, WhereKnown, file_of, files_of, first_unread, held_by, octets_of_files, unread_name}
use Rattle.radpolicy_common.specs.declared.files.Unread.{Unread}
use Rattle.radpolicy_common.specs.declared.files.Unread.TheVariants.{File, Memory, NoDictionary, SameNames}

-- what comes after inputs that can all be read
unread_after : (a b : List Input) → first_unread a ≡ None → first_unread (a ++ b) ≡ first_unread b
unread_after [] b none = refl
unread_after (input ∷ a) b none = by_held (unread_after a b) input.held none
  where
    by_held : (first_unread a ≡ None → first_unread (a ++ b) ≡ first_unread b) → (held : Option (List ℕ)) → unread_name input.name held (first_unread a) ≡ None → unread_name input.name held (first_unread (a ++ b)) ≡ first_unread b
    by_held later None none = absurd (cc)
    by_held later (Some octets) none = later none

unread_still : (a b : List Input) (name : List ℕ) → first_unread a ≡ Some name → first_unread (a ++ b) ≡ Some name
unread_still [] b name some = absurd (cc)
unread_still (input ∷ a) b name some = by_held (unread_still a b name) input.held some
  where
    by_held : (first_unread a ≡ Some name → first_unread (a ++ b) ≡ Some name) → (held : Option (List ℕ)) → unread_name input.name held (first_unread a) ≡ Some name → unread_name input.name held (first_unread (a ++ b)) ≡ Some name
    by_held later None some = some
    by_held later (Some octets) some = later some

all_read : (inputs : List Input) (octets : List (List ℕ)) → AreRead inputs octets → first_unread inputs ≡ None
all_read [] octets read = refl
all_read (input ∷ inputs) [] read = absurd (cc)
all_read (input ∷ inputs) (first ∷ octets) read = let held : input.held ≡ Some first = cc in rw held (all_read inputs octets (cc))

-- inputs that were not read, whatever comes after them
pub unread_before : (a b : List Input) (unread : Unread) → AreUnread a unread → AreUnread (a ++ b) unread
unread_before a b Memory u = u
unread_before a b NoDictionary u = u
unread_before a b SameNames u = u
unread_before a b (File path) u = unread_still a b path.now u

held_read : (inputs : List Input) (octets : List ℕ) → IsHeldBy inputs octets → first_unread inputs ≡ None
held_read [] octets held = refl
held_read (input ∷ []) octets held = rw held refl
held_read (input ∷ other ∷ others) octets held = absurd held

after_none : (a b : List Input) (unread : Unread) → first_unread a ≡ None → AreUnread b unread → AreUnread (a ++ b) unread
after_none a b Memory none u = u
after_none a b NoDictionary none u = u
after_none a b SameNames none u = u
after_none a b (File path) none u = unread_after a b none ∙ u

read_both : (a b : List Input) → first_unread a ≡ None → first_unread b ≡ None → first_unread (a ++ b) ≡ None
read_both a b none none' = unread_after a b none ∙ none'

abbrev pub AllRead : Option Contents → (Contents → List Input) → Type 0
AllRead known inputs = WhereKnown known (λ c. first_unread (inputs c) ≡ None)

pub read_files : (known : Option Contents) (a : Contents → List Input) (octets : List (List ℕ)) → WhereKnown known (λ c. AreRead (a c) octets) → AllRead known a
read_files None a octets read = read
read_files (Some c) a octets read = all_read (a c) octets read

pub read_one : (known : Option Contents) (a : Contents → List Input) (octets : List ℕ) → WhereKnown known (λ c. IsHeldBy (a c) octets) → AllRead known a
read_one None a octets held = held
read_one (Some c) a octets held = held_read (a c) octets held

read_more : (known : Option Contents) (a b : Contents → List Input) → AllRead known a → AllRead known b → AllRead known (λ c. a c ++ b c)
read_more None a b read more = read
read_more (Some c) a b read more = read_both (a c) (b c) read more

unread_last : (known : Option Contents) (a b : Contents → List Input) (unread : Unread) → AllRead known a → WhereKnown known (λ c. AreUnread (b c) unread) → WhereKnown known (λ c. AreUnread (a c ++ b c) unread)
unread_last None a b unread read u = u
unread_last (Some c) a b unread read u = after_none (a c) (b c) unread read u

unread_first : (known : Option Contents) (a b : Contents → List Input) (unread : Unread) → WhereKnown known (λ c. AreUnread (a c) unread) → WhereKnown known (λ c. AreUnread (a c ++ b c) unread)
unread_first None a b unread u = u
unread_first (Some c) a b unread u = unread_before (a c) (b c) unread u

-- five inputs or lists of them, one after another, and the first of them that was not read
module _ (known : Option Contents) (a b c d e : Contents → List Input) (unread : Unread) where
  abbrev ab : Contents → List Input
  ab c' = a c' ++ b c'

  abbrev abc : Contents → List Input
  abc c' = ab c' ++ c c'

  abbrev abcd : Contents → List Input
  abcd c' = abc c' ++ d c'

  abbrev pub IsUnread : (Contents → List Input) → Type 0
  IsUnread inputs = WhereKnown known (λ c'. AreUnread (inputs c') unread)

  abbrev pub IsUnreadInAll : Type 0
  IsUnreadInAll = WhereKnown known (λ c'. AreUnread (a c' ++ b c' ++ c c' ++ d c' ++ e c') unread)

  from_fourth : IsUnread abcd → IsUnreadInAll
  from_fourth u = unread_first known abcd e unread u

  from_third : IsUnread abc → IsUnreadInAll
  from_third u = from_fourth (unread_first known abc d unread u)

  from_second : IsUnread ab → IsUnreadInAll
  from_second u = from_third (unread_first known ab c unread u)

  pub first_of_five : IsUnread a → IsUnreadInAll
  first_of_five u = from_second (unread_first known a b unread u)

  pub second_of_five : AllRead known a → IsUnread b → IsUnreadInAll
  second_of_five ra u = from_second (unread_last known a b unread ra u)

  read_ab : AllRead known a → AllRead known b → AllRead known ab
  read_ab ra rb = read_more known a b ra rb

  read_abc : AllRead known a → AllRead known b → AllRead known c → AllRead known abc
  read_abc ra rb rc = read_more known ab c (read_ab ra rb) rc

  pub third_of_five : AllRead known a → AllRead known b → IsUnread c → IsUnreadInAll
  third_of_five ra rb u = from_third (unread_last known ab c unread (read_ab ra rb) u)

  pub fourth_of_five : AllRead known a → AllRead known b → AllRead known c → IsUnread d → IsUnreadInAll
  fourth_of_five ra rb rc u = from_fourth (unread_last known abc d unread (read_abc ra rb rc) u)

  pub fifth_of_five : AllRead known a → AllRead known b → AllRead known c → AllRead known d → IsUnread e → IsUnreadInAll
  fifth_of_five ra rb rc rd u = unread_last known abcd e unread (read_more known abc d (read_abc ra rb rc) rd) u

held_more : (c : Contents) (paths : List (Bor (List ℕ))) (path : Bor (List ℕ)) → held_by (files_of c (paths ++ path ∷ [])) ≡ held_by (files_of c paths) ++ c.file path.now ∷ []
held_more c [] path = refl
held_more c (first ∷ paths) path = ap (λ more. c.file first.now ∷ more) (held_more c paths path)

octets_more : (files : List NamedFile) (file : NamedFile) → map Some (octets_of_files (files ++ file ∷ [])) ≡ map Some (octets_of_files files) ++ Some file.octets ∷ []
octets_more [] file = refl
octets_more (first ∷ files) file = ap (λ more. Some first.octets ∷ more) (octets_more files file)

files_then : (c : Contents) (a b : List (Bor (List ℕ))) → files_of c (a ++ b) ≡ files_of c a ++ files_of c b
files_then c a b = map-append (file_of c) a b

-- one file more
module _ (known : Option Contents) (paths : List (Bor (List ℕ))) (i : ℕ) (path : Bor (List ℕ)) (lt : i < length paths) (here : get_or paths i path ≡ path) where
  taken : take (i + 1) paths ≡ take i paths ++ path ∷ []
  taken = take_more paths i path lt ∙ ap (λ last. take i paths ++ last ∷ []) here

  pub names_next : (files : List NamedFile) (file : NamedFile) → names_of_files files ≡ names_of_paths (take i paths) → file.name ≡ last_component path.now → names_of_files (files ++ file ∷ []) ≡ names_of_paths (take (i + 1) paths)
  names_next files file names name =
      map-append (λ file. file.name) files (file ∷ [])
      ∙ ap (λ front. front ++ file.name ∷ []) names
      ∙ ap (λ last. names_of_paths (take i paths) ++ last ∷ []) name
      ∙ sym (map-append (λ path. last_component path.now) (take i paths) (path ∷ []))
      ∙ ap names_of_paths (sym taken)

  pub read_next : (files : List NamedFile) (file : NamedFile) → WhereKnown known (λ c. AreRead (files_of c (take i paths)) (octets_of_files files)) → WhereKnown known (λ c. c.file path.now ≡ Some file.octets) → WhereKnown known (λ c. AreRead (files_of c (take (i + 1) paths)) (octets_of_files (files ++ file ∷ [])))
  read_next files file = go known
    where
      go : (known : Option Contents) → WhereKnown known (λ c. AreRead (files_of c (take i paths)) (octets_of_files files)) → WhereKnown known (λ c. c.file path.now ≡ Some file.octets) → WhereKnown known (λ c. AreRead (files_of c (take (i + 1) paths)) (octets_of_files (files ++ file ∷ [])))
      go None read held = read
      go (Some c) read held =
          ap (λ paths. held_by (files_of c paths)) taken ∙ held_more c (take i paths) path
          ∙ ap (λ front. front ++ c.file path.now ∷ []) read
          ∙ ap (λ last. map Some (octets_of_files files) ++ last ∷ []) held
          ∙ sym (octets_more files file)

  pub unread_next : (octets : List (List ℕ)) (unread : Unread) → WhereKnown known (λ c. AreRead (files_of c (take i paths)) octets) → WhereKnown known (λ c. AreUnread (file_of c path ∷ []) unread) → WhereKnown known (λ c. AreUnread (files_of c paths) unread)
  unread_next octets unread = go known
    where
      go : (known : Option Contents) → WhereKnown known (λ c. AreRead (files_of c (take i paths)) octets) → WhereKnown known (λ c. AreUnread (file_of c path ∷ []) unread) → WhereKnown known (λ c. AreUnread (files_of c paths) unread)
      go None read u = u
      go (Some c) read u =
          let last : AreUnread (files_of c (take i paths) ++ file_of c path ∷ []) unread = after_none (files_of c (take i paths)) (file_of c path ∷ []) unread (all_read (files_of c (take i paths)) octets read) u in
          let front : AreUnread (files_of c (take (i + 1) paths)) unread = subst (λ inputs. AreUnread inputs unread) (sym (files_then c (take i paths) (path ∷ [])) ∙ ap (files_of c) (sym taken)) last in
          let whole : AreUnread (files_of c (take (i + 1) paths) ++ files_of c (drop (i + 1) paths)) unread = unread_before (files_of c (take (i + 1) paths)) (files_of c (drop (i + 1) paths)) unread front in
          subst (λ inputs. AreUnread inputs unread) (sym (files_then c (take (i + 1) paths) (drop (i + 1) paths)) ∙ ap (files_of c) (take-append-drop (i + 1) paths)) whole
