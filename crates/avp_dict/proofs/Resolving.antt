-- What one line more adds to a dictionary.
use Rattle.std.proofs.Common.{ap, ◌≡◌, ℕ, ◌+◌, ◌<◌, ◌≤◌, List, [], ◌∷◌, Err, Ok, refl, length, drop, get_or, add-one, drop-cons}
use Rattle.std.proofs.lemmas.List.{drop_all}
use Rattle.avp_dict.specs.declared.faults.RefusedLine.{RefusedLine}
use Rattle.avp_dict.specs.declared.file.meanings.Meaning.TheVariants as meanings
use Rattle.avp_dict.specs.declared.file.meanings.Reading.{Reading as CodeReading}
use Rattle.avp_lists.specs.Meets.{Unless}
use Rattle.avp_dict.proofs.LinesRead.{refuses_through}
use Rattle.avp_dict.specs.Dictionary.{Dictionary}
use Rattle.avp_dict.specs.Meanings.{Reading}
use Rattle.avp_dict.specs.internal.Refused.{is_memory_refusal}
use Rattle.avp_dict.specs.Values.{resolve, with_line}
use Rattle.avp_dict.specs.internal.Meanings.{reading_view, reading_views}

pub resolve_none : (skipped : List (List ℕ)) (dictionary : Dictionary) → resolve skipped dictionary [] ≡ Ok dictionary
unfolding resolve
resolve_none skipped dictionary = refl

pub resolve_ok : (skipped : List (List ℕ)) (dictionary more : Dictionary) (r : Reading) (rs : List Reading) → with_line skipped dictionary r ≡ Ok more → resolve skipped dictionary (r ∷ rs) ≡ resolve skipped more rs
unfolding resolve
resolve_ok skipped dictionary more r rs e = rw e

pub resolve_fails : (skipped : List (List ℕ)) (dictionary : Dictionary) (r : Reading) (rs : List Reading) (fault : RefusedLine) → Unless (is_memory_refusal fault) (with_line skipped dictionary r ≡ Err fault) → Unless (is_memory_refusal fault) (resolve skipped dictionary (r ∷ rs) ≡ Err fault)
unfolding resolve
resolve_fails skipped dictionary r rs fault h = refuses_through (is_memory_refusal fault) fault (with_line skipped dictionary r) _ h

abbrev pub some_reading : CodeReading
some_reading = record { file = 0; line = 0; meaning = meanings.Nothing }

pub next_readings : (readings : List CodeReading) (i : ℕ) (d : CodeReading) → i < length readings → reading_views (drop i readings) ≡ reading_view (get_or readings i d) ∷ reading_views (drop (i + 1) readings)
next_readings readings i d h = rw (add-one, drop-cons readings i d)

pub no_readings : (readings : List CodeReading) (i : ℕ) → length readings ≤ i → reading_views (drop i readings) ≡ []
no_readings readings i h = ap reading_views (drop_all i readings h)
