-- One line more.
use Rattle.std.proofs.Common.{◌≡◌, ℕ, Bool, true, false, ◌-◌, ◌∙◌, sym, ap, take, ◌<◌, List, [], ◌∷◌, ◌++◌, Result, Ok, Err, refl, length, if◌then◌else◌, nat_lt, ltb-true}
use Rattle.std.proofs.lemmas.List.{length-map, take-map}
use Rattle.std.proofs.lemmas.List.Sums.{fold_push}
use Rattle.avp_dict.specs.declared.file.files.NamedFile.{NamedFile}
use Rattle.avp_dict.specs.declared.faults.RefusedWord.{RefusedWord}
use Rattle.avp_dict.specs.declared.faults.DictKind.TheVariants.{TooLong}
use Rattle.avp_dict.specs.declared.file.meanings.Reading.{Reading as CodeReading}
use Rattle.avp_dict.specs.declared.faults.RefusedLine.{RefusedLine}
use Rattle.avp_lists.specs.Meets.{Unless}
use Rattle.avp_dict.specs.Lines.{Line}
use Rattle.avp_dict.specs.Meanings.{Context, Meaning, Reading, after_reading, context_of, no_context}
use Rattle.avp_dict.specs.Readings.{read_line, read_lines, within}
use Rattle.avp_dict.specs.Refusals.{at_word, refused_at, ◌>>=◌}
use Rattle.avp_dict.specs.internal.Meanings.{reading_view, reading_views}
use Rattle.avp_dict.specs.internal.Refused.{is_memory_refusal, is_memory_word}

pub context_of_push : (lines : List Reading) (r : Reading) → context_of (lines ++ r ∷ []) ≡ after_reading (context_of lines) r
unfolding context_of
context_of_push lines r = fold_push after_reading no_context lines r

pub context_of_none : context_of [] ≡ no_context
unfolding context_of
context_of_none = refl

pub read_lines_none : (limit : ℕ) (files : List NamedFile) (before : List Reading) → read_lines limit files before [] ≡ Ok before
unfolding read_lines
read_lines_none limit files before = refl

pub read_lines_ok : (limit : ℕ) (files : List NamedFile) (before : List Reading) (line : Line) (lines : List Line) (meaning : Meaning) → within limit before (read_line files (context_of before) line) ≡ Ok meaning
    → read_lines limit files before (line ∷ lines) ≡ read_lines limit files (before ++ record { file = line.file; line = line.number; meaning = meaning } ∷ []) lines
unfolding read_lines
read_lines_ok limit files before line lines meaning e = rw e

-- what holds of a step and of each way that it goes on holds of both, one after the other
pub then_both : {A B E : Type 0} (P : Result A E → Type 0) (Q : Result B E → Type 0) (r : Result A E) (f : A → Result B E) → P r → ((x : A) → P (Ok x) → Q (f x)) → ((e : E) → P (Err e) → Q (Err e)) → Q (r >>= f)
then_both P Q (Ok x) f h ok err = ok x h
then_both P Q (Err e) f h ok err = err e h

-- a step that is refused refuses what it is a step of
pub refuses_through : {A B E : Type 0} (memory : Bool) (fault : E) (r : Result A E) (f : A → Result B E) → Unless memory (r ≡ Err fault) → Unless memory (r >>= f ≡ Err fault)
refuses_through true fault r f h = h
refuses_through false fault r f h = rw h

pub read_lines_fails : (limit : ℕ) (files : List NamedFile) (before : List Reading) (line : Line) (lines : List Line) (fault : RefusedLine) → Unless (is_memory_refusal fault) (refused_at line.file line.number (within limit before (read_line files (context_of before) line)) ≡ Err fault) → Unless (is_memory_refusal fault) (read_lines limit files before (line ∷ lines) ≡ Err fault)
unfolding read_lines
read_lines_fails limit files before line lines fault h = refuses_through (is_memory_refusal fault) fault (refused_at line.file line.number (within limit before (read_line files (context_of before) line))) _ h

-- one line is read only where there is room
read_by : (room : Bool) (read : Result Meaning RefusedWord) (m : Meaning) → (if room then read else Err (at_word 0 TooLong)) ≡ Ok m → (room ≡ true) × (read ≡ Ok m)
read_by true read m h = (refl, h)
read_by false read m h = absurd (cc)

pub read_within : (limit : ℕ) (before : List Reading) (read : Result Meaning RefusedWord) (m : Meaning) → within limit before read ≡ Ok m → (length before < limit) × (read ≡ Ok m)
read_within limit before read m h =
    let parts = read_by (nat_lt (length before) limit) read m h in
    (ltb-true (length before) limit parts.0, parts.1)

-- what a line leaves for the next one
pub context_after : (before : List Reading) (was now : Context) (r : Reading) (after : List Reading) → was ≡ context_of before → now ≡ after_reading was r → after ≡ before ++ r ∷ [] → now ≡ context_of after
context_after before was now r after is_was is_now is_after = rw (is_after, context_of_push, ← is_was) is_now

-- the refusal of a line is what its definition gives
pub refused_by : {A : Type 0} (file line : ℕ) (refused : RefusedWord) (read : Result A RefusedWord) (refusal : RefusedLine) → refusal ≡ record { file = file; line = line; refused = refused } → Unless (is_memory_word refused) (read ≡ Err refused) → Unless (is_memory_refusal refusal) (refused_at file line read ≡ Err refusal)
refused_by file line refused read refusal e h = rw e (by (is_memory_word refused) h)
  where
    by : (memory : Bool) → Unless memory (read ≡ Err refused) → Unless memory (refused_at file line read ≡ Err (record { file = file; line = line; refused = refused }))
    by true h = tt
    by false h = rw h

-- all open blocks but the innermost
pub opened_cut : (opened : List CodeReading) (n : ℕ) → n ≡ length opened - 1 → reading_views (take n opened) ≡ take (length (reading_views opened) - 1) (reading_views opened)
opened_cut opened n e = sym (take-map reading_view n opened) ∙ ap (λ k. take k (reading_views opened)) (e ∙ ap (λ k. k - 1) (sym (length-map opened reading_view)))
