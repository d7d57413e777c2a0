-- Each line, note and fault lies on a line of a file of the set.
use Rattle.std.proofs.Common.{◌≡◌, ℕ, zero, suc, Bool, true, false, ◌+◌, ◌-◌, ◌<◌, ◌≤◌, List, [], ◌∷◌, ◌++◌, Option, Some, None, Result, Ok, Err, refl, sym, ap, ◌∙◌, subst, arith, length, unwrap_or, slice_get, All, fold}
use Rattle.std.specs.Option.{option_and_then, option_map_or}
use Rattle.std.proofs.lemmas.Bool.{cond_both}
use Rattle.std.proofs.lemmas.Option.{slice_get_within, unwrap_or-slice_get}
use Rattle.std.proofs.lemmas.List.Elements.{All-nil, All-cons, All-head, All-tail, All-append, All-push, All-take}
use Rattle.avp_dict.specs.declared.entries.Note.{Note}
use Rattle.avp_dict.specs.declared.entries.ValueLine.{ValueLine}
use Rattle.avp_dict.specs.declared.faults.DictFault.{DictFault}
use Rattle.avp_dict.specs.declared.faults.RefusedLine.{RefusedLine}
use Rattle.avp_dict.specs.declared.faults.RefusedWord.{RefusedWord}
use Rattle.avp_dict.specs.declared.file.files.NamedFile.{NamedFile}
use Rattle.avp_lists.specs.Meets.{Unless}
use Rattle.avp_dict.proofs.FoundPositions.{found_within}
use Rattle.avp_dict.proofs.LinesRead.{then_both}
use Rattle.avp_dict.proofs.Passes.{fault_if}
use Rattle.avp_dict.proofs.RefusedWords.{word_place}
use Rattle.avp_dict.specs.Blocks.{innermost}
use Rattle.avp_dict.specs.Dictionary.{Dictionary, id_named}
use Rattle.avp_dict.specs.DictionaryReading.{outline_of, read_dictionary, settled_dictionary, unless_open}
use Rattle.avp_dict.specs.Lines.{Line, expanded, file_included, file_named, has_name, included_by, lines_below, lines_in, lines_of, octets_at, texts_of}
use Rattle.avp_dict.specs.Meanings.{Meaning, Value, BeginVendor, BeginTlv, End, Reading, Context, after_reading, context_of, no_context}
use Rattle.avp_dict.specs.Readings.{read_line, read_lines, within}
use Rattle.avp_dict.specs.Settled.{skipped_names}
use Rattle.avp_dict.specs.Refusals.{refused_at, ◌>>=◌}
use Rattle.avp_dict.specs.Values.{is_noted, note_of, resolve, tagged_value, value_of, with_line, with_note, with_tagged, with_value}
use Rattle.avp_dict.specs.Outcomes.{is_memory}
use Rattle.avp_dict.specs.WordPlaces.{IsWordPlace}
use Rattle.avp_dict.specs.Words.{words_of}
use Rattle.avp_dict.specs.internal.Refused.{is_memory_refusal}

-- a line of this number, from 1 on, of the file at this place
pub record IsInFile (files : List NamedFile) (file line : ℕ) : Type 0 where
  pub file_is : file < length files
  pub first : 1 ≤ line
  pub last : line ≤ length (texts_of (octets_at files file))

abbrev pub IsLineIn : List NamedFile → Line → Type 0
IsLineIn n line = IsInFile n line.file line.number

abbrev pub IsIn : List NamedFile → Reading → Type 0
IsIn n r = IsInFile n r.file r.line

abbrev pub IsRefusedIn : List NamedFile → RefusedLine → Type 0
IsRefusedIn n refusal = IsInFile n refusal.file refusal.line

abbrev pub AreIn : List NamedFile → Result (List Reading) RefusedLine → Type 0
AreIn n (Ok readings) = All (IsIn n) readings
AreIn n (Err refusal) = IsRefusedIn n refusal

abbrev pub IsNoteIn : List NamedFile → Note → Type 0
IsNoteIn n note = IsInFile n note.file note.line

abbrev pub IsDictionaryIn : List NamedFile → Result Dictionary RefusedLine → Type 0
IsDictionaryIn n (Ok dictionary) = All (IsNoteIn n) dictionary.notes
IsDictionaryIn n (Err refusal) = IsRefusedIn n refusal

-- ---- the lines of a file set

named_within : (files : List NamedFile) (name : Option (List ℕ)) (place : ℕ) → option_and_then (λ name. file_named name files) name ≡ Some place → place < length files
named_within files None place h = absurd (cc)
named_within files (Some name) place h = found_within (has_name name) files place h

module _ (files : List NamedFile) where
  below_in : (lines_at : ℕ → List Line) → ((place : ℕ) → place < length files → All (IsLineIn files) (lines_at place)) → (included : Option ℕ) → ((place : ℕ) → included ≡ Some place → place < length files) → All (IsLineIn files) (option_map_or lines_at included [])
  below_in lines_at h None within = All-nil (IsLineIn files)
  below_in lines_at h (Some place) within = h place (within place refl)

  -- the texts are the last of the file's, from the line of this number on
  expanded_in : (below : List ℕ → List Line) → ((text : List ℕ) → All (IsLineIn files) (below text)) → (file depth number : ℕ) → file < length files → 1 ≤ number → (texts : List (List ℕ)) → number + length texts ≤ length (texts_of (octets_at files file)) + 1 → All (IsLineIn files) (expanded below file depth number texts)
  expanded_in below h file depth number lt first [] last = All-nil (IsLineIn files)
  expanded_in below h file depth number lt first (text ∷ texts) last = All-cons (IsLineIn files) (record { file = file; number = number; depth = depth; text = text }) (below text ++ expanded below file depth (number + 1) texts) (record { file_is = lt; first = first; last = omega (arith, last) }) (All-append (IsLineIn files) (below text) (expanded below file depth (number + 1) texts) (h text) (expanded_in below h file depth (number + 1) lt (omega arith) texts (omega (arith, last))))

  lines_in_in : (levels place : ℕ) → place < length files → All (IsLineIn files) (lines_in files levels place)
  unfolding lines_in
  lines_in_in zero place lt = All-nil (IsLineIn files)
  lines_in_in (suc levels) place lt =
      expanded_in (lines_below files (lines_in files levels)) (λ text. below_in (lines_in files levels) (lines_in_in levels) (file_included files text) (named_within files (included_by (words_of text)))) place (8 - levels) 1 lt (omega arith) (texts_of (octets_at files place)) (omega arith)

  lines_of_in : 0 < length files → All (IsLineIn files) (lines_of files)
  unfolding lines_of
  lines_of_in some = lines_in_in 9 0 some

-- ---- the passes over them

module _ (n : List NamedFile) where
  get_in : {A : Type 0} (P : A → Type 0) (xs : List A) (i : ℕ) (x : A) → All P xs → slice_get xs i ≡ Some x → P x
  get_in P xs i x all e = subst P (sym (unwrap_or-slice_get xs i x) ∙ ap (λ o. unwrap_or o x) e) (all i x (slice_get_within xs i x e))

  step_in : (file line : ℕ) (r : Result Meaning RefusedWord) (f : Meaning → Result (List Reading) RefusedLine) → IsInFile n file line → ((meaning : Meaning) → AreIn n (f meaning)) → AreIn n (refused_at file line r >>= f)
  step_in file line (Ok meaning) f lt next = next meaning
  step_in file line (Err kind) f lt next = lt

  read_lines_in : (limit : ℕ) (files : List NamedFile) (before : List Reading) (lines : List Line) → All (IsIn n) before → All (IsLineIn n) lines → AreIn n (read_lines limit files before lines)
  unfolding read_lines
  read_lines_in limit files before [] were are = were
  read_lines_in limit files before (line ∷ lines) were are =
      step_in line.file line.number (within limit before (read_line files (context_of before) line)) _ (All-head (IsLineIn n) line lines are) (λ meaning.
      let r : Reading = record { file = line.file; line = line.number; meaning = meaning } in
      read_lines_in limit files (before ++ r ∷ []) lines (All-push (IsIn n) before r were (All-head (IsLineIn n) line lines are)) (All-tail (IsLineIn n) line lines are))

  after_line_in : (context : Context) (file line : ℕ) (m : Meaning) → All (IsIn n) context.opened → IsInFile n file line → All (IsIn n) (after_reading context (record { file = file; line = line; meaning = m })).opened
  after_line_in context file line (BeginVendor name v) are is = All-push (IsIn n) context.opened (record { file = file; line = line; meaning = BeginVendor name v }) are is
  after_line_in context file line (BeginTlv name) are is = All-push (IsIn n) context.opened (record { file = file; line = line; meaning = BeginTlv name }) are is
  after_line_in context file line (End noted) are is = All-take (IsIn n) (length context.opened - 1) context.opened are
  after_line_in context file line _ are is = are

  fold_in : (context : Context) (readings : List Reading) → All (IsIn n) context.opened → All (IsIn n) readings → All (IsIn n) (fold after_reading context readings).opened
  fold_in context [] were are = were
  fold_in context (r ∷ rs) were are = fold_in (after_reading context r) rs (after_line_in context r.file r.line r.meaning were (All-head (IsIn n) r rs are)) (All-tail (IsIn n) r rs are)

  opened_in : (readings : List Reading) → All (IsIn n) readings → All (IsIn n) (context_of readings).opened
  unfolding context_of
  opened_in readings are = fold_in no_context readings (All-nil (IsIn n)) are

  unless_open_in : (opened : Option Reading) (readings : List Reading) → ((r : Reading) → opened ≡ Some r → IsIn n r) → All (IsIn n) readings → AreIn n (unless_open opened readings)
  unless_open_in None readings is are = are
  unless_open_in (Some r) readings is are = is r refl

  -- ---- what the lines add

  note_in : (dictionary : Dictionary) (r : Reading) → All (IsNoteIn n) dictionary.notes → IsIn n r → All (IsNoteIn n) (with_note dictionary r).notes
  note_in dictionary r were is = All-push (IsNoteIn n) dictionary.notes (note_of r) were is

  tagged_in : (dictionary : Dictionary) (tagged : Option ValueLine) → All (IsNoteIn n) dictionary.notes → All (IsNoteIn n) (with_tagged dictionary tagged).notes
  tagged_in dictionary None were = were
  tagged_in dictionary (Some v) were = were

  value_in : (value : Result (Option ValueLine) RefusedWord) (tagged : Option ValueLine) (dictionary : Dictionary) (r : Reading) → All (IsNoteIn n) dictionary.notes → IsIn n r → IsDictionaryIn n (refused_at r.file r.line value >>= λ v. Ok (with_tagged (with_value dictionary r v) tagged))
  value_in (Ok None) tagged dictionary r were is = tagged_in (with_note dictionary r) tagged (note_in dictionary r were is)
  value_in (Ok (Some v)) tagged dictionary r were is = tagged_in (with_value dictionary r (Some v)) tagged were
  value_in (Err kind) tagged dictionary r were is = is

  with_line_in : (skipped : List (List ℕ)) (dictionary : Dictionary) (r : Reading) (m : Meaning) → r.meaning ≡ m → All (IsNoteIn n) dictionary.notes → IsIn n r → IsDictionaryIn n (with_line skipped dictionary r)
  unfolding with_line
  with_line_in skipped dictionary r (Value attribute name v) e were is = rw e (value_in (value_of skipped dictionary attribute name v (id_named attribute dictionary.attributes)) (tagged_value dictionary name v (id_named attribute dictionary.attributes)) dictionary r were is)
  with_line_in skipped dictionary r m e were is =
      rw e (cond_both (is_noted dictionary.vendors m) (with_note dictionary r) dictionary (λ (d : Dictionary). All (IsNoteIn n) d.notes)
      (λ noted. note_in dictionary r were is) (λ other. were))

  resolve_in : (skipped : List (List ℕ)) (dictionary : Dictionary) (readings : List Reading) → All (IsNoteIn n) dictionary.notes → All (IsIn n) readings → IsDictionaryIn n (resolve skipped dictionary readings)
  unfolding resolve
  resolve_in skipped dictionary [] were are = were
  resolve_in skipped dictionary (r ∷ rs) were are =
      then_both (IsDictionaryIn n) (IsDictionaryIn n) (with_line skipped dictionary r) _
      (with_line_in skipped dictionary r r.meaning refl were (All-head (IsIn n) r rs are))
      (λ more now. resolve_in skipped more rs now (All-tail (IsIn n) r rs are)) (λ e h. h)

  settled_in : (readings : List Reading) → All (IsIn n) readings → IsDictionaryIn n (settled_dictionary readings)
  unfolding settled_dictionary
  settled_in readings are = resolve_in (skipped_names (context_of readings).vendors readings) (outline_of (context_of readings)) readings (All-nil (IsNoteIn n)) are

pub dictionary_in : (limit : ℕ) (files : List NamedFile) → 0 < length files → IsDictionaryIn files (read_dictionary limit files)
unfolding read_dictionary
dictionary_in limit files some =
    then_both (AreIn files) (IsDictionaryIn files) (read_lines limit files [] (lines_of files)) _
    (read_lines_in files limit files [] (lines_of files) (All-nil (IsIn files)) (lines_of_in files some)) (λ readings are.
    then_both (AreIn files) (IsDictionaryIn files) (unless_open (innermost (context_of readings).opened) readings) _
    (unless_open_in files (innermost (context_of readings).opened) readings
    (λ r e. get_in files (IsIn files) (context_of readings).opened (length (context_of readings).opened - 1) r (opened_in files readings are) e) are)
    (settled_in files) (λ e h. h)) (λ e h. h)

-- ---- refusals and notes

pub refused_in : (limit : ℕ) (files : List NamedFile) (refusal : RefusedLine) → 0 < length files → read_dictionary limit files ≡ Err refusal → IsRefusedIn files refusal
refused_in limit files refusal some e = subst (IsDictionaryIn files) e (dictionary_in limit files some)

file_by : (memory : Bool) (limit : ℕ) (files : List NamedFile) (refusal : RefusedLine) → 0 < length files → Unless memory (read_dictionary limit files ≡ Err refusal) → (fault_if memory files refusal).file < length files
file_by true limit files refusal some h = some
file_by false limit files refusal some h = (refused_in limit files refusal some h).file_is

place_by : (memory : Bool) (limit : ℕ) (files : List NamedFile) (refusal : RefusedLine) → is_memory_refusal refusal ≡ memory → 0 < length files → Unless memory (read_dictionary limit files ≡ Err refusal)
    → Unless (is_memory (fault_if memory files refusal)) (IsWordPlace (octets_at files (fault_if memory files refusal).file) (fault_if memory files refusal).line (fault_if memory files refusal).offset)
place_by true limit files refusal is some h = tt
place_by false limit files refusal is some h =
    let there = refused_in limit files refusal some h in
    rw is (word_place refusal.line refusal.refused.word (octets_at files refusal.file) there.first there.last)

module _ (limit : ℕ) (files : List NamedFile) (refusal : RefusedLine) (fault : DictFault) (some : 0 < length files) (e : fault ≡ fault_if (is_memory_refusal refusal) files refusal) (h : Unless (is_memory_refusal refusal) (read_dictionary limit files ≡ Err refusal)) where
  pub fault_in : fault.file < length files
  fault_in = rw e (file_by (is_memory_refusal refusal) limit files refusal some h)

  pub fault_place : Unless (is_memory fault) (IsWordPlace (octets_at files fault.file) fault.line fault.offset)
  fault_place = rw e (place_by (is_memory_refusal refusal) limit files refusal refl some h)

pub notes_in : (limit : ℕ) (files : List NamedFile) (dictionary : Dictionary) → 0 < length files → read_dictionary limit files ≡ Ok dictionary → All (λ (note : Note). note.file < length files) dictionary.notes
notes_in limit files dictionary some e =
    let are = subst (IsDictionaryIn files) e (dictionary_in limit files some) in
    λ k d lt. (are k d lt).file_is
