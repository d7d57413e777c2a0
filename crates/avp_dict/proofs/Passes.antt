-- The passes over the lines, one after the other.
use Rattle.std.proofs.Common.{◌≡◌, ◌∙◌, ℕ, Bool, true, false, if◌then◌else◌, List, [], ◌++◌, Option, Some, None, Result, Ok, Err, refl, sym, ap, append-nil}
use Rattle.avp_dict.specs.declared.entries.AttributeLine.{AttributeLine}
use Rattle.avp_dict.specs.declared.entries.Note.{Note}
use Rattle.avp_dict.specs.declared.entries.ValueLine.{ValueLine}
use Rattle.avp_dict.specs.declared.faults.DictFault.{DictFault}
use Rattle.avp_dict.specs.declared.faults.RefusedLine.{RefusedLine}
use Rattle.avp_dict.specs.declared.faults.DictKind.TheVariants.{Unmatched}
use Rattle.avp_dict.specs.declared.file.files.NamedFile.{NamedFile}
use Rattle.avp_lists.specs.Meets.{Unless}
use Rattle.avp_dict.proofs.LinesRead.{read_lines_none, refuses_through}
use Rattle.avp_dict.specs.Blocks.{innermost}
use Rattle.avp_dict.specs.Dictionary.{Dictionary}
use Rattle.avp_dict.specs.DictionaryReading.{dictionary_of, fault_of, read_dictionary, settled_dictionary, unless_open}
use Rattle.avp_dict.specs.Lines.{lines_in, lines_of}
use Rattle.avp_dict.specs.Meanings.{Context, Reading, context_of}
use Rattle.avp_dict.specs.Outcomes.{is_memory, want_of_memory}
use Rattle.avp_dict.specs.internal.Refused.{is_memory_refusal}
use Rattle.avp_dict.specs.Readings.{read_lines}
use Rattle.avp_dict.specs.Refusals.{at_word}
use Rattle.avp_dict.specs.Settled.{skipped_names, used}
use Rattle.avp_dict.specs.Values.{resolve}

all_lines : (limit : ℕ) (files : List NamedFile) → read_lines limit files [] (lines_in files 9 0 ++ []) ≡ read_lines limit files [] (lines_of files)
unfolding lines_of
all_lines limit files = ap (read_lines limit files []) (append-nil (lines_in files 9 0))

pub read_fails : (limit : ℕ) (files : List NamedFile) (fault : RefusedLine) → Unless (is_memory_refusal fault) (read_lines limit files [] (lines_in files 9 0 ++ []) ≡ Err fault) → Unless (is_memory_refusal fault) (read_dictionary limit files ≡ Err fault)
unfolding read_dictionary
read_fails limit files fault h = refuses_through (is_memory_refusal fault) fault (read_lines limit files [] (lines_of files)) _ (rw all_lines at h)

module _ (limit : ℕ) (files : List NamedFile) (readings : List Reading) (is_read : read_lines limit files [] (lines_in files 9 0 ++ []) ≡ read_lines limit files readings []) where
  are_read : read_lines limit files [] (lines_of files) ≡ Ok readings
  are_read = sym (all_lines limit files) ∙ (is_read ∙ read_lines_none limit files readings)

  pub open_fails : (opened : List Reading) → opened ≡ (context_of readings).opened → (fault : RefusedLine) → unless_open (innermost opened) readings ≡ Err fault → read_dictionary limit files ≡ Err fault
  unfolding read_dictionary
  open_fails opened is_open fault h =
      let e : unless_open (innermost (context_of readings).opened) readings ≡ Err fault = rw is_open at h in
      rw (are_read, e)

  pub dictionary_resolved : (opened : List Reading) → opened ≡ (context_of readings).opened → innermost opened ≡ None → read_dictionary limit files ≡ settled_dictionary readings
  unfolding read_dictionary
  dictionary_resolved opened is_open closed =
      let e : innermost (context_of readings).opened ≡ None = rw is_open at closed in
      rw (are_read, e)

-- a refusal that is no want of memory
open_certain : (opened : Option Reading) (readings : List Reading) (fault : RefusedLine) → unless_open opened readings ≡ Err fault → is_memory_refusal fault ≡ false
open_certain None readings fault h = absurd (cc)
open_certain (Some r) readings fault h =
    let is : record { file = r.file; line = r.line; refused = at_word 1 Unmatched } ≡ fault = cc in
    ap is_memory_refusal (sym is)

pub open_refuses : (opened : Option Reading) (readings : List Reading) (fault : RefusedLine) (read : Result Dictionary RefusedLine) → unless_open opened readings ≡ Err fault → read ≡ Err fault → Unless (is_memory_refusal fault) (read ≡ Err fault)
open_refuses opened readings fault read h e = rw (open_certain opened readings fault h) e

-- the lines by what they define before the names of values
pub settled_by : (lines : List Reading) (context : Context) (attributes : List AttributeLine) (values tagged : List ValueLine) (notes : List Note) → context ≡ context_of lines → attributes ≡ used context.vendors context.attributes → values ≡ [] → tagged ≡ [] → notes ≡ []
    → settled_dictionary lines ≡ resolve (skipped_names context.vendors lines) (record { attributes = attributes; values = values; tagged_values = tagged; vendors = context.vendors; notes = notes }) lines
unfolding settled_dictionary
settled_by lines context attributes values tagged notes is are none untagged unnoted = rw (are, none, untagged, unnoted, is)

-- ---- the dictionary, or the fault for the refused line

pub read_gives : (limit : ℕ) (files : List NamedFile) (dictionary : Dictionary) → read_dictionary limit files ≡ Ok dictionary → dictionary_of limit files ≡ Ok dictionary
unfolding dictionary_of
read_gives limit files dictionary e = rw e refl

read_fault : (limit : ℕ) (files : List NamedFile) (refusal : RefusedLine) → read_dictionary limit files ≡ Err refusal → dictionary_of limit files ≡ Err (fault_of files refusal)
unfolding dictionary_of
read_fault limit files refusal e = rw e refl

abbrev pub fault_if : Bool → List NamedFile → RefusedLine → DictFault
fault_if memory files refusal = if memory then want_of_memory else fault_of files refusal

fault_by : (memory : Bool) (limit : ℕ) (files : List NamedFile) (refusal : RefusedLine) → is_memory_refusal refusal ≡ memory → Unless memory (read_dictionary limit files ≡ Err refusal) → Unless (is_memory (fault_if memory files refusal)) (dictionary_of limit files ≡ Err (fault_if memory files refusal))
fault_by true limit files refusal is h = tt
fault_by false limit files refusal is h = rw is (read_fault limit files refusal h)

pub read_refuses : (limit : ℕ) (files : List NamedFile) (refusal : RefusedLine) (fault : DictFault) → fault ≡ fault_if (is_memory_refusal refusal) files refusal → Unless (is_memory_refusal refusal) (read_dictionary limit files ≡ Err refusal) → Unless (is_memory fault) (dictionary_of limit files ≡ Err fault)
read_refuses limit files refusal fault e h = rw e (fault_by (is_memory_refusal refusal) limit files refusal refl h)
