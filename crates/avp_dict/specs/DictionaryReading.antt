-- The dictionary that the lines of a file set define, or the first refusal.
use Rattle.std.specs.Prelude.{ℕ, List, [], Option, Some, None, Result, Ok, Err}
use Rattle.std.specs.Result.{result_map_both}
use Rattle.avp_dict.specs.declared.file.files.NamedFile.{NamedFile}
use Rattle.avp_dict.specs.declared.faults.DictFault.{DictFault}
use Rattle.avp_dict.specs.declared.faults.RefusedLine.{RefusedLine}
use Rattle.avp_dict.specs.declared.faults.DictKind.TheVariants.{Unmatched}
use Rattle.avp_dict.specs.Blocks.{innermost}
use Rattle.avp_dict.specs.Dictionary.{Dictionary}
use Rattle.avp_dict.specs.Lines.{lines_of, octets_at}
use Rattle.avp_dict.specs.Meanings.{Reading, Context, context_of}
use Rattle.avp_dict.specs.Readings.{read_lines}
use Rattle.avp_dict.specs.Settled.{used, skipped_names}
use Rattle.avp_dict.specs.Refusals.{◌>>=◌, at_word}
use Rattle.avp_dict.specs.Values.{resolve}
use Rattle.avp_dict.specs.WordPlaces.{word_offset}

-- a block left open, at the name in the line that opened it
abbrev pub unless_open : {A : Type 0} → Option Reading → A → Result A RefusedLine
unless_open None x = Ok x
unless_open (Some r) x =
    Err (record { file = r.file; line = r.line; refused = at_word 1 Unmatched })

-- the most lines that are read
abbrev pub max_lines : ℕ
max_lines = 200000

-- what the lines define, without the names of values and the notes
abbrev pub outline_of : Context → Dictionary
outline_of context =
    record {
      attributes = used context.vendors context.attributes;
      values = [];
      tagged_values = [];
      vendors = context.vendors;
      notes = [];
    }

-- the used attributes and the vendors of all lines, and what the lines add one after the other: the names of values,
-- and notes
unfoldable pub settled_dictionary : List Reading → Result Dictionary RefusedLine
settled_dictionary lines =
    resolve (skipped_names (context_of lines).vendors lines) (outline_of (context_of lines)) lines

-- first the lines, so many at most, one after the other; then a block left open, and the VALUE lines
unfoldable pub read_dictionary : ℕ → List NamedFile → Result Dictionary RefusedLine
read_dictionary limit files = do
  lines ← read_lines limit files [] (lines_of files)
  closed ← unless_open (innermost (context_of lines).opened) lines
  settled_dictionary closed

-- the fault for a refused line: how many octets of its file are before the refused word
abbrev pub fault_of : List NamedFile → RefusedLine → DictFault
fault_of files refused =
    record {
      file = refused.file;
      line = refused.line;
      offset =
          word_offset refused.line refused.refused.word (octets_at files refused.file);
      kind = refused.refused.kind;
    }

-- the dictionary, or the first fault
unfoldable pub dictionary_of : ℕ → List NamedFile → Result Dictionary DictFault
dictionary_of limit files =
    result_map_both (λ dictionary. dictionary) (fault_of files) (read_dictionary limit files)
