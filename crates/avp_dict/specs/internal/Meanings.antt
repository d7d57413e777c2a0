-- What the code's readings stand for.
use Rattle.std.specs.Prelude.{◌≤◌, ℕ, Bool, true, false, List, [], ◌∷◌, map, length, Option, Some, None, Result, if◌then◌else◌}
use Rattle.std.specs.Result.{result_map_both}
use Rattle.avp_dict.specs.declared.entries.VendorLine.{VendorLine}
use Rattle.avp_dict.specs.Letters.{max_name}
use Rattle.avp_dict.specs.Settled.{is_kept}
use Rattle.avp_dict.specs.declared.faults.RefusedWord.{RefusedWord}
use Rattle.avp_dict.specs.declared.file.context.Context.{Context as CodeContext}
use Rattle.avp_dict.specs.declared.file.meanings.Meaning.{Meaning as CodeMeaning}
use Rattle.avp_dict.specs.declared.file.meanings.Meaning.TheVariants as code
use Rattle.avp_dict.specs.declared.file.meanings.Reading.{Reading as CodeReading}
use Rattle.avp_dict.specs.Meanings.{Meaning, Nothing, Skipped, SkippedAttribute, Vendor, Attribute, Value, BeginVendor, BeginTlv, End, Reading, Context}

-- a meaning without where its words lie in memory
abbrev pub meaning_view : CodeMeaning → Meaning
meaning_view code.Nothing = Nothing
meaning_view code.Skipped = Skipped
meaning_view (code.SkippedAttribute name) = SkippedAttribute name.now
meaning_view (code.Vendor name number format) =
    Vendor (record { name = name.now; number = number; format = format })
meaning_view (code.Attribute name id typing) =
    Attribute (record { name = name.now; id = id; typing = typing })
meaning_view (code.Value attribute name number) = Value attribute.now name.now number
meaning_view (code.BeginVendor name vendor) = BeginVendor name.now vendor
meaning_view (code.BeginTlv name) = BeginTlv name.now
meaning_view (code.End noted) = End noted

-- what a line was read as, if it was
abbrev pub read_view : Result CodeMeaning RefusedWord → Result Meaning RefusedWord
read_view read = result_map_both meaning_view (λ refused. refused) read

abbrev pub reading_view : CodeReading → Reading
reading_view r = record { file = r.file; line = r.line; meaning = meaning_view r.meaning }

abbrev pub reading_views : List CodeReading → List Reading
reading_views readings = map reading_view readings

abbrev pub context_view : CodeContext → Context
context_view context =
    record {
      attributes = context.attributes;
      vendors = context.vendors;
      opened = reading_views context.opened.items;
    }

-- the name of a line that a table takes is as short as a name has to be
abbrev pub IsShort : CodeMeaning → Type 0
IsShort (code.Vendor name number format) = length name.now ≤ max_name
IsShort (code.Attribute name id typing) = length name.now ≤ max_name
IsShort _ = Unit {0}

abbrev pub is_value_line : CodeMeaning → Bool
is_value_line (code.Value attribute name number) = true
is_value_line _ = false

abbrev pub name_if : Option (List ℕ) → List (List ℕ)
name_if None = []
name_if (Some name) = name ∷ []

-- the name of a skipped ATTRIBUTE line
abbrev pub skipped_name_of : List VendorLine → Meaning → List (List ℕ)
skipped_name_of vendors m = elim m [
  | SkippedAttribute name ↦ name ∷ []
  | Attribute a ↦ (if is_kept vendors a.id then [] else a.name ∷ [])
  | _ ↦ []
]
