-- What the lines of dictionary files were read as, and what the lines before one line leave for it.
use Rattle.std.specs.Prelude.{ℕ, ◌-◌, Bool, List, [], ◌∷◌, ◌++◌, length, take, Option}
use Rattle.std.specs.List.{fold}
use Rattle.avp_dict.specs.declared.entries.AttributeLine.{AttributeLine}
use Rattle.avp_dict.specs.declared.entries.VendorLine.{VendorLine}

-- a blank line or an include; a line that only gives a note; a skipped ATTRIBUTE line, by its name; a VENDOR line; an
-- ATTRIBUTE line that is not skipped; a VALUE line, its attribute, name and number; a BEGIN-VENDOR line, with the
-- vendor where the block is read and none where it is skipped; a BEGIN-TLV line; and the end of a block, which says
-- whether it gives a note
pub data Meaning : Type 0 where
  Nothing : Meaning
  Skipped : Meaning
  SkippedAttribute : List ℕ → Meaning
  Vendor : VendorLine → Meaning
  Attribute : AttributeLine → Meaning
  Value : List ℕ → List ℕ → ℕ → Meaning
  BeginVendor : List ℕ → Option ℕ → Meaning
  BeginTlv : List ℕ → Meaning
  End : Bool → Meaning

-- a line, by its file's place in the set and its number there
pub record Reading : Type 0 where
  pub file : ℕ
  pub line : ℕ
  pub meaning : Meaning

-- the attributes and vendors that lines define, and the lines that opened the blocks that are open after them, the
-- innermost last
pub record Context : Type 0 where
  pub attributes : List AttributeLine
  pub vendors : List VendorLine
  pub opened : List Reading

abbrev pub with_attribute : Context → AttributeLine → Context
with_attribute context a = record context { attributes = context.attributes ++ a ∷ [] }

abbrev pub with_vendor : Context → VendorLine → Context
with_vendor context v = record context { vendors = context.vendors ++ v ∷ [] }

abbrev pub with_opened : Context → List Reading → Context
with_opened context opened = record context { opened = opened }

-- a BEGIN line opens a block, and an END line closes the last open one
abbrev pub after_reading : Context → Reading → Context
after_reading context r = elim r.meaning [
  | Attribute a ↦ with_attribute context a
  | Vendor v ↦ with_vendor context v
  | BeginVendor name vendor ↦ with_opened context (context.opened ++ r ∷ [])
  | BeginTlv name ↦ with_opened context (context.opened ++ r ∷ [])
  | End noted ↦ with_opened context (take (length context.opened - 1) context.opened)
  | _ ↦ context
]

abbrev pub no_context : Context
no_context = record { attributes = []; vendors = []; opened = [] }

unfoldable pub context_of : List Reading → Context
context_of lines = fold after_reading no_context lines
