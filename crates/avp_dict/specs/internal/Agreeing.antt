-- Lines that agree on what their names stand for, so that the last line of a name tells what all of them do.
use Rattle.std.specs.Prelude.{◌≡◌, Bool, false, not, if◌then◌else◌, List, [], Option, Some, None, Result, Ok, Err}
use Rattle.std.specs.List.{All, list_any}
use Rattle.avp_dict.specs.declared.entries.AttributeLine.{AttributeLine}
use Rattle.avp_dict.specs.declared.entries.ValueLine.{ValueLine}
use Rattle.avp_dict.specs.declared.entries.VendorLine.{VendorLine}
use Rattle.avp_dict.specs.declared.faults.DictKind.TheVariants.{OtherNumber, OtherValue}
use Rattle.avp_dict.specs.declared.faults.RefusedWord.{RefusedWord}
use Rattle.avp_dict.specs.Dictionary.{Dictionary, names_other_id, names_other_value, names_other_vendor}
use Rattle.avp_dict.specs.Meanings.{Attribute, Context, Meaning}
use Rattle.avp_dict.specs.Refusals.{at_word}

-- no ATTRIBUTE line gives the name of another one another id
abbrev pub AreAloneNames : List AttributeLine → Type 0
AreAloneNames lines = All (λ a. All (λ b. names_other_id a.name a.id b ≡ false) lines) lines

abbrev pub AreAloneVendors : List VendorLine → Type 0
AreAloneVendors lines =
    All (λ v. All (λ w. names_other_vendor v.name v.number w ≡ false) lines) lines

abbrev pub AreAloneValues : List ValueLine → Type 0
AreAloneValues lines =
    All (λ v. All (λ w. names_other_value v.id v.name v.number w ≡ false) lines) lines

-- the names of attributes and of vendors
pub record IsAgreeing (context : Context) : Type 0 where
  pub attributes : AreAloneNames context.attributes
  pub vendors : AreAloneVendors context.vendors

-- ---- ATTRIBUTE lines by those before them

-- what the lines before leave without the names of attributes
abbrev pub without_names : Context → Context
without_names context = record context { attributes = [] }

-- what a line was read as, unless it gives the name of one of these attributes another id
abbrev pub agreeing_meaning : List AttributeLine → Meaning → Result Meaning RefusedWord
agreeing_meaning attributes (Attribute a) =
    if list_any (names_other_id a.name a.id) attributes then Err (at_word 1 OtherNumber)
    else Ok (Attribute a)
agreeing_meaning attributes m = Ok m

-- ---- VALUE lines by those before them

-- a dictionary without the names of values
abbrev pub without_values : Dictionary → Dictionary
without_values dictionary = record dictionary { values = [] }

-- the name of a number, unless one of the lines gives it another
abbrev pub agreeing : List ValueLine → Option ValueLine → Result (Option ValueLine) RefusedWord
agreeing values None = Ok None
agreeing values (Some v) =
    if list_any (names_other_value v.id v.name v.number) values then Err (at_word 2 OtherValue)
    else Ok (Some v)

-- ---- the last line of a name

-- whether something was found, and by this test of equality something else
abbrev pub differs : {A : Type 0} → (A → A → Bool) → A → Option A → Bool
differs equals own None = false
differs equals own (Some other) = not (equals other own)
