-- The names that are printed for numbers are short.
use Rattle.std.proofs.Common.{◌≡◌, ◌≤◌, ℕ, Bool, true, false, cond, List, Option, None, Some, IfSome, All, length, refl}
use Rattle.avp_lists.specs.declared.pairs.AttrId.{AttrId}
use Rattle.avp_dict.specs.declared.entries.ValueLine.{ValueLine}
use Rattle.avp_dict.proofs.Fitting.{mapped_holds}
use Rattle.avp_dict.proofs.PrintedNames.{last_holds}
use Rattle.avp_dict.specs.Dictionary.{Dictionary, is_number_found, is_value_numbered, last_where, name_numbered, name_of_line, name_standing, number_named, tagged_name_numbered}
use Rattle.avp_dict.specs.Letters.{max_name}
use Rattle.avp_forms.specs.Expansions.{HasShortNames, IsShortName}

abbrev HasShort : ValueLine → Type 0
HasShort line = length line.name ≤ max_name

last_short : (test : ValueLine → Bool) (lines : List ValueLine) → All HasShort lines → IfSome (last_where test lines) HasShort
last_short test lines h = go (last_where test lines) refl
  where
    go : (found : Option ValueLine) → last_where test lines ≡ found → IfSome found HasShort
    go None e = tt
    go (Some x) e = (last_holds HasShort test lines x h e).0

module _ (lines : List ValueLine) (short : All HasShort lines) (id : AttrId) (number : ℕ) where
  name_short : IfSome (name_numbered id number lines) IsShortName
  unfolding name_numbered
  name_short = mapped_holds IsShortName name_of_line (last_where (is_value_numbered id number) lines) (last_short (is_value_numbered id number) lines short)

  unless_other : (name : List ℕ) (b : Bool) → IsShortName name → IfSome (cond b (Some name) None) IsShortName
  unless_other name true h = h
  unless_other name false h = tt

  standing_short : (found : Option (List ℕ)) → IfSome found IsShortName → IfSome (name_standing id number lines found) IsShortName
  standing_short None h = tt
  standing_short (Some name) h = unless_other name (is_number_found number (number_named id name lines)) h

  tagged_short : IfSome (tagged_name_numbered id number lines) IsShortName
  unfolding tagged_name_numbered
  tagged_short = standing_short (name_numbered id number lines) name_short

-- what is said of a dictionary's lines, of the names that are found in them
pub short_names : (d : Dictionary) → All (λ line. length line.name ≤ max_name) d.values → All (λ line. length line.name ≤ max_name) d.tagged_values → HasShortNames d
short_names d values tagged id number = (name_short d.values values id number, tagged_short d.tagged_values tagged id number)
