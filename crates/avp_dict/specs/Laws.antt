-- What holds of every dictionary's texts: what is printed is read back, what a text spells is clean and fits, and no
-- request is refused at two places.
use Rattle.std.specs.Prelude.{◌≡◌, ◌≢◌, ℕ, ◌≤◌, Bool, true, not, ◌&&◌, ◌||◌, IsTrue, List, Some, Ok, length}
use Rattle.std.specs.Option.{option_and_then}
use Rattle.avp_lists.specs.declared.pairs.Pair.{Pair}
use Rattle.avp_lists.specs.declared.pairs.Value.{Value}
use Rattle.avp_lists.specs.declared.pairs.Value.TheVariants.{Text}
use Rattle.avp_dict.specs.declared.entries.Named.{Named}
use Rattle.avp_dict.specs.Dictionary.{Dictionary}
use Rattle.avp_dict.specs.Limits.{fits, is_known}
use Rattle.avp_dict.specs.Names.{named}
use Rattle.avp_dict.specs.Octets.{is_hidden}
use Rattle.avp_dict.specs.Printing.{printed_name, printed_text}
use Rattle.avp_dict.specs.Quotes.{between_quotes, double_quoted_octets}
use Rattle.avp_dict.specs.RefusedPlaces.{IsRefusedAt, is_before_filled}
use Rattle.avp_dict.specs.Requests.{pair_named, pair_with, refusal_named}
use Rattle.avp_dict.specs.Sent.{is_canonical, is_clean_pair, is_container, is_internal, is_raw}
use Rattle.avp_dict.specs.Spellings.{value_spelled}
use Rattle.avp_dict.specs.declared.request.faults.LineKind.{LineKind}
use Rattle.avp_dict.specs.declared.request.faults.LineKind.TheVariants.{Memory}

-- a canonical pair that may be written: no attribute that only holds others, and no raw octets of an internal or hidden
-- attribute
unfoldable pub is_writable : Pair → Dictionary → Bool
is_writable pair dictionary =
    is_canonical pair dictionary && not (is_container pair.id)
    && not (is_raw pair.value && (is_internal pair.id || is_hidden pair.id dictionary))

-- what a printed text stands for: a string's what its quotes hold
abbrev pub unquoted : Value → List ℕ → List ℕ
unquoted (Text os) text = double_quoted_octets (between_quotes text)
unquoted value text = text

-- the printed name names the pair's attribute, and the printed text spells the value under it
pub record ReadsBack (pair : Pair) (dictionary : Dictionary) : Type 0 where
  pub name : Named
  pub named : named (printed_name pair.id pair.value dictionary) dictionary ≡ Some name
  pub same : name.id ≡ pair.id
  pub spelled :
      value_spelled name
      (unquoted pair.value (printed_text pair.id pair.value dictionary)) dictionary
      ≡ Ok pair.value

-- the pair of a known id and a value that a text stands for is clean: its own octets stand for it, and it holds no
-- other attributes
abbrev pub SpelledValuesClean : Dictionary → Type 0
SpelledValuesClean dictionary =
    (name : Named) (text : List ℕ) (value : Value) → is_known name.id dictionary ≡ true
    → value_spelled name text dictionary ≡ Ok value
    → is_clean_pair dictionary (pair_with name value) ≡ true

-- the pair of a name and a text that stands for a value under it fits
abbrev pub SpelledPairsFit : Dictionary → Type 0
SpelledPairsFit dictionary =
    (name text : List ℕ) (pair : Pair)
    → option_and_then (pair_named dictionary text) (named name dictionary) ≡ Some pair
    → IsTrue (fits pair dictionary)

-- a request's text is refused for this after so many octets, where it ends or no blank follows
pub record IsFirstRefused (dictionary : Dictionary) (text : List ℕ) (kind : LineKind) (place : ℕ)
    : Type 0 where
  pub within : place ≤ length text
  pub filled : is_before_filled place text ≡ true
  pub refused :
      IsRefusedAt (λ name. named name dictionary)
      (λ target value. pair_named dictionary value target)
      (λ target value. refusal_named dictionary value target) text kind place

-- want of memory aside, there is one such place at most, and one thing that the text is refused for there
abbrev pub IsRefusedOnce : Dictionary → List ℕ → Type 0
IsRefusedOnce dictionary text =
    (kind other : LineKind) (place also : ℕ) → kind ≢ Memory → other ≢ Memory
    → IsFirstRefused dictionary text kind place → IsFirstRefused dictionary text other also
    → (place ≡ also) × (kind ≡ other)
