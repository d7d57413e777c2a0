-- What is shown of a condition whose values are hidden.
use Rattle.std.specs.Prelude.{ℕ, ◌-◌, Bool, true, false, ◌≡◌, ◌&&◌, ◌||◌, ◌==◌, nat_eq, if◌then◌else◌, List, [], ◌∷◌, ◌++◌, codes, length, map}
use Rattle.std.specs.Char.{is_ascii_digit}
use Rattle.std.specs.List.{after_first, before_first, list_all, list_any, slice_get}
use Rattle.std.specs.Option.{is_some, option_map_or}
use Rattle.std.specs.Str.{str_eq_ignore_ascii_case}
use Rattle.avp_dict.specs.Names.{named}
use Rattle.radpolicy_common.specs.SecretAttributes.{is_colon, without_blanks_behind}
use Rattle.radpolicy_import_texts.specs.SecretNames.{Secrets}
use Rattle.radpolicy_import_texts.specs.Words.{is_reference_octet}
use Rattle.radpolicy_import_texts.specs.declared.names.TheConstants.{LISTS}

-- brackets and operators
unfoldable pub is_sign : ℕ → Bool
is_sign c = list_any (nat_eq c) (codes "()!=<>~&|,{}[]*+^")

abbrev pub is_blank : ℕ → Bool
is_blank c = c == 32 || c == 9

-- ---- words that name an attribute

abbrev pub is_attribute : Secrets → List ℕ → Bool
is_attribute s name = is_some (named name s.redaction.dictionary)

unfoldable pub lists : List (List ℕ)
lists = map (λ list. list.now) LISTS

-- in either case
abbrev pub is_list : List ℕ → Bool
is_list word = list_any (λ list. str_eq_ignore_ascii_case word list) lists

abbrev pub is_tag : List ℕ → Bool
is_tag word = (length word == 1 || length word == 2) && list_all is_ascii_digit word

abbrev pub without_list : List ℕ → List ℕ
without_list word =
    if is_list (before_first is_colon word) then after_first is_colon word else word

abbrev pub without_tag : List ℕ → List ℕ
without_tag word =
    if is_tag (after_first is_colon word) then before_first is_colon word else word

-- a name that the dictionary has, with a list before it or a tag behind it
abbrev pub names_attribute : Secrets → List ℕ → Bool
names_attribute s word = is_attribute s (without_tag (without_list word))

-- `&` and what may be a name
abbrev pub is_reference : List ℕ → Bool
is_reference [] = false
is_reference (c ∷ cs) = c == 38 && list_all is_reference_octet cs

-- ---- where a value stands

-- what a sign ends in that compares or sets
unfoldable pub is_relation : ℕ → Bool
is_relation c = list_any (nat_eq c) (codes "=<>~*")

abbrev pub ends_in_relation : List ℕ → Bool
ends_in_relation text = option_map_or is_relation (slice_get text (length text - 1)) false

-- what comes next is compared with, or set
abbrev pub awaits_value : List ℕ → Bool
awaits_value text = ends_in_relation (without_blanks_behind text)

-- ---- what is shown

-- A text of signs, blanks and names of attributes, and of what stands in the place of all else. A name where a value
-- stands has a `&` before it.
pub data HasNoValues (s : Secrets) : List ℕ → Type 0 where
  nothing : HasNoValues s []
  sign : (c : ℕ) (text : List ℕ) → is_sign c ≡ true → HasNoValues s text → HasNoValues s (text ++ c ∷ [])
  blank : (c : ℕ) (text : List ℕ) → is_blank c ≡ true → HasNoValues s text → HasNoValues s (text ++ c ∷ [])
  name : (word text : List ℕ) → names_attribute s word ≡ true → awaits_value text ≡ false
      → HasNoValues s text → HasNoValues s (text ++ word)
  reference : (word text : List ℕ) → is_reference word ≡ true → HasNoValues s text → HasNoValues s (text ++ word)
  hidden : (text : List ℕ) → HasNoValues s text → HasNoValues s (text ++ codes "(hidden)")
