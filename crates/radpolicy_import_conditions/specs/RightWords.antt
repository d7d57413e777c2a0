-- What a word without quotes is to a server where it stands on the right: of a comparison, of a line of an update, or
-- behind `case`. It is a reference wherever the dictionary has its name, before it is a text or the name of a value.
use Rattle.std.specs.Prelude.{ℕ, Bool, true, false, ◌&&◌, ◌||◌, ◌==◌, if◌then◌else◌, List, [], ◌∷◌, ◌++◌, codes, length, map, Option, Some}
use Rattle.std.specs.Char.{is_ascii_digit}
use Rattle.std.specs.List.{after_first, before_first, list_all, list_any}
use Rattle.std.specs.Option.{option_map_or}
use Rattle.std.specs.Str.{str_eq_ignore_ascii_case}
use Rattle.avp_dict.specs.Dictionary.{Dictionary}
use Rattle.avp_dict.specs.Names.{form_of, named}
use Rattle.avp_dict.specs.declared.entries.Named.{Named}
use Rattle.avp_dict.specs.declared.forms.Form.{Form}
use Rattle.avp_dict.specs.declared.forms.Form.TheVariants.{TaggedInteger, TaggedString}
use Rattle.radpolicy_import_conditions.specs.declared.right_words.TheConstants.{LISTS, NUMBERED, REQUESTS}

-- what is before the first such octet, and behind it
abbrev pub before : ℕ → List ℕ → List ℕ
before mark word = before_first (λ c. c == mark) word

abbrev pub behind : ℕ → List ℕ → List ℕ
behind mark word = after_first (λ c. c == mark) word

-- ---- `outer.request:Name:1[0]`

unfoldable pub requests : List (List ℕ)
requests = map (λ word. word.now) REQUESTS

unfoldable pub lists : List (List ℕ)
lists = map (λ word. word.now) LISTS

unfoldable pub numbered : List (List ℕ)
numbered = map (λ word. word.now) NUMBERED

-- in either case
abbrev pub is_among : List (List ℕ) → List ℕ → Bool
is_among words word = list_any (λ own. str_eq_ignore_ascii_case word own) words

-- a full stop is behind a request, a colon behind a list
abbrev pub without_request : List ℕ → List ℕ
without_request word = if is_among requests (before 46 word) then behind 46 word else word

abbrev pub without_list : List ℕ → List ℕ
without_list word = if is_among lists (before 58 word) then behind 58 word else word

-- up to a tag, behind a colon, and the place of an instance, behind a bracket
abbrev pub name_in : List ℕ → List ℕ
name_in word = before 91 (before 58 word)

abbrev pub tag_in : List ℕ → List ℕ
tag_in word = before 91 (behind 58 word)

-- ---- references

abbrev pub begins_with_digit : List ℕ → Bool
begins_with_digit [] = false
begins_with_digit (c ∷ cs) = is_ascii_digit c

-- by number, as `Attr-1` and `Vendor-9-Attr-1`
abbrev pub is_numbered : List ℕ → Bool
is_numbered name = is_among numbered (before 45 name) && begins_with_digit (behind 45 name)

abbrev pub is_tagged : Option Form → Bool
is_tagged (Some TaggedInteger) = true
is_tagged (Some TaggedString) = true
is_tagged _ = false

-- digits, where the attribute's values have tags
abbrev pub takes_tag : Dictionary → List ℕ → Named → Bool
takes_tag d tag named =
    (length tag == 0) || (list_all is_ascii_digit tag && is_tagged (form_of named.id d))

-- the name of an attribute, with a tag or without one
abbrev pub is_attribute : Dictionary → List ℕ → Bool
is_attribute d word =
    is_numbered (name_in word)
    || option_map_or (takes_tag d (tag_in word)) (named (name_in word) d) false

-- a list by itself
abbrev pub is_list : List ℕ → Bool
is_list word = is_among lists (before 58 word) && (length (behind 58 word) == 0)

abbrev pub refers : Dictionary → List ℕ → Bool
refers d word = is_list word || is_attribute d (without_list word)

unfoldable pub is_reference : Dictionary → List ℕ → Bool
is_reference d word = refers d (without_request word)

-- the word as it would be without ambiguity: a reference begins with `&`
abbrev pub meant_word : Dictionary → List ℕ → List ℕ
meant_word d word = if is_reference d word then codes "&" ++ word else word
