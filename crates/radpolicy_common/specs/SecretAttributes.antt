-- Which values are secret.
use Rattle.std.specs.Prelude.{ℕ, ◌-◌, Bool, true, false, not, ◌&&◌, ◌||◌, ◌==◌, List, [], ◌∷◌, drop, take, length, map, Option, None, is_none}
use Rattle.std.specs.Char.{is_ascii_alphabetic, is_ascii_whitespace}
use Rattle.std.specs.List.{last_or, list_any, slice_get, slice_split, suffix_len}
use Rattle.std.specs.Option.{option_map_or}
use Rattle.std.specs.Str.{str_eq_ignore_ascii_case}
use Rattle.avp_lists.specs.declared.pairs.AttrId.{AttrId}
use Rattle.avp_lists.specs.declared.pairs.AttrId.TheVariants as ids
use Rattle.avp_lists.specs.declared.pairs.Value.{Value}
use Rattle.avp_lists.specs.declared.pairs.Value.TheVariants as values
use Rattle.avp_lists.specs.Pairs.{id_eq}
use Rattle.avp_dict.specs.AttributeNumbers.{vendor_specific}
use Rattle.avp_dict.specs.Dictionary.{Dictionary, first_names, typing_of_id}
use Rattle.avp_dict.specs.Names.{described, is_marked_secret, named}
use Rattle.avp_dict.specs.Sent.{is_container}
use Rattle.avp_dict.specs.Types.{is_as_typed}
use Rattle.avp_dict.specs.declared.entries.Kind.{Kind}
use Rattle.avp_dict.specs.declared.entries.Kind.TheVariants as kinds
use Rattle.avp_dict.specs.declared.entries.Typing.{Typing}
use Rattle.radpolicy_common.specs.declared.secret_attributes.TheConstants.{PLAIN_ENDINGS, SECRET_ENDINGS, SECRET_IDS, SECRET_WORDS}

-- ---- the words of a name

abbrev pub is_no_letter : ℕ → Bool
is_no_letter c = not (is_ascii_alphabetic c)

-- the runs of letters
abbrev pub words_of : List ℕ → List (List ℕ)
words_of name = slice_split is_no_letter name

-- the name ends so, in either case
abbrev pub ends_in : List ℕ → List ℕ → Bool
ends_in name ending =
    str_eq_ignore_ascii_case ending (drop (length name - length ending) name)

abbrev pub ends_in_one_of : List (List ℕ) → List ℕ → Bool
ends_in_one_of endings name = list_any (λ ending. ends_in name ending) endings

-- a word begins after these octets
abbrev pub ends_no_word : List ℕ → Bool
ends_no_word before = option_map_or is_no_letter (slice_get before (length before - 1)) true

-- its last words are these
abbrev pub ends_in_words : List ℕ → List ℕ → Bool
ends_in_words name ending =
    ends_in name ending && ends_no_word (take (length name - length ending) name)

abbrev pub ends_in_words_of : List (List ℕ) → List ℕ → Bool
ends_in_words_of endings name = list_any (λ ending. ends_in_words name ending) endings

-- ---- by name

unfoldable pub secret_words : List (List ℕ)
secret_words = map (λ word. word.now) SECRET_WORDS

unfoldable pub secret_endings : List (List ℕ)
secret_endings = map (λ ending. ending.now) SECRET_ENDINGS

unfoldable pub plain_endings : List (List ℕ)
plain_endings = map (λ ending. ending.now) PLAIN_ENDINGS

abbrev pub is_secret_word : List ℕ → Bool
is_secret_word word = ends_in_one_of secret_words word

abbrev pub has_secret_word : List ℕ → Bool
has_secret_word name = list_any is_secret_word (words_of name)

-- a name that ends in a secret ending or has a secret word, and ends in no plain ending
unfoldable pub is_secret_name : List ℕ → Bool
is_secret_name name =
    (ends_in_words_of secret_endings name || has_secret_word name)
    && not (ends_in_words_of plain_endings name)

-- ---- by number

unfoldable pub is_secret_id : AttrId → Bool
is_secret_id id = list_any (id_eq id) SECRET_IDS

-- an attribute that was not split into those that it holds: 26, 241 to 246, and a vendor's of an extended type
abbrev pub is_unsplit : AttrId → Bool
is_unsplit (ids.Extended t n) = n == vendor_specific
is_unsplit id = is_container id

-- ---- by the dictionary

-- the dictionary does not describe the attribute
abbrev pub is_undescribed : AttrId → Dictionary → Bool
is_undescribed id dictionary = is_none (described id dictionary)

abbrev pub is_octets : Kind → Bool
is_octets kinds.Bytes = true
is_octets _ = false

-- octets of a type word that stands for none of the types, as `tlv`
abbrev pub is_untold_typing : Typing → Bool
is_untold_typing typing =
    is_octets typing.kind && (is_as_typed typing.form && not typing.takes_text)

abbrev pub is_untold : AttrId → Dictionary → Bool
is_untold id dictionary =
    option_map_or is_untold_typing (typing_of_id id dictionary.attributes) false

abbrev pub stands_for : AttrId → Dictionary → List ℕ → Bool
stands_for id dictionary name =
    option_map_or (λ found. id_eq id found.id) (named name dictionary) false

-- a name for the attribute that is secret, or for octets of which nobody tells what they are
abbrev pub makes_secret : AttrId → Dictionary → List ℕ → Bool
makes_secret id dictionary name =
    stands_for id dictionary name && (is_secret_name name || is_untold id dictionary)

-- one of the dictionary's names does
abbrev pub is_named_secret : AttrId → Dictionary → Bool
is_named_secret id dictionary =
    list_any (makes_secret id dictionary) (first_names dictionary.attributes)

-- ---- by text

abbrev pub is_colon : ℕ → Bool
is_colon c = c == 58

abbrev pub is_equals_sign : ℕ → Bool
is_equals_sign c = c == 61

abbrev pub without_blanks_behind : List ℕ → List ℕ
without_blanks_behind text = take (length text - suffix_len is_ascii_whitespace text) text

-- what is behind the last `:`
abbrev pub behind_colons : List ℕ → Option (List ℕ)
behind_colons text = last_or None (slice_split is_colon text)

-- what stands before a `=` ends in a secret name, which begins behind the last `:` of it
abbrev pub is_secret_key : List ℕ → Bool
is_secret_key part =
    option_map_or (λ key. is_secret_name (without_blanks_behind key)) (behind_colons part) false

abbrev pub before_last : {A : Type 0} → List A → List A
before_last [] = []
before_last (x ∷ []) = []
before_last (x ∷ y ∷ ys) = x ∷ before_last (y ∷ ys)

-- a text `key=value`, or one with several, with a secret name for a key
unfoldable pub is_secret_text : List ℕ → Bool
is_secret_text text = list_any is_secret_key (before_last (slice_split is_equals_sign text))

abbrev pub holds_secret_text : Value → Bool
holds_secret_text (values.Text text) = is_secret_text text
holds_secret_text (values.Bytes octets) = is_secret_text octets
holds_secret_text (values.Raw octets) = is_secret_text octets
holds_secret_text _ = false

-- ---- together

-- the attribute's values are not to be shown: by its number, because no part of it or no line of the dictionary tells what
-- they are, by a mark of the dictionary, or by one of its names
abbrev pub is_secret_attribute : AttrId → Dictionary → Bool
is_secret_attribute id dictionary =
    is_secret_id id || is_unsplit id || is_undescribed id dictionary
    || is_marked_secret id dictionary || is_named_secret id dictionary

-- the value is not to be shown: by its attribute, or by its text
unfoldable pub is_secret : AttrId → Value → Dictionary → Bool
is_secret id value dictionary = is_secret_attribute id dictionary || holds_secret_text value
