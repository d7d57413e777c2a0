-- Which words and texts name secret attributes.
use Rattle.std.specs.Prelude.{ℕ, Bool, true, false, not, ◌&&◌, ◌||◌, nat_eq, codes, if◌then◌else◌, List, [], ◌∷◌}
use Rattle.std.specs.Char.{is_ascii_digit}
use Rattle.std.specs.List.{list_all, list_any}
use Rattle.std.specs.Option.{option_map_or}
use Rattle.avp_dict.specs.Names.{named}
use Rattle.avp_dict.specs.declared.entries.Named.{Named}
use Rattle.avp_unlang.specs.Parts.{after_opening}
use Rattle.avp_unlang.specs.Tokens.{is_word_octet}
use Rattle.radpolicy_common.specs.Secrets.{Redaction, is_among}

abbrev pub is_secret_of : Redaction → Named → Bool
is_secret_of redaction found = is_among redaction.dictionary redaction.ids found.id

-- the name of a secret attribute
unfoldable pub names_secret_attribute : Redaction → List ℕ → Bool
names_secret_attribute redaction name =
    option_map_or (is_secret_of redaction) (named name redaction.dictionary) false

-- octets of attributes' names: those of words but `:` and `@`
abbrev pub is_name_octet : ℕ → Bool
is_name_octet c = is_word_octet c && not (list_any (nat_eq c) (codes ":@"))

-- the name that a text begins with
abbrev pub name_front : List ℕ → List ℕ
name_front [] = []
name_front (c ∷ cs) = if is_name_octet c then c ∷ name_front cs else []

-- a secret attribute's name begins somewhere in a text, which is read from within a name or not
abbrev pub mentions_from : Redaction → Bool → List ℕ → Bool
mentions_from redaction within [] = false
mentions_from redaction within (c ∷ cs) =
    (not within && names_secret_attribute redaction (name_front (c ∷ cs)))
    || mentions_from redaction (is_name_octet c) cs

-- A secret attribute's name is in a text, with no octet of a name before it or behind it. So it may have a list before
-- it and a tag behind it.
abbrev pub mentions_secret : Redaction → List ℕ → Bool
mentions_secret redaction text = mentions_from redaction false text

-- the octets of a word that a text begins with
abbrev pub word_front : List ℕ → List ℕ
word_front [] = []
word_front (c ∷ cs) = if is_word_octet c then c ∷ word_front cs else []

-- what is put in for a word between `%{` and `}`: a secret attribute's value, or what was captured, if that is secret
abbrev pub is_put_in_secret : Redaction → Bool → List ℕ → Bool
is_put_in_secret redaction captured word =
    mentions_secret redaction word || (captured && list_all is_ascii_digit word)

abbrev pub begins_secret : Redaction → Bool → List ℕ → Bool
begins_secret redaction captured text =
    option_map_or (λ inner. is_put_in_secret redaction captured (word_front inner))
    (after_opening text) false

-- a secret value is put into a text, at whatever place
abbrev pub puts_in_secret : Redaction → Bool → List ℕ → Bool
puts_in_secret redaction captured [] = false
puts_in_secret redaction captured (c ∷ cs) =
    begins_secret redaction captured (c ∷ cs) || puts_in_secret redaction captured cs
