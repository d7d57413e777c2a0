-- Type words and flags, how the values of an attribute with them are read, and what they stand for.
use Rattle.std.specs.Prelude.{codes, ℕ, Bool, true, false, not, ◌&&◌, ◌||◌, ◌==◌, if◌then◌else◌, List, [], ◌∷◌, Option, Some}
use Rattle.std.specs.Option.{unwrap_or}
use Rattle.std.specs.List.{list_any, list_all}
use Rattle.std.specs.Map.{lookup}
use Rattle.avp_lists.specs.declared.pairs.AttrId.{AttrId}
use Rattle.avp_lists.specs.declared.pairs.AttrId.TheVariants as ids
use Rattle.avp_dict.specs.declared.entries.Kind.{Kind}
use Rattle.avp_dict.specs.declared.entries.Kind.TheVariants as kinds
use Rattle.avp_dict.specs.declared.entries.Typing.{Typing}
use Rattle.avp_dict.specs.declared.forms.Form.{Form}
use Rattle.avp_dict.specs.declared.forms.Form.TheVariants as forms
use Rattle.avp_dict.specs.AttributeNumbers.{is_extended_type, message_authenticator, proxy_state, vendor_specific}
use Rattle.avp_dict.specs.Words.{same_name}
use Rattle.avp_dict.specs.Letters.{word_before_bracket}

abbrev pub is_flag : List ℕ → Bool
is_flag w =
    same_name w (codes "has_tag") || same_name w (codes "encrypt=1")
    || same_name w (codes "encrypt=2") || same_name w (codes "encrypt=3")
    || same_name w (codes "concat") || same_name w (codes "array") || same_name w (codes "secret")
    || same_name w (codes "virtual")

abbrev pub are_flags : List (List ℕ) → Bool
are_flags flags = list_all is_flag flags

-- a flag that makes the type octets
abbrev pub is_opaque : List ℕ → Bool
is_opaque w =
    same_name w (codes "has_tag") || same_name w (codes "encrypt=2")
    || same_name w (codes "encrypt=3")

abbrev pub is_hiding : List ℕ → Bool
is_hiding w = same_name w (codes "encrypt=1")

-- the type words, with their types
abbrev pub kind_words : List (List ℕ × Kind)
kind_words =
    (codes "string", kinds.Text) ∷ (codes "octets", kinds.Bytes) ∷ (codes "ipaddr", kinds.Addr)
    ∷ (codes "integer", kinds.Integer) ∷ (codes "date", kinds.Date) ∷ (codes "byte", kinds.Byte)
    ∷ (codes "short", kinds.Short) ∷ (codes "signed", kinds.Signed)
    ∷ (codes "integer64", kinds.Integer64) ∷ (codes "ether", kinds.Ether) ∷ []

-- the type of a word, if it is one of the ten
abbrev pub kind_word : List ℕ → Option Kind
kind_word w = lookup (same_name w) kind_words

abbrev pub is_text_kind : Option Kind → Bool
is_text_kind (Some kinds.Text) = true
is_text_kind (Some kinds.Bytes) = true
is_text_kind _ = false

-- Plain 26, 33, 80 and 241 to 246, whose values are octets whatever the line's type and flags say
abbrev pub is_fixed : AttrId → Bool
is_fixed (ids.Plain n) =
    (n == vendor_specific) || (n == proxy_state) || (n == message_authenticator)
    || is_extended_type n
is_fixed _ = false

-- ---- what the values stand for

-- the line has this flag
abbrev pub has_flag : List ℕ → List (List ℕ) → Bool
has_flag own flags = list_any (λ flag. same_name flag own) flags

abbrev pub is_encrypted : List (List ℕ) → Bool
is_encrypted flags = has_flag (codes "encrypt=1") flags || has_flag (codes "encrypt=2") flags
    || has_flag (codes "encrypt=3") flags

-- the line marks the values as secret
abbrev pub is_marked : List (List ℕ) → Bool
is_marked flags = is_encrypted flags || has_flag (codes "secret") flags

-- the type words whose values stand for more than the type in which they are held: a number for a date, else octets
abbrev pub form_words : List (List ℕ × Form)
form_words =
    (codes "date", forms.Date) ∷ (codes "ipv6addr", forms.Ipv6Address)
    ∷ (codes "ipv6prefix", forms.Ipv6Prefix) ∷ (codes "ipv4prefix", forms.Ipv4Prefix)
    ∷ (codes "ifid", forms.InterfaceId) ∷ []

-- those whose values can have a tag before them (RFC 2868, section 3), and stand for this then
abbrev pub tagged_words : List (List ℕ × Form)
tagged_words = (codes "integer", forms.TaggedInteger) ∷ (codes "string", forms.TaggedString) ∷ []

abbrev pub own_form : List ℕ → Option Form
own_form w = lookup (same_name w) form_words

abbrev pub tagged_form : List ℕ → Option Form
tagged_form w = lookup (same_name w) tagged_words

-- what the values of a line with this type word stand for: encrypted ones for no more than their octets
abbrev pub form_by : List ℕ → List (List ℕ) → Form
form_by w flags = if is_encrypted flags then forms.AsTyped
    else if has_flag (codes "has_tag") flags then unwrap_or (tagged_form w) forms.AsTyped
    else unwrap_or (own_form w) forms.AsTyped

-- the type in which values that stand for this are held
abbrev pub is_kind_of_form : Form → Kind → Bool
is_kind_of_form forms.Date kinds.Date = true
is_kind_of_form forms.Date _ = false
is_kind_of_form form kinds.Bytes = true
is_kind_of_form form _ = false

abbrev pub is_as_typed : Form → Bool
is_as_typed forms.AsTyped = true
is_as_typed _ = false

-- values that stand for more than their type are held in the type for it, and not hidden
abbrev pub is_formed : Typing → Bool
is_formed typing =
    is_as_typed typing.form || (not typing.hidden && is_kind_of_form typing.form typing.kind)

-- ---- together

abbrev pub typing_by : Option Kind → Bool → Bool → Form → Bool → Typing
typing_by own opaque hiding form secret = record {
  kind =
      if opaque || (hiding && not (is_text_kind own)) then kinds.Bytes
      else unwrap_or own kinds.Bytes;
  hidden = hiding && is_text_kind own;
  takes_text = is_text_kind own;
  form = form;
  secret = secret;
}

-- of these ids, whose lines say no more than whether the values are secret
abbrev pub fixed_typing : Bool → Typing
fixed_typing secret = record {
  kind = kinds.Bytes;
  hidden = false;
  takes_text = true;
  form = forms.AsTyped;
  secret = secret;
}

abbrev pub typing_of : AttrId → List ℕ → List (List ℕ) → Typing
typing_of id word flags =
    if is_fixed id then fixed_typing (is_marked flags)
    else typing_by (kind_word (word_before_bracket word)) (list_any is_opaque flags)
    (list_any is_hiding flags) (form_by (word_before_bracket word) flags) (is_marked flags)
