-- Values in a policy's text that a server takes otherwise, by the attribute that they are of and by the operator: a
-- name, an operator and a value, one token after another; and patterns.
use Rattle.std.specs.Prelude.{ℕ, zero, suc, ◌-◌, Bool, true, false, not, ◌&&◌, ◌||◌, ◌==◌, nat_le, bytes_eq, codes, if◌then◌else◌, List, [], ◌∷◌, ◌++◌, drop, length, take, Option, Some, None}
use Rattle.std.specs.List.{list_all}
use Rattle.std.specs.Option.{option_and_then}
use Rattle.avp_dict.specs.Ascii.{digit_zero}
use Rattle.avp_dict.specs.Dictionary.{Dictionary}
use Rattle.avp_dict.specs.Names.{form_of}
use Rattle.avp_dict.specs.Octets.{kind_of}
use Rattle.avp_dict.specs.Words.{is_hexadecimal}
use Rattle.avp_dict.specs.declared.entries.Kind.{Kind}
use Rattle.avp_dict.specs.declared.entries.Kind.TheVariants as kinds
use Rattle.avp_dict.specs.declared.forms.Form.{Form}
use Rattle.avp_dict.specs.declared.forms.Form.TheVariants as forms
use Rattle.avp_dict.specs.declared.value.quotes.QuoteMark.TheVariants.{Double}
use Rattle.avp_forms.specs.Targets.{target_of}
use Rattle.avp_forms.specs.declared.profiles.Profile.{Profile}
use Rattle.avp_forms.specs.declared.profiles.Profile.TheVariants.{Plain, Wider}
use Rattle.avp_forms.specs.declared.targets.Target.{Target}
use Rattle.avp_unlang.specs.Places.{Place, start_of}
use Rattle.avp_unlang.specs.References.{after_front}
use Rattle.avp_unlang.specs.Tokens.{next_token}
use Rattle.avp_unlang.specs.declared.text.tokens.Sign.{Sign}
use Rattle.avp_unlang.specs.declared.text.tokens.Sign.TheVariants as sign
use Rattle.avp_unlang.specs.declared.text.tokens.Token.{Token}
use Rattle.avp_unlang.specs.declared.text.tokens.Token.TheVariants.{End, Matching, Operator, Quoted, Word}
use Rattle.policy_warnings.specs.BareNames.{after_one_of, list_fronts, takes_value}
use Rattle.policy_warnings.specs.Warnings.{warning, warning_if}
use Rattle.policy_warnings.specs.WrittenPatterns.{repeats_octet, starts_line}
use Rattle.policy_warnings.specs.declared.warnings.Reason.{Reason}
use Rattle.policy_warnings.specs.declared.warnings.Reason.TheVariants.{EmptyTagged, HexadecimalNumber, LineStart, RepeatedOctet, ShortPrefix}
use Rattle.policy_warnings.specs.declared.warnings.Warning.{Warning}

-- ---- names

-- the name before the closing brace
abbrev pub before_brace : List ℕ → Option (List ℕ)
before_brace text =
    if bytes_eq (drop (length text - 1) text) (codes "}") then Some (take (length text - 1) text)
    else None

-- the name in a text that is one expansion alone, as `%{reply:Tunnel-Type}`
abbrev pub expanded_name : List ℕ → Option (List ℕ)
expanded_name text = option_and_then before_brace (after_front (codes "%{") text)

-- what a word names, with a list before it or without
unfoldable pub target_named : Profile → Dictionary → List ℕ → Option Target
target_named profile dictionary word =
    target_of profile dictionary (after_one_of list_fronts word)

-- what is before an operator: a name, or a text that puts in its value and no more
abbrev pub target_at : Profile → Dictionary → Token → Option Target
target_at profile dictionary (Word word) = target_named profile dictionary word
target_at profile dictionary (Quoted Double text) =
    option_and_then (target_named profile dictionary) (expanded_name text)
target_at profile dictionary _ = None

-- ---- values

-- the operators that give an attribute the value
abbrev pub sets_value : Sign → Bool
sets_value sign.AddNew = true
sets_value sign.Replace = true
sets_value sign.Append = true
sets_value sign.Prepend = true
sets_value _ = false

abbrev pub removes_value : Sign → Bool
removes_value sign.RemoveEqual = true
removes_value _ = false

abbrev pub is_wider : Profile → Bool
is_wider Wider = true
is_wider Plain = false

abbrev pub is_tagged_integer : Option Form → Bool
is_tagged_integer (Some forms.TaggedInteger) = true
is_tagged_integer _ = false

abbrev pub is_ipv6_prefix : Option Form → Bool
is_ipv6_prefix (Some forms.Ipv6Prefix) = true
is_ipv6_prefix _ = false

abbrev pub is_integer64 : Option Kind → Bool
is_integer64 (Some kinds.Integer64) = true
is_integer64 _ = false

-- `0x00` and six digits: the octets of a number beside the tag 0
unfoldable pub has_tag_zero : List ℕ → Bool
has_tag_zero text = (length text == 10) && bytes_eq (take 4 text) (codes "0x00")

-- Of a number with a tag a server takes the number of the digits, and here they are octets. Both send the same where
-- these are beside the tag 0, and the wider profile compares what they mean.
abbrev pub parts_from_octets : Profile → Sign → List ℕ → Bool
parts_from_octets profile s text =
    not (has_tag_zero text && (sets_value s || is_wider profile))

abbrev pub is_zero : ℕ → Bool
is_zero c = c == digit_zero

-- of a number of 64 bits a server takes the digits before the `x`, which are 0
abbrev pub parts_from_zero : List ℕ → Bool
parts_from_zero text = not (list_all is_zero (drop 2 text))

-- what a line gives an attribute by its number, or takes from it, is octets on a server too
abbrev pub is_read_as_octets : Target → Sign → Bool
is_read_as_octets target s = target.named.raw && (sets_value s || removes_value s)

-- the number of an attribute of 64 bits
abbrev pub is_number_of_64 : Dictionary → Target → Sign → Bool
is_number_of_64 dictionary target s =
    is_integer64 (kind_of target.named.id dictionary) && not (is_read_as_octets target s)

-- a number in hexadecimal, with quotes or without
unfoldable pub is_hexadecimal_number : Profile → Dictionary → Target → Sign → List ℕ → Bool
is_hexadecimal_number profile dictionary target s text =
    is_hexadecimal text
    && ((is_tagged_integer (form_of target.named.id dictionary) && parts_from_octets profile s text)
    || (is_number_of_64 dictionary target s && parts_from_zero text))

-- the tag 0 has no octet before a text
abbrev pub has_tag_octet : Option ℕ → Bool
has_tag_octet None = false
has_tag_octet (Some tag) = nat_le 1 tag

abbrev pub is_empty_tagged : Target → Sign → List ℕ → Bool
is_empty_tagged target s text =
    bytes_eq text [] && has_tag_octet target.tag && sets_value s

unfoldable pub text_reason : Profile → Dictionary → Target → Sign → List ℕ → Option Reason
text_reason profile dictionary target s text =
    if is_empty_tagged target s text then Some EmptyTagged
    else if is_hexadecimal_number profile dictionary target s text then Some HexadecimalNumber
    else None

-- `-=` of a prefix, whatever the value is
abbrev pub is_short_prefix : Dictionary → Target → Sign → Bool
is_short_prefix dictionary target s =
    removes_value s && is_ipv6_prefix (form_of target.named.id dictionary)

abbrev pub written_text : Token → Option (List ℕ)
written_text (Word text) = Some text
written_text (Quoted mark text) = Some text
written_text _ = None

unfoldable pub value_reason : Profile → Dictionary → Sign → Token → Target → Option Reason
value_reason profile dictionary s value target =
    if is_short_prefix dictionary target s then Some ShortPrefix
    else option_and_then (text_reason profile dictionary target s) (written_text value)

-- of a name, an operator and a value
abbrev pub written_reason : Profile → Dictionary → Token → Token → Token → Option Reason
written_reason profile dictionary name (Operator s) value =
    if takes_value s
    then option_and_then (value_reason profile dictionary s value)
    (target_at profile dictionary name) else None
written_reason profile dictionary name _ value = None

-- ---- where they are

abbrev pub reason_warnings : ℕ → Option Reason → List Warning
reason_warnings line None = []
reason_warnings line (Some reason) = warning line reason ∷ []

abbrev pub pattern_warnings : ℕ → Token → List Warning
pattern_warnings line (Matching m) =
    warning_if (repeats_octet m.pattern) line RepeatedOctet
    ++ warning_if (starts_line m) line LineStart
pattern_warnings line _ = []

-- of a token on a line, after two others
abbrev pub token_warnings : ℕ → Option Reason → Token → List Warning
token_warnings line reason token = reason_warnings line reason ++ pattern_warnings line token

-- among so many tokens from a place on, after the two before it: each with the line that it is on
abbrev pub written_values_from : ℕ → Dictionary → Token → Token → Place → List Warning
written_values_from zero dictionary name before p = []
written_values_from (suc n) dictionary name before p =
    let found = next_token p in
    token_warnings found.1.line (written_reason p.profile dictionary name before found.0) found.0
    ++ written_values_from n dictionary before found.0 found.1

-- of a policy's text, which has no more tokens than octets
abbrev pub written_values : Dictionary → List ℕ → List Warning
written_values dictionary text =
    written_values_from (length text) dictionary End End (start_of text)
