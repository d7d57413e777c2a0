-- Where references and written values are refused, and for what.
use Rattle.std.specs.Prelude.{◌≡◌, ◌≢◌, ℕ, false, List, Option, Some, None, Result, Ok, Err, if◌then◌else◌}
use Rattle.avp_lists.specs.declared.lists.List.TheVariants as lists
use Rattle.avp_lists.specs.declared.pairs.AttrId.{AttrId}
use Rattle.avp_lists.specs.declared.pairs.Value.{Value}
use Rattle.avp_dict.specs.Dictionary.{Dictionary}
use Rattle.avp_dict.specs.Limits.{fits}
use Rattle.avp_dict.specs.Quotes.{double_quoted_octets, single_quoted_octets}
use Rattle.avp_dict.specs.Requests.{pair_with}
use Rattle.avp_dict.specs.Sent.{is_container}
use Rattle.avp_dict.specs.Spellings.{is_barred}
use Rattle.avp_dict.specs.declared.value.faults.ValueFault.{ValueFault}
use Rattle.avp_dict.specs.declared.value.faults.ValueFault.TheVariants as faults
use Rattle.avp_dict.specs.declared.value.quotes.QuoteMark.TheVariants as quote
use Rattle.avp_forms.specs.Written.{value_written}
use Rattle.avp_forms.specs.declared.profiles.Profile.{Profile}
use Rattle.avp_forms.specs.declared.targets.Target.{Target}
use Rattle.avp_unlang.specs.Conditions.{has_expansion}
use Rattle.avp_unlang.specs.Places.{Place}
use Rattle.avp_unlang.specs.References.{ReadableIs, reference_in, type_of}
use Rattle.avp_unlang.specs.RefusedForms.{Failing, Refused, RefusedIf, ThenFails, left_at, unfit}
use Rattle.avp_unlang.specs.Tokens.{next_token}
use Rattle.avp_unlang.specs.declared.faults.PolicyKind.{PolicyKind}
use Rattle.avp_unlang.specs.declared.faults.PolicyKind.TheVariants as kinds
use Rattle.avp_unlang.specs.declared.text.references.Reference.{Reference}
use Rattle.avp_unlang.specs.declared.text.tokens.Sign.TheVariants as sign
use Rattle.avp_unlang.specs.declared.text.tokens.Token.{Token}
use Rattle.avp_unlang.specs.declared.text.tokens.Token.TheVariants.{Operator, Quoted, Word}

-- ---- references

-- what a token is refused for where a word is wanted, given what words are refused for
abbrev pub word_refusal : (List ℕ → Option PolicyKind) → Token → Option PolicyKind
word_refusal refusal (Word word) = refusal word
word_refusal refusal token = Some (unfit token)

-- the name is unknown, or its attribute only holds others
abbrev pub unreadable_target : Option Reference → Option PolicyKind
unreadable_target None = Some kinds.Unknown
unreadable_target (Some found) =
    if is_container found.target.named.id then Some kinds.NotWritable else None

-- what a word is refused for where one that refers to values is wanted
unfoldable pub reference_refusal : Profile → Dictionary → List ℕ → Option PolicyKind
reference_refusal profile dictionary word =
    unreadable_target (reference_in profile dictionary lists.Request word)

abbrev pub ReadableFails : Profile → Dictionary → Failing Place
ReadableFails profile dictionary p =
    RefusedIf (left_at p) (word_refusal (reference_refusal profile dictionary) (next_token p).0) p

-- a reference that begins there is to values of another type
abbrev pub UnlikeFails : Dictionary → AttrId → ℕ → Reference → Failing Place
UnlikeFails dictionary id at found p left kind =
    (type_of dictionary id ≢ type_of dictionary found.target.named.id)
    × Refused at kinds.OtherType p left kind

abbrev pub AlikeFails : Profile → Dictionary → AttrId → Failing Place
AlikeFails profile dictionary id p =
    ThenFails (ReadableIs profile dictionary) (ReadableFails profile dictionary)
    (UnlikeFails dictionary id (left_at p)) p

-- ---- values

-- what a value's fault is in a policy
abbrev pub value_kind : ValueFault → PolicyKind
value_kind faults.NotWritable = kinds.NotWritable
value_kind faults.NotValue = kinds.NotValue
value_kind faults.TooLong = kinds.TooLong
value_kind faults.Memory = kinds.Memory

-- a value has to fit its attribute
abbrev pub unfit_value : Dictionary → Target → Result Value ValueFault → Option PolicyKind
unfit_value dictionary target (Ok value) =
    if fits (pair_with target.named value) dictionary then None else Some kinds.NotValue
unfit_value dictionary target (Err fault) = Some (value_kind fault)

-- what a text is refused for under a name
unfoldable pub literal_refusal : Profile → Dictionary → Target → List ℕ → Option PolicyKind
literal_refusal profile dictionary target text =
    unfit_value dictionary target (value_written profile target text None dictionary)

-- what an expansion in a condition is refused for: that the name is not writable comes first
abbrev pub expansion_kind : Dictionary → Target → Option PolicyKind
expansion_kind dictionary target =
    if is_barred target.named dictionary then Some kinds.NotWritable else Some kinds.Unreadable

-- what a text between double quotes is refused for in a condition, where no value is put in
abbrev pub plain_refusal : (List ℕ → Option PolicyKind) → Dictionary → Target → List ℕ
    → Option PolicyKind
plain_refusal refusal dictionary target text =
    if has_expansion false text then expansion_kind dictionary target
    else refusal (double_quoted_octets text)

-- a name that is not writable is refused where the name begins, and a value where the value does
abbrev pub value_place : ℕ → ℕ → PolicyKind → ℕ
value_place name value kinds.NotWritable = name
value_place name value _ = value

-- a value, or the name before it, is refused for this, if for anything
abbrev pub IsValueRefused : Option PolicyKind → ℕ → ℕ → ℕ → PolicyKind → Type 0
IsValueRefused why name value left kind =
    (why ≡ Some kind) × (left ≡ value_place name value kind)

-- by its first token, which begins at value; the name begins at name
abbrev pub WrittenFailsFrom : Profile → Dictionary → Target → ℕ → ℕ → Token → Failing Place
WrittenFailsFrom profile dictionary target name value (Word text) after left kind =
    IsValueRefused (literal_refusal profile dictionary target text) name value left kind
WrittenFailsFrom profile dictionary target name value (Quoted quote.Single text) after left kind =
    IsValueRefused (literal_refusal profile dictionary target (single_quoted_octets text)) name
    value left kind
WrittenFailsFrom profile dictionary target name value (Quoted quote.Double text) after left kind = ⊥
WrittenFailsFrom profile dictionary target name value (Operator sign.Reference) after left kind =
    AlikeFails profile dictionary target.named.id after left kind
WrittenFailsFrom profile dictionary target name value token after left kind =
    Refused value (unfit token) after left kind

abbrev pub WrittenFails : Profile → Dictionary → Target → ℕ → Failing Place
WrittenFails profile dictionary target name p =
    WrittenFailsFrom profile dictionary target name (left_at p) (next_token p).0 (next_token p).1
