-- Where conditions are refused, and for what.
use Rattle.std.specs.Prelude.{◌≡◌, ◌≢◌, ◌⊎◌, ℕ, zero, suc, Bool, true, false, List, Option, Some, None}
use Rattle.std.specs.Option.{unwrap_or}
use Rattle.avp_dict.specs.Dictionary.{Dictionary}
use Rattle.avp_dict.specs.Quotes.{single_quoted_octets}
use Rattle.avp_dict.specs.Spellings.{is_barred}
use Rattle.avp_dict.specs.declared.value.quotes.QuoteMark.{QuoteMark}
use Rattle.avp_dict.specs.declared.value.quotes.QuoteMark.TheVariants as quote
use Rattle.avp_forms.specs.declared.profiles.Profile.{Profile}
use Rattle.avp_forms.specs.declared.profiles.Profile.TheVariants.{Plain, Wider}
use Rattle.avp_forms.specs.declared.targets.Target.{Target}
use Rattle.avp_patterns.specs.Patterns.{IsRefused, Written as Pattern}
use Rattle.avp_patterns.specs.declared.faults.PatternFault.TheVariants as pattern
use Rattle.avp_unlang.specs.Between.{Follows}
use Rattle.avp_unlang.specs.Conditions.{Both, Either, QuotedParts, Within, is_beside_texts, is_by_meaning, is_text, is_text_beside, matcher_in, meant_literal, pattern_of, puts_in, reference_alone, relation_of, text_match, typing_of}
use Rattle.avp_unlang.specs.Forms.{Form}
use Rattle.avp_unlang.specs.Parts.{PartIs, group_in, is_left}
use Rattle.avp_unlang.specs.Places.{Place}
use Rattle.avp_unlang.specs.References.{ReadableIs, readable, type_of}
use Rattle.avp_unlang.specs.RefusedForms.{ChainFails, DeepFails, Failing, Misses, Refused, RefusedIf, ThenFails, WhileFails, left_at, unfit}
use Rattle.avp_unlang.specs.RefusedLines.{PartFails}
use Rattle.avp_unlang.specs.RefusedValues.{AlikeFails, IsValueRefused, ReadableFails, WrittenFails, literal_refusal, plain_refusal, reference_refusal}
use Rattle.avp_unlang.specs.Tokens.{next_token}
use Rattle.avp_unlang.specs.Values.{WrittenIs}
use Rattle.avp_unlang.specs.Words.{code_named}
use Rattle.avp_unlang.specs.declared.codes.Code.{Code}
use Rattle.avp_unlang.specs.declared.faults.PolicyKind.{PolicyKind}
use Rattle.avp_unlang.specs.declared.faults.PolicyKind.TheVariants as kinds
use Rattle.avp_unlang.specs.declared.text.references.Reference.{Reference}
use Rattle.avp_unlang.specs.declared.text.tokens.Matcher.{Matcher}
use Rattle.avp_unlang.specs.declared.text.tokens.Sign.TheVariants as sign
use Rattle.avp_unlang.specs.declared.text.tokens.Token.{Token}
use Rattle.avp_unlang.specs.declared.text.tokens.Token.TheVariants.{Operator, Quoted, Word}
use Rattle.avp_unlang.specs.declared.text.values.Written.{Written}
use Rattle.avp_unlang.specs.declared.text.values.Written.TheVariants as written
use Rattle.avp_unlang.specs.declared.tree.Cond.{Cond}
use Rattle.avp_unlang.specs.declared.tree.MeantComparand.{MeantComparand}
use Rattle.avp_unlang.specs.declared.tree.Part.{Part}
use Rattle.avp_unlang.specs.declared.tree.Relation.{Relation}

-- ---- comparisons

abbrev pub comparand_refusal : Profile → Dictionary → Target → Written → Option PolicyKind
comparand_refusal profile dictionary target (written.Double text) =
    plain_refusal (literal_refusal profile dictionary target) dictionary target text
comparand_refusal profile dictionary target _ = None

-- what an attribute is compared with, whose name begins at name
abbrev pub ComparandFails : Profile → Dictionary → Target → ℕ → Failing Place
ComparandFails profile dictionary target name p =
    ThenFails (WrittenIs profile dictionary target) (WrittenFails profile dictionary target name)
    (λ written after. IsValueRefused (comparand_refusal profile dictionary target written) name
    (left_at p)) p

-- what a text is refused for that is no octets either: as a value of the attribute itself
abbrev pub own_refusal : Option PolicyKind → Option PolicyKind
own_refusal refusal = Some (unwrap_or refusal kinds.NotValue)

-- a text is refused that the attribute is not compared with
abbrev pub unfit_meaning : Option PolicyKind → Option MeantComparand → Option PolicyKind
unfit_meaning refusal None = own_refusal refusal
unfit_meaning refusal (Some x) = None

unfoldable pub meant_refusal : Dictionary → Target → List ℕ → Option PolicyKind
meant_refusal dictionary target text =
    unfit_meaning (literal_refusal Wider dictionary target text)
    (meant_literal dictionary target text)

-- by its first token, which begins at value; the name begins at name
abbrev pub MeantFailsFrom : Dictionary → Target → ℕ → ℕ → Token → Failing Place
MeantFailsFrom dictionary target name value (Word text) after left kind =
    IsValueRefused (meant_refusal dictionary target text) name value left kind
MeantFailsFrom dictionary target name value (Quoted quote.Single text) after left kind =
    IsValueRefused (meant_refusal dictionary target (single_quoted_octets text)) name value left
    kind
MeantFailsFrom dictionary target name value (Quoted quote.Double text) after left kind =
    IsValueRefused (plain_refusal (meant_refusal dictionary target) dictionary target text) name
    value left kind
MeantFailsFrom dictionary target name value (Operator sign.Reference) after left kind =
    AlikeFails Wider dictionary target.named.id after left kind
MeantFailsFrom dictionary target name value token after left kind =
    Refused value (unfit token) after left kind

abbrev pub MeantFails : Dictionary → Target → ℕ → Failing Place
MeantFails dictionary target name p =
    MeantFailsFrom dictionary target name (left_at p) (next_token p).0 (next_token p).1

abbrev pub RelatedFailsBy : Bool → Profile → Dictionary → Target → ℕ → Failing Place
RelatedFailsBy true profile dictionary target name = MeantFails dictionary target name
RelatedFailsBy false profile dictionary target name =
    ComparandFails profile dictionary target name

-- what is written for a value, after an operator that compares
abbrev pub ValueRelatedFails : Profile → Dictionary → Target → ℕ → Failing Place
ValueRelatedFails profile dictionary target =
    RelatedFailsBy (is_by_meaning profile (type_of dictionary target.named.id)) profile dictionary
    target

-- the fault of a pattern's text; when one that is read is too large is left open
abbrev pub IsPatternFault : Pattern → PolicyKind → Type 0
IsPatternFault text (kinds.Pattern fault) =
    (fault ≢ pattern.TooLarge) × (fault ≢ pattern.Memory) × IsRefused text fault
IsPatternFault text _ = ⊥

-- what is no pattern is refused at its token, which begins here
abbrev pub MatchedFails : Matcher → ℕ → Failing Place
MatchedFails m begin p left kind = (left ≡ begin) × IsPatternFault (pattern_of m) kind

-- ---- texts, of a wider policy

-- the parts of a text between quotes, which begins here
abbrev pub QuotedPartsFail : Dictionary → ℕ → QuoteMark → Failing (List ℕ)
QuotedPartsFail dictionary begin quote.Double text left kind =
    WhileFails is_left (PartIs Wider dictionary) (PartFails Wider dictionary begin) text left kind
QuotedPartsFail dictionary begin quote.Single text left kind = ⊥

-- the text on the right side, which begins here
abbrev pub RightFailsFrom : Dictionary → ℕ → Token → ℕ → PolicyKind → Type 0
RightFailsFrom dictionary begin (Word word) left kind = ⊥
RightFailsFrom dictionary begin (Quoted mark text) left kind =
    QuotedPartsFail dictionary begin mark text left kind
RightFailsFrom dictionary begin token left kind = (left ≡ begin) × (kind ≡ unfit token)

abbrev pub RightFails : Dictionary → Failing Place
RightFails dictionary p left kind = RightFailsFrom dictionary (left_at p) (next_token p).0 left kind

-- a text beside a reference to values that are not compared octet by octet
abbrev pub TextBesideOctetsFails : Dictionary → Reference → Failing Place
TextBesideOctetsFails dictionary found p left kind =
    ((is_beside_texts dictionary found.target.named.id ≡ true) × RightFails dictionary p left kind)
    ⊎ ((is_beside_texts dictionary found.target.named.id ≡ false)
    × Refused (left_at p) kinds.OtherType p left kind)

-- unless it is one reference alone to values of that type and form; the name begins at name
abbrev pub TextBesideFails : Dictionary → Reference → Option Reference → Failing Place
TextBesideFails dictionary found None p left kind =
    TextBesideOctetsFails dictionary found p left kind
TextBesideFails dictionary found (Some other) p left kind =
    (typing_of dictionary found ≢ typing_of dictionary other)
    × TextBesideOctetsFails dictionary found p left kind

abbrev pub RelatedToTextFails : Dictionary → Reference → ℕ → Failing Place
RelatedToTextFails dictionary found name p left kind =
    ((is_barred found.target.named dictionary ≡ true) × Refused name kinds.NotWritable p left kind)
    ⊎ ((is_barred found.target.named dictionary ≡ false)
    × TextBesideFails dictionary found (reference_alone dictionary (next_token p).0) p left kind)

-- on the right of a text on the left, which begins at begin: no reference may be there
abbrev pub TextRelatedFailsFrom : Dictionary → Option Reference → Bool → ℕ → Failing Place
TextRelatedFailsFrom dictionary (Some found) false begin =
    ValueRelatedFails Wider dictionary found.target begin
TextRelatedFailsFrom dictionary _ _ begin = RightFails dictionary

abbrev pub TextRelatedFails : Dictionary → Option Reference → ℕ → Failing Place
TextRelatedFails dictionary alone begin p left kind =
    ((is_text (next_token p).0 ≡ false) × Refused (left_at p) (unfit (next_token p).0) p left kind)
    ⊎ ((is_text (next_token p).0 ≡ true)
    × TextRelatedFailsFrom dictionary alone (puts_in (next_token p).0) begin p left kind)

-- a text that is not one expansion before a pattern, whose token begins here; else a pattern's own fault
abbrev pub TextMatchedFails : Matcher → ℕ → List Part → Failing Place
TextMatchedFails m begin parts p left kind =
    ((text_match m parts ≡ None) × Refused begin kinds.NotExpansion p left kind)
    ⊎ ((text_match m parts ≢ None) × (left ≡ begin) × IsPatternFault (pattern_of m) kind)

abbrev pub group_alone : QuoteMark → List ℕ → Option ℕ
group_alone quote.Double text = group_in Wider text
group_alone quote.Single text = None

-- the text begins at begin, and the token after it at next
abbrev pub TextComparedFails : Dictionary → QuoteMark → List ℕ → ℕ → ℕ → Option Matcher
    → Option Relation → Token → Failing Place
TextComparedFails dictionary mark text begin next (Some m) related token after left kind =
    QuotedPartsFail dictionary begin mark text left kind
    ⊎ ((parts : List Part) × QuotedParts dictionary mark text parts
    × TextMatchedFails m next parts after left kind)
TextComparedFails dictionary mark text begin next None (Some relation) token after left kind =
    QuotedPartsFail dictionary begin mark text left kind
    ⊎ ((parts : List Part) × QuotedParts dictionary mark text parts
    × TextRelatedFails dictionary (reference_alone dictionary (Quoted mark text)) begin after left
    kind)
TextComparedFails dictionary mark text begin next None None token after left kind =
    (group_alone mark text ≡ None)
    × (QuotedPartsFail dictionary begin mark text left kind
    ⊎ ((parts : List Part) × QuotedParts dictionary mark text parts
    × Refused next (unfit token) after left kind))

-- a plain policy has no text there
abbrev pub TextOperandFails : Profile → Dictionary → QuoteMark → List ℕ → ℕ → Failing Place
TextOperandFails Plain dictionary mark text begin p = Refused begin kinds.Misplaced p
TextOperandFails Wider dictionary mark text begin p =
    TextComparedFails dictionary mark text begin (left_at p) (matcher_in Wider (next_token p).0)
    (relation_of (next_token p).0) (next_token p).0 (next_token p).1

-- ---- references

abbrev pub RelatedFailsAs : Bool → Profile → Dictionary → Reference → ℕ → Failing Place
RelatedFailsAs true profile dictionary found name = RelatedToTextFails dictionary found name
RelatedFailsAs false profile dictionary found name =
    ValueRelatedFails profile dictionary found.target name

-- after an operator that compares
abbrev pub RelatedFails : Profile → Dictionary → Reference → ℕ → Failing Place
RelatedFails profile dictionary found name p =
    RelatedFailsAs (is_text_beside profile (next_token p).0) profile dictionary found name p

abbrev pub ComparedFailsFrom : Profile → Dictionary → Reference → ℕ → Option Relation
    → Failing Place
ComparedFailsFrom profile dictionary found name None after left kind = ⊥
ComparedFailsFrom profile dictionary found name (Some relation) after left kind =
    RelatedFails profile dictionary found name after left kind

abbrev pub MatchedFailsOr : Profile → Dictionary → Reference → ℕ → ℕ → Option Matcher → Token
    → Failing Place
MatchedFailsOr profile dictionary found name at None token after left kind =
    ComparedFailsFrom profile dictionary found name (relation_of token) after left kind
MatchedFailsOr profile dictionary found name at (Some m) token after left kind =
    MatchedFails m at after left kind

-- after a reference, whose word begins at name
abbrev pub ComparedFails : Profile → Dictionary → Reference → ℕ → Failing Place
ComparedFails profile dictionary found name p =
    MatchedFailsOr profile dictionary found name (left_at p)
    (matcher_in profile (next_token p).0) (next_token p).0 (next_token p).1

-- after an `&`
abbrev pub ReferredFails : Profile → Dictionary → Failing Place
ReferredFails profile dictionary p =
    ThenFails (ReadableIs profile dictionary) (ReadableFails profile dictionary)
    (λ found. ComparedFails profile dictionary found (left_at p)) p

-- after a word, which begins at name
abbrev pub WordFailsFrom : Profile → Dictionary → Option Code → List ℕ → ℕ → Failing Place
WordFailsFrom profile dictionary (Some code) word name p left kind = ⊥
WordFailsFrom profile dictionary None word name p left kind =
    RefusedIf name (reference_refusal profile dictionary word) p left kind
    ⊎ ((found : Reference) × (readable profile dictionary word ≡ Some found)
    × ComparedFails profile dictionary found name p left kind)

-- ---- operands

abbrev pub BothFails : Form Place Cond → Failing Place → Failing Place
BothFails operand fails = ChainFails (Follows (Operator sign.And)) operand fails

abbrev pub EitherFails : Form Place Cond → Failing Place → Failing Place
EitherFails operand fails =
    ChainFails (Follows (Operator sign.Or)) (Both operand) (BothFails operand fails)

-- after a `(`, which begins there
abbrev pub ClosedFails : ℕ → ℕ → Form Place Cond → Failing Place → Failing Place
ClosedFails n begin inner fails =
    DeepFails n begin
    (ThenFails (Either inner) (EitherFails inner fails) (λ cond. Misses (Operator sign.Close)))

-- an operand by its first token, which begins here; inside it fewer than n signs may be nested
abbrev pub OperandFailsFrom : Profile → Dictionary → ℕ → Form Place Cond → Failing Place → ℕ
    → Token → Failing Place
OperandFailsFrom profile dictionary n inner fails begin (Operator sign.Not) after left kind =
    DeepFails n begin fails after left kind
OperandFailsFrom profile dictionary n inner fails begin (Operator sign.Open) after left kind =
    ClosedFails n begin inner fails after left kind
OperandFailsFrom profile dictionary n inner fails begin (Operator sign.Reference) after left kind =
    ReferredFails profile dictionary after left kind
OperandFailsFrom profile dictionary n inner fails begin (Word word) after left kind =
    WordFailsFrom profile dictionary (code_named word) word begin after left kind
OperandFailsFrom profile dictionary n inner fails begin (Quoted mark text) after left kind =
    TextOperandFails profile dictionary mark text begin after left kind
OperandFailsFrom profile dictionary n inner fails begin token after left kind =
    Refused begin (unfit token) after left kind

abbrev pub OperandFails : Profile → Dictionary → ℕ → Form Place Cond → Failing Place
    → Failing Place
OperandFails profile dictionary n inner fails p =
    OperandFailsFrom profile dictionary n inner fails (left_at p) (next_token p).0 (next_token p).1

-- an operand inside which fewer than n signs `!` and `(` are open at once
abbrev pub WithinFails : Profile → Dictionary → ℕ → Failing Place
WithinFails profile dictionary zero p left kind = ⊥
WithinFails profile dictionary (suc n) p left kind =
    OperandFails profile dictionary n (Within profile dictionary n)
    (WithinFails profile dictionary n) p left kind
