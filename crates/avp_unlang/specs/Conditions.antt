-- Conditions: how they are spelled. Each case is chosen by the next token.
use Rattle.std.specs.Prelude.{◌≡◌, ◌≢◌, ◌⊎◌, ℕ, zero, suc, Bool, true, false, not, ◌&&◌, ◌||◌, ◌==◌, List, [], ◌∷◌, Option, Some, None, if◌then◌else◌}
use Rattle.std.specs.Option.{option_and_then, option_map, option_or, unwrap_or}
use Rattle.avp_lists.specs.declared.lists.List.{List as Name}
use Rattle.avp_lists.specs.declared.pairs.AttrId.{AttrId}
use Rattle.avp_lists.specs.declared.tags.Selection.{Selection}
use Rattle.avp_lists.specs.declared.pairs.Value.{Value}
use Rattle.avp_dict.specs.declared.entries.Kind.{Kind}
use Rattle.avp_dict.specs.declared.entries.Kind.TheVariants as kinds
use Rattle.avp_dict.specs.declared.forms.Form.{Form as ValueForm}
use Rattle.avp_dict.specs.declared.forms.Form.TheVariants as forms
use Rattle.avp_dict.specs.declared.value.quotes.QuoteMark.{QuoteMark}
use Rattle.avp_dict.specs.declared.value.quotes.QuoteMark.TheVariants as quote
use Rattle.avp_dict.specs.Dictionary.{Dictionary}
use Rattle.avp_forms.specs.declared.profiles.Profile.{Profile}
use Rattle.avp_forms.specs.Orders.{other_octets}
use Rattle.avp_forms.specs.declared.profiles.Profile.TheVariants.{Plain, Wider}
use Rattle.avp_forms.specs.declared.targets.Target.{Target}
use Rattle.avp_dict.specs.Names.{form_of}
use Rattle.avp_dict.specs.Spellings.{is_barred}
use Rattle.avp_dict.specs.Quotes.{double_quoted_octets, single_quoted_octets}
use Rattle.avp_patterns.specs.Patterns.{IsPattern, Written as Pattern}
use Rattle.avp_unlang.specs.declared.codes.Code.{Code}
use Rattle.avp_unlang.specs.declared.text.references.Reference.{Reference}
use Rattle.avp_unlang.specs.declared.text.tokens.Matcher.{Matcher}
use Rattle.avp_unlang.specs.declared.text.tokens.Sign.TheVariants as sign
use Rattle.avp_unlang.specs.declared.text.tokens.Token.{Token}
use Rattle.avp_unlang.specs.declared.text.tokens.Token.TheVariants.{Matching, Operator, Quoted, Word}
use Rattle.avp_unlang.specs.declared.text.values.Written.{Written}
use Rattle.avp_unlang.specs.declared.text.values.Written.TheVariants as written
use Rattle.avp_unlang.specs.declared.tree.Comparand.{Comparand}
use Rattle.avp_unlang.specs.declared.tree.Comparand.TheVariants.{Literal, Instance}
use Rattle.avp_unlang.specs.declared.tree.Comparison.{Comparison}
use Rattle.avp_unlang.specs.declared.tree.Cond.{Cond}
use Rattle.avp_unlang.specs.declared.tree.Cond.TheVariants.{Any, All, Not, Last, Present, PresentSelected, Compare, CompareMeant, CompareTexts, Match, MatchText, MatchGroup, Captured}
use Rattle.avp_unlang.specs.declared.tree.GroupMatching.{GroupMatching}
use Rattle.avp_unlang.specs.declared.tree.Matching.{Matching as MatchingTree}
use Rattle.avp_unlang.specs.declared.tree.MeantComparand.{MeantComparand}
use Rattle.avp_unlang.specs.declared.tree.MeantComparand.TheVariants as meant
use Rattle.avp_unlang.specs.declared.tree.MeantComparison.{MeantComparison}
use Rattle.avp_unlang.specs.declared.tree.Part.{Part}
use Rattle.avp_unlang.specs.declared.tree.Part.TheVariants as part
use Rattle.avp_unlang.specs.declared.tree.Relation.{Relation}
use Rattle.avp_unlang.specs.declared.tree.TextComparison.{TextComparison}
use Rattle.avp_unlang.specs.declared.tree.TextSide.{TextSide}
use Rattle.avp_unlang.specs.declared.tree.TextSide.TheVariants as side
use Rattle.avp_unlang.specs.declared.tree.Relation.TheVariants as relation
use Rattle.avp_unlang.specs.Forms.{Form, Becomes, Chain, Gives, ◌>>◌, ◌>>=◌}
use Rattle.avp_dict.specs.Ascii.{backslash, left_brace, percent, slash}
use Rattle.avp_unlang.specs.Parts.{PartsAre, group_in, only_word}
use Rattle.avp_unlang.specs.Places.{Place}
use Rattle.avp_unlang.specs.References.{AlikeIs, ReadableIs, readable, type_of}
use Rattle.avp_unlang.specs.Selecting.{selection_of}
use Rattle.avp_unlang.specs.Between.{Follows}
use Rattle.avp_unlang.specs.Tokens.{next_token}
use Rattle.avp_unlang.specs.Truth.{octets_meant}
use Rattle.avp_unlang.specs.Values.{WrittenAs, literal}
use Rattle.avp_unlang.specs.Words.{code_named}

-- ---- comparisons

-- how an operator compares
unfoldable pub relation_of : Token → Option Relation
relation_of (Operator sign.Equal) = Some relation.Equal
relation_of (Operator sign.Differs) = Some relation.Differs
relation_of (Operator sign.Less) = Some relation.Less
relation_of (Operator sign.AtMost) = Some relation.AtMost
relation_of (Operator sign.Greater) = Some relation.Greater
relation_of (Operator sign.AtLeast) = Some relation.AtLeast
relation_of _ = None

abbrev pub begins_brace : List ℕ → Bool
begins_brace [] = false
begins_brace (c ∷ cs) = c == left_brace

-- `%{` with neither octet escaped by a `\`
abbrev pub has_expansion : Bool → List ℕ → Bool
has_expansion escaped [] = false
has_expansion escaped (c ∷ cs) =
    (not escaped && c == percent && begins_brace cs)
    || has_expansion (not escaped && c == backslash) cs

-- what a text between double quotes stands for in a condition, where no value is put in
abbrev pub plain_octets : List ℕ → Option (List ℕ)
plain_octets text = if has_expansion false text then None else Some (double_quoted_octets text)

-- the value that such a text stands for under a name
abbrev pub plain_literal : Profile → Dictionary → Target → List ℕ → Option Value
plain_literal profile dictionary target text =
    option_and_then (literal profile dictionary target) (plain_octets text)

-- what an attribute is compared with: a written value, where no value is put into a text between double quotes
abbrev pub ComparandOf : Profile → Dictionary → Target → Written → Comparand → Type 0
ComparandOf profile dictionary target (written.Literal value) x = x ≡ Literal value
ComparandOf profile dictionary target (written.Double text) x =
    option_map Literal (plain_literal profile dictionary target text) ≡ Some x
ComparandOf profile dictionary target (written.Instance found) x =
    x ≡ Instance found.list found.target.named.id

abbrev pub ComparandIs : Profile → Dictionary → Target → Form Place Comparand
ComparandIs profile dictionary target =
    WrittenAs profile dictionary target (ComparandOf profile dictionary target)

abbrev pub comparison_of : Dictionary → Reference → Relation → Comparand → Comparison
comparison_of dictionary found relation x = record {
  list = found.list;
  id = found.target.named.id;
  kind = type_of dictionary found.target.named.id;
  relation = relation;
  comparand = x;
}

-- after an operator that compares: what the reference is compared with
abbrev pub ComparedBy : Profile → Dictionary → Reference → Relation → Form Place Cond
ComparedBy profile dictionary found relation = do
  x ← ComparandIs profile dictionary found.target
  Gives (Compare (comparison_of dictionary found relation x))

-- ---- comparisons by meaning, of a wider policy

-- what octets stand for: their attribute's form
unfoldable pub meant_form : Dictionary → AttrId → ValueForm
meant_form dictionary id = unwrap_or (form_of id dictionary) forms.AsTyped

abbrev pub octets_compared : ValueForm × List ℕ → MeantComparand
octets_compared x = meant.Literal x.0 x.1

-- a prefix under an address's name, and an address under a prefix's; no such text is written under a name by number
abbrev pub other_literal : Dictionary → Target → List ℕ → Option (ValueForm × List ℕ)
other_literal dictionary target text =
    if target.named.raw then None
    else other_octets (meant_form dictionary target.named.id) text

-- the octets of a value that the text stands for under the attribute's name
abbrev pub own_literal : Dictionary → Target → List ℕ → Option (ValueForm × List ℕ)
own_literal dictionary target text =
    option_and_then (octets_meant (meant_form dictionary target.named.id))
    (literal Wider dictionary target text)

-- what a text is compared as
unfoldable pub meant_literal : Dictionary → Target → List ℕ → Option MeantComparand
meant_literal dictionary target text =
    option_map octets_compared
    (option_or (own_literal dictionary target text) (other_literal dictionary target text))

abbrev pub instance_compared : Dictionary → Reference → MeantComparand
instance_compared dictionary found =
    meant.Instance found.list found.target.named.id (selection_of dictionary found.target)
    (meant_form dictionary found.target.named.id)

-- by its first token: a literal, or after `&` a reference to values of the same type
abbrev pub MeantFrom : Dictionary → Target → Token → Form Place MeantComparand
MeantFrom dictionary target (Word text) after x rest =
    Becomes (meant_literal dictionary target text) after x rest
MeantFrom dictionary target (Quoted quote.Single text) after x rest =
    Becomes (meant_literal dictionary target (single_quoted_octets text)) after x rest
MeantFrom dictionary target (Quoted quote.Double text) after x rest =
    Becomes (option_and_then (meant_literal dictionary target) (plain_octets text)) after x rest
MeantFrom dictionary target (Operator sign.Reference) after x rest =
    (found : Reference) × AlikeIs Wider dictionary target.named.id after found rest
    × (x ≡ instance_compared dictionary found)
MeantFrom dictionary target _ after x rest = ⊥

abbrev pub MeantIs : Dictionary → Target → Form Place MeantComparand
MeantIs dictionary target p x rest =
    MeantFrom dictionary target (next_token p).0 (next_token p).1 x rest

abbrev pub meant_comparison : Dictionary → Reference → Relation → MeantComparand → MeantComparison
meant_comparison dictionary found relation x = record {
  list = found.list;
  id = found.target.named.id;
  selection = selection_of dictionary found.target;
  form = meant_form dictionary found.target.named.id;
  relation = relation;
  comparand = x;
}

abbrev pub MeantBy : Dictionary → Reference → Relation → Form Place Cond
MeantBy dictionary found relation = do
  x ← MeantIs dictionary found.target
  Gives (CompareMeant (meant_comparison dictionary found relation x))

-- a wider policy compares values that are octets by what they mean
abbrev pub is_by_meaning : Profile → Kind → Bool
is_by_meaning Wider kinds.Bytes = true
is_by_meaning _ _ = false

-- ---- texts, of a wider policy

-- octets as they are; no part where there are none
abbrev pub plain_parts : List ℕ → List Part
plain_parts [] = []
plain_parts (c ∷ cs) = part.Text (c ∷ cs) ∷ []

-- the parts of a text between quotes
abbrev pub QuotedParts : Dictionary → QuoteMark → List ℕ → List Part → Type 0
QuotedParts dictionary quote.Double text parts = PartsAre Wider dictionary text parts
QuotedParts dictionary quote.Single text parts = parts ≡ plain_parts (single_quoted_octets text)

-- a text with `%{` in it
abbrev pub puts_in : Token → Bool
puts_in (Quoted quote.Double text) = has_expansion false text
puts_in _ = false

-- what a text refers to that is one reference alone
unfoldable pub only_reference : Dictionary → List ℕ → Option Reference
only_reference dictionary text = option_and_then (readable Wider dictionary) (only_word text)

-- the text on the right side of a comparison
abbrev pub RightFrom : Dictionary → Token → Form Place (List Part)
RightFrom dictionary (Word word) after parts rest = Gives (plain_parts word) after parts rest
RightFrom dictionary (Quoted mark text) after parts rest =
    QuotedParts dictionary mark text parts × (rest ≡ after)
RightFrom dictionary _ after parts rest = ⊥

abbrev pub RightIs : Dictionary → Form Place (List Part)
RightIs dictionary p parts rest = RightFrom dictionary (next_token p).0 (next_token p).1 parts rest

abbrev pub text_comparison : TextSide → Relation → List Part → TextComparison
text_comparison left relation right =
    record { left = left; relation = relation; right = right }

abbrev pub TextsBy : Dictionary → TextSide → Relation → Form Place Cond
TextsBy dictionary left relation = do
  right ← RightIs dictionary
  Gives (CompareTexts (text_comparison left relation right))

abbrev pub side_of : Dictionary → Reference → TextSide
side_of dictionary found =
    side.Instance found.list found.target.named.id (selection_of dictionary found.target)

-- an instance beside another, by meaning or by type
abbrev pub instance_related : Bool → Dictionary → Reference → Relation → Reference → Cond
instance_related true dictionary found relation other =
    CompareMeant (meant_comparison dictionary found relation (instance_compared dictionary other))
instance_related false dictionary found relation other =
    Compare (comparison_of dictionary found relation
    (Instance other.list other.target.named.id))

-- what is compared with texts octet by octet: strings, and octets that mean no more than their type says
abbrev pub is_compared_by_octets : Kind → ValueForm → Bool
is_compared_by_octets kinds.Text form = true
is_compared_by_octets kinds.Bytes forms.AsTyped = true
is_compared_by_octets _ _ = false

abbrev pub is_beside_texts : Dictionary → AttrId → Bool
is_beside_texts dictionary id =
    is_compared_by_octets (type_of dictionary id) (meant_form dictionary id)

abbrev pub TextBesideOctets : Dictionary → Reference → Relation → Form Place Cond
TextBesideOctets dictionary found relation p c rest =
    (is_beside_texts dictionary found.target.named.id ≡ true)
    × TextsBy dictionary (side_of dictionary found) relation p c rest

-- the type of an attribute, and the form by which its octets mean something
abbrev pub typing_of : Dictionary → Reference → Kind × ValueForm
typing_of dictionary found =
    (type_of dictionary found.target.named.id, meant_form dictionary found.target.named.id)

-- a text with `%{` in it, beside a reference: one reference alone, to values of the same type and form, is that
-- reference; any other text is compared octet by octet
abbrev pub TextBeside : Dictionary → Reference → Relation → Option Reference → Form Place Cond
TextBeside dictionary found relation None p c rest =
    TextBesideOctets dictionary found relation p c rest
TextBeside dictionary found relation (Some other) p c rest =
    ((typing_of dictionary found ≡ typing_of dictionary other)
    × (c ≡ instance_related (is_by_meaning Wider (type_of dictionary found.target.named.id))
    dictionary found relation other)
    × (rest ≡ (next_token p).1))
    ⊎ ((typing_of dictionary found ≢ typing_of dictionary other)
    × TextBesideOctets dictionary found relation p c rest)

abbrev pub reference_alone : Dictionary → Token → Option Reference
reference_alone dictionary (Quoted quote.Double text) = only_reference dictionary text
reference_alone dictionary _ = None

-- of names that may be written
abbrev pub RelatedToText : Dictionary → Reference → Relation → Form Place Cond
RelatedToText dictionary found relation p c rest =
    (is_barred found.target.named dictionary ≡ false)
    × TextBeside dictionary found relation (reference_alone dictionary (next_token p).0) p c rest

-- ---- references compared

abbrev pub RelatedBy : Bool → Profile → Dictionary → Reference → Relation → Form Place Cond
RelatedBy true profile dictionary found relation = MeantBy dictionary found relation
RelatedBy false profile dictionary found relation = ComparedBy profile dictionary found relation

abbrev pub ValueRelated : Profile → Dictionary → Reference → Relation → Form Place Cond
ValueRelated profile dictionary found relation =
    RelatedBy (is_by_meaning profile (type_of dictionary found.target.named.id)) profile dictionary
    found relation

-- a wider policy takes a text with `%{` in it
abbrev pub is_text_beside : Profile → Token → Bool
is_text_beside Plain token = false
is_text_beside Wider token = puts_in token

abbrev pub RelatedAs : Bool → Profile → Dictionary → Reference → Relation → Form Place Cond
RelatedAs true profile dictionary found relation = RelatedToText dictionary found relation
RelatedAs false profile dictionary found relation = ValueRelated profile dictionary found relation

abbrev pub RelatedIs : Profile → Dictionary → Reference → Relation → Form Place Cond
RelatedIs profile dictionary found relation p c rest =
    RelatedAs (is_text_beside profile (next_token p).0) profile dictionary found relation p c rest

-- ---- comparisons with a pattern, of a wider policy

-- a slash for each `\` and the slash after it; any other octet after a `\` stays with it
abbrev pub unslashed : List ℕ → List ℕ
unslashed [] = []
unslashed (c ∷ []) = c ∷ []
unslashed (c ∷ d ∷ cs) =
    if not (c == backslash) then c ∷ unslashed (d ∷ cs)
    else if d == slash then slash ∷ unslashed cs
    else backslash ∷ d ∷ unslashed cs

-- the comparison with a pattern that a token is; a plain policy has none
abbrev pub matcher_in : Profile → Token → Option Matcher
matcher_in Plain token = None
matcher_in Wider (Matching m) = Some m
matcher_in Wider _ = None

abbrev pub pattern_of : Matcher → Pattern
pattern_of m = record { text = unslashed m.pattern; flags = m.flags }

abbrev pub matching_of : Dictionary → Reference → Matcher → MatchingTree
matching_of dictionary found m = record {
  list = found.list;
  id = found.target.named.id;
  selection = selection_of dictionary found.target;
  negated = m.negated;
  pattern = unslashed m.pattern;
  flags = m.flags;
}

-- values of any type may be compared with what is a pattern
abbrev pub MatchedBy : Dictionary → Reference → Matcher → Form Place Cond
MatchedBy dictionary found m p c rest =
    IsPattern (pattern_of m) × Gives (Match (matching_of dictionary found m)) p c rest

-- ---- references

-- a name with a tag asks for an instance with that tag
abbrev pub present_of : Dictionary → Reference → Option ℕ → Cond
present_of dictionary found None = Present found.list found.target.named.id
present_of dictionary found (Some tag) =
    PresentSelected found.list found.target.named.id (selection_of dictionary found.target)

-- after a reference: nothing more, or an operator that compares and what it compares with
abbrev pub ComparedFrom : Profile → Dictionary → Reference → Option Relation → Place
    → Form Place Cond
ComparedFrom profile dictionary found None p after c rest =
    Gives (present_of dictionary found found.target.tag) p c rest
ComparedFrom profile dictionary found (Some relation) p after c rest =
    RelatedIs profile dictionary found relation after c rest

-- or a comparison with a pattern
abbrev pub MatchedOr : Profile → Dictionary → Reference → Option Matcher → Place → Token × Place
    → Cond → Place → Type 0
MatchedOr profile dictionary found None p next c rest =
    ComparedFrom profile dictionary found (relation_of next.0) p next.1 c rest
MatchedOr profile dictionary found (Some m) p next c rest =
    MatchedBy dictionary found m next.1 c rest

abbrev pub ComparedIs : Profile → Dictionary → Reference → Form Place Cond
ComparedIs profile dictionary found p c rest =
    MatchedOr profile dictionary found (matcher_in profile (next_token p).0) p (next_token p) c rest

-- after an `&`: a reference, and what it is compared with
abbrev pub ReferredIs : Profile → Dictionary → Form Place Cond
ReferredIs profile dictionary = do
  found ← ReadableIs profile dictionary
  ComparedIs profile dictionary found

-- a word that is a code stands for it, and any other for a reference
abbrev pub WordFrom : Profile → Dictionary → Option Code → List ℕ → Form Place Cond
WordFrom profile dictionary (Some code) word p c rest = Gives (Last code) p c rest
WordFrom profile dictionary None word p c rest =
    (found : Reference) × (readable profile dictionary word ≡ Some found)
    × ComparedIs profile dictionary found p c rest

-- ---- texts on the left side

abbrev pub is_text : Token → Bool
is_text (Word word) = true
is_text (Quoted mark text) = true
is_text _ = false

-- one reference alone, beside a text without `%{`, is that reference
abbrev pub TextRelatedFrom : Dictionary → Option Reference → Bool → List Part → Relation
    → Form Place Cond
TextRelatedFrom dictionary (Some found) false parts relation =
    ValueRelated Wider dictionary found relation
TextRelatedFrom dictionary _ _ parts relation = TextsBy dictionary (side.Text parts) relation

abbrev pub TextRelated : Dictionary → Option Reference → List Part → Relation → Form Place Cond
TextRelated dictionary alone parts relation p c rest =
    (is_text (next_token p).0 ≡ true)
    × TextRelatedFrom dictionary alone (puts_in (next_token p).0) parts relation p c rest

abbrev pub text_matching : Matcher → Name → AttrId → Selection → MatchingTree
text_matching m list id selection = record {
  list = list;
  id = id;
  selection = selection;
  negated = m.negated;
  pattern = unslashed m.pattern;
  flags = m.flags;
}

abbrev pub group_matching : Matcher → ℕ → GroupMatching
group_matching m group = record {
  group = group;
  negated = m.negated;
  pattern = unslashed m.pattern;
  flags = m.flags;
}

-- of texts one expansion alone is compared with a pattern: the text of an instance, or a group
abbrev pub text_match : Matcher → List Part → Option Cond
text_match m (part.Meant list id selection ∷ []) =
    Some (MatchText (text_matching m list id selection))
text_match m (part.Capture group ∷ []) = Some (MatchGroup (group_matching m group))
text_match m _ = None

abbrev pub TextMatched : Matcher → List Part → Form Place Cond
TextMatched m parts p c rest = IsPattern (pattern_of m) × Becomes (text_match m parts) p c rest

-- after a text: a pattern, or an operator that compares; a group may also be alone
abbrev pub TextComparedFrom : Dictionary → QuoteMark → List ℕ → Option Matcher → Option Relation
    → Place → Form Place Cond
TextComparedFrom dictionary mark text (Some m) related p after c rest =
    (parts : List Part) × QuotedParts dictionary mark text parts × TextMatched m parts after c rest
TextComparedFrom dictionary mark text None (Some relation) p after c rest =
    (parts : List Part) × QuotedParts dictionary mark text parts
    × TextRelated dictionary (reference_alone dictionary (Quoted mark text)) parts relation after
    c rest
TextComparedFrom dictionary quote.Double text None None p after c rest =
    Becomes (option_map Captured (group_in Wider text)) p c rest
TextComparedFrom dictionary quote.Single text None None p after c rest = ⊥

abbrev pub TextOperand : Profile → Dictionary → QuoteMark → List ℕ → Form Place Cond
TextOperand Plain dictionary mark text p c rest = ⊥
TextOperand Wider dictionary mark text p c rest =
    TextComparedFrom dictionary mark text (matcher_in Wider (next_token p).0)
    (relation_of (next_token p).0) p (next_token p).1 c rest

-- ---- operands

-- one operand is itself
abbrev pub any_of : List Cond → Cond
any_of (c ∷ []) = c
any_of cs = Any cs

abbrev pub all_of : List Cond → Cond
all_of (c ∷ []) = c
all_of cs = All cs

-- operands with `&&` between them, and these with `||` between them
abbrev pub Both : Form Place Cond → Form Place Cond
Both operand = do
  conds ← Chain (Follows (Operator sign.And)) operand
  Gives (all_of conds)

abbrev pub Either : Form Place Cond → Form Place Cond
Either operand = do
  conds ← Chain (Follows (Operator sign.Or)) (Both operand)
  Gives (any_of conds)

-- the operand after a `!`
abbrev pub Negated : Form Place Cond → Form Place Cond
Negated inner = do
  cond ← inner
  Gives (Not cond)

-- the operands after a `(`, and its `)`
abbrev pub Closed : Form Place Cond → Form Place Cond
Closed inner = do
  cond ← Either inner
  Follows (Operator sign.Close)
  Gives cond

-- an operand by its first token; inner spells the operands inside a `!` or brackets
abbrev pub OperandFrom : Profile → Dictionary → Form Place Cond → Token → Form Place Cond
OperandFrom profile dictionary inner (Operator sign.Not) after c rest = Negated inner after c rest
OperandFrom profile dictionary inner (Operator sign.Open) after c rest = Closed inner after c rest
OperandFrom profile dictionary inner (Operator sign.Reference) after c rest =
    ReferredIs profile dictionary after c rest
OperandFrom profile dictionary inner (Word word) after c rest =
    WordFrom profile dictionary (code_named word) word after c rest
OperandFrom profile dictionary inner (Quoted mark text) after c rest =
    TextOperand profile dictionary mark text after c rest
OperandFrom profile dictionary inner _ after c rest = ⊥

abbrev pub OperandIs : Profile → Dictionary → Form Place Cond → Form Place Cond
OperandIs profile dictionary inner p c rest =
    OperandFrom profile dictionary inner (next_token p).0 (next_token p).1 c rest

-- an operand inside which fewer than n signs `!` and `(` are open at once
abbrev pub Within : Profile → Dictionary → ℕ → Form Place Cond
Within profile dictionary zero p c rest = ⊥
Within profile dictionary (suc n) p c rest =
    OperandIs profile dictionary (Within profile dictionary n) p c rest
