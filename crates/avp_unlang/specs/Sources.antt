-- What an update line sets its attribute to, and how it is spelled.
use Rattle.std.specs.Prelude.{◌≡◌, ℕ, Bool, true, false, List, [], ◌∷◌, Option, Some, None}
use Rattle.std.specs.Option.{option_map, unwrap_or}
use Rattle.avp_lists.specs.declared.edits.Op.{Op}
use Rattle.avp_lists.specs.declared.edits.Op.TheVariants as op
use Rattle.avp_dict.specs.Dictionary.{Dictionary}
use Rattle.avp_dict.specs.declared.forms.Form.{Form as ValueForm}
use Rattle.avp_dict.specs.declared.forms.Form.TheVariants as forms
use Rattle.avp_lists.specs.declared.pairs.AttrId.{AttrId}
use Rattle.avp_forms.specs.declared.profiles.Profile.{Profile}
use Rattle.avp_forms.specs.declared.profiles.Profile.TheVariants.{Plain, Wider}
use Rattle.avp_forms.specs.declared.targets.Target.{Target}
use Rattle.avp_unlang.specs.declared.text.references.Reference.{Reference}
use Rattle.avp_dict.specs.Names.{form_of}
use Rattle.avp_dict.specs.Sent.{is_container}
use Rattle.avp_dict.specs.Spellings.{is_barred}
use Rattle.avp_unlang.specs.declared.text.tokens.Sign.TheVariants as sign
use Rattle.avp_unlang.specs.declared.text.tokens.Token.{Token}
use Rattle.avp_unlang.specs.declared.text.tokens.Token.TheVariants.{Operator, Word, Quoted}
use Rattle.avp_unlang.specs.declared.text.values.Written.{Written}
use Rattle.avp_unlang.specs.declared.text.values.Written.TheVariants as written
use Rattle.avp_unlang.specs.declared.tree.Part.{Part}
use Rattle.avp_unlang.specs.declared.tree.Part.TheVariants as part
use Rattle.avp_unlang.specs.declared.tree.Source.{Source}
use Rattle.avp_unlang.specs.declared.tree.Source.TheVariants.{Literal, Text, WiderText, Instance, Tagged, Any}
use Rattle.avp_unlang.specs.Forms.{Form, Step}
use Rattle.avp_unlang.specs.Parts.{PartsAre}
use Rattle.avp_unlang.specs.Places.{Place}
use Rattle.avp_unlang.specs.Selecting.{selection_of}
use Rattle.avp_unlang.specs.Between.{Follows}
use Rattle.avp_unlang.specs.Tokens.{next_token}
use Rattle.avp_unlang.specs.Values.{WrittenAs, literal}

-- ---- texts between double quotes

-- the text of parts among which nothing is put in
abbrev pub whole_text : List Part → Option (List ℕ)
whole_text [] = Some []
whole_text (part.Text octets ∷ []) = Some octets
whole_text _ = None

-- any other text is kept, with whether the name is one by number, and in a wider policy with the name's tag
abbrev pub text_source : Profile → Target → List Part → Source
text_source Plain target parts = Text target.named.raw parts
text_source Wider target parts = WiderText target.named.raw target.tag parts

unfoldable pub filled_source : Profile → Dictionary → Target → List Part → Option Source
filled_source profile dictionary target parts = elim (whole_text parts) [
  | Some text ↦ option_map Literal (literal profile dictionary target text)
  | None ↦ Some (text_source profile target parts)
]

abbrev pub FilledIs : Profile → Dictionary → Target → List ℕ → Source → Type 0
FilledIs profile dictionary target text source =
    (is_barred target.named dictionary ≡ false)
    × (parts : List Part) × PartsAre profile dictionary text parts
    × (filled_source profile dictionary target parts ≡ Some source)

-- ---- references

-- the form of two attributes whose octets carry tags in the same way; else octets are taken as they are
abbrev pub same_form : Option ValueForm → Option ValueForm → ValueForm
same_form (Some forms.TaggedInteger) (Some forms.TaggedInteger) = forms.TaggedInteger
same_form (Some forms.TaggedString) (Some forms.TaggedString) = forms.TaggedString
same_form _ _ = forms.AsTyped

unfoldable pub shared_form : Dictionary → AttrId → AttrId → ValueForm
shared_form dictionary id other = same_form (form_of id dictionary) (form_of other dictionary)

-- an instance as it is, and in a wider policy with the name's tag, which is 0 where none is written
abbrev pub instance_source : Profile → Dictionary → Target → Reference → Source
instance_source Plain dictionary target found = Instance found.list found.target.named.id
instance_source Wider dictionary target found =
    Tagged found.list found.target.named.id (selection_of dictionary found.target)
    (shared_form dictionary target.named.id found.target.named.id) (unwrap_or target.tag 0)

-- ---- sources

-- the source that a written value is; a text between double quotes is read as parts
abbrev pub SourceOf : Profile → Dictionary → Target → Written → Source → Type 0
SourceOf profile dictionary target (written.Literal value) source = source ≡ Literal value
SourceOf profile dictionary target (written.Double text) source =
    FilledIs profile dictionary target text source
SourceOf profile dictionary target (written.Instance found) source =
    source ≡ instance_source profile dictionary target found

abbrev pub ValueIs : Profile → Dictionary → Target → Form Place Source
ValueIs profile dictionary target =
    WrittenAs profile dictionary target (SourceOf profile dictionary target)

-- a source by its tokens alone
abbrev pub IgnoredFrom : Token → Step Place
IgnoredFrom (Word text) after rest = rest ≡ after
IgnoredFrom (Quoted mark text) after rest = rest ≡ after
IgnoredFrom (Operator sign.Reference) after rest = (word : List ℕ) × Follows (Word word) after rest
IgnoredFrom _ after rest = ⊥

abbrev pub IgnoredIs : Step Place
IgnoredIs p rest = IgnoredFrom (next_token p).0 (next_token p).1 rest

abbrev pub is_removal : Op → Bool
is_removal op.RemoveAll = true
is_removal _ = false

-- After `!*` the source is not looked at; the other operators come only after an attribute that has values of its own.
abbrev pub SourceBy : Bool → Profile → Dictionary → Target → Form Place Source
SourceBy true profile dictionary target p source rest = IgnoredIs p rest × (source ≡ Any)
SourceBy false profile dictionary target p source rest =
    (is_container target.named.id ≡ false) × ValueIs profile dictionary target p source rest

abbrev pub SourceIs : Profile → Dictionary → Op → Target → Form Place Source
SourceIs profile dictionary operation target =
    SourceBy (is_removal operation) profile dictionary target
