-- Where update lines are refused, and for what.
use Rattle.std.specs.Prelude.{◌≡◌, ℕ, Bool, true, false, List, Option, Some, None}
use Rattle.std.specs.Option.{option_and_then}
use Rattle.avp_lists.specs.declared.edits.Op.{Op}
use Rattle.avp_lists.specs.declared.lists.List.{List as Name}
use Rattle.avp_dict.specs.Dictionary.{Dictionary}
use Rattle.avp_dict.specs.Sent.{is_container}
use Rattle.avp_dict.specs.Spellings.{is_barred}
use Rattle.avp_forms.specs.declared.profiles.Profile.{Profile}
use Rattle.avp_forms.specs.declared.targets.Target.{Target}
use Rattle.avp_unlang.specs.Between.{Counts}
use Rattle.avp_unlang.specs.Forms.{While}
use Rattle.avp_unlang.specs.Lines.{OpIs, TargetIs, after_reference, op_of}
use Rattle.avp_unlang.specs.Parts.{PartIs, after_opening, begins_octet, braced, group_named, is_left}
use Rattle.avp_unlang.specs.Places.{Place}
use Rattle.avp_unlang.specs.References.{reference_in}
use Rattle.avp_unlang.specs.RefusedForms.{AfterFails, Failing, Lacks, Refused, RefusedIf, ThenFails, Unfit, WhileFails, left_at, unfit}
use Rattle.avp_unlang.specs.RefusedValues.{IsValueRefused, WrittenFails, literal_refusal, reference_refusal, word_refusal}
use Rattle.avp_unlang.specs.Sources.{is_removal, whole_text}
use Rattle.avp_unlang.specs.Tokens.{next_token}
use Rattle.avp_unlang.specs.Values.{WrittenIs}
use Rattle.avp_unlang.specs.declared.faults.PolicyKind.{PolicyKind}
use Rattle.avp_unlang.specs.declared.faults.PolicyKind.TheVariants as kinds
use Rattle.avp_unlang.specs.declared.text.references.Reference.{Reference}
use Rattle.avp_unlang.specs.declared.text.tokens.Sign.TheVariants as sign
use Rattle.avp_unlang.specs.declared.text.tokens.Token.{Token}
use Rattle.avp_unlang.specs.declared.text.tokens.Token.TheVariants.{Operator, Quoted, Word}
use Rattle.avp_unlang.specs.declared.text.values.Written.{Written}
use Rattle.avp_unlang.specs.declared.text.values.Written.TheVariants as written

-- ---- texts between double quotes, whose faults are all where the text begins

abbrev pub unfit_group : Option PolicyKind → Option ℕ → Option PolicyKind
unfit_group refusal None = refusal
unfit_group refusal (Some group) = None

-- a word in braces is a group, or has to refer to values
abbrev pub part_refusal : Profile → Dictionary → List ℕ → Option PolicyKind
part_refusal profile dictionary word =
    unfit_group (reference_refusal profile dictionary word) (group_named profile word)

abbrev pub unfit_braces : Profile → Dictionary → Option (List ℕ × List ℕ) → Option PolicyKind
unfit_braces profile dictionary None = Some kinds.Unreadable
unfit_braces profile dictionary (Some found) = part_refusal profile dictionary found.0

abbrev pub expansion_refusal : Profile → Dictionary → List ℕ → Option PolicyKind
expansion_refusal profile dictionary text =
    unfit_braces profile dictionary (option_and_then braced (after_opening text))

abbrev pub PartFails : Profile → Dictionary → ℕ → Failing (List ℕ)
PartFails profile dictionary value text left kind =
    (begins_octet text ≡ false)
    × RefusedIf value (expansion_refusal profile dictionary text) text left kind

-- the value of a text into which nothing is put
abbrev pub whole_refusal : (List ℕ → Option PolicyKind) → Option (List ℕ) → Option PolicyKind
whole_refusal refusal None = None
whole_refusal refusal (Some text) = refusal text

-- the parts from left to right, and then their value if nothing is put in
abbrev pub PartsFail : Profile → Dictionary → Target → ℕ → ℕ → Failing (List ℕ)
PartsFail profile dictionary target name value =
    ThenFails (While is_left (PartIs profile dictionary))
    (WhileFails is_left (PartIs profile dictionary) (PartFails profile dictionary value))
    (λ parts end. IsValueRefused
    (whole_refusal (literal_refusal profile dictionary target) (whole_text parts)) name value)

-- that the name is not writable comes first
abbrev pub FilledFailsBy : Bool → Profile → Dictionary → Target → ℕ → ℕ → Failing (List ℕ)
FilledFailsBy true profile dictionary target name value = Refused name kinds.NotWritable
FilledFailsBy false profile dictionary target name value =
    PartsFail profile dictionary target name value

abbrev pub FilledFails : Profile → Dictionary → Target → ℕ → ℕ → Failing (List ℕ)
FilledFails profile dictionary target =
    FilledFailsBy (is_barred target.named dictionary) profile dictionary target

-- ---- sources

abbrev pub SourceFailsOf : Profile → Dictionary → Target → ℕ → ℕ → Written → ℕ → PolicyKind
    → Type 0
SourceFailsOf profile dictionary target name value (written.Double text) left kind =
    FilledFails profile dictionary target name value text left kind
SourceFailsOf profile dictionary target name value _ left kind = ⊥

abbrev pub ValueFails : Profile → Dictionary → Target → ℕ → Failing Place
ValueFails profile dictionary target name p =
    ThenFails (WrittenIs profile dictionary target) (WrittenFails profile dictionary target name)
    (λ written after. SourceFailsOf profile dictionary target name (left_at p) written) p

abbrev pub any_word : List ℕ → Option PolicyKind
any_word word = None

-- a source by its tokens alone, the first of which begins here
abbrev pub IgnoredFailsFrom : ℕ → Token → Failing Place
IgnoredFailsFrom begin (Word text) after left kind = ⊥
IgnoredFailsFrom begin (Quoted mark text) after left kind = ⊥
IgnoredFailsFrom begin (Operator sign.Reference) after left kind =
    RefusedIf (left_at after) (word_refusal any_word (next_token after).0) after left kind
IgnoredFailsFrom begin token after left kind = Refused begin (unfit token) after left kind

abbrev pub IgnoredFails : Failing Place
IgnoredFails p = IgnoredFailsFrom (left_at p) (next_token p).0 (next_token p).1

-- an attribute that only holds others has no values of its own
abbrev pub OwnFails : Bool → Profile → Dictionary → Target → ℕ → Failing Place
OwnFails true profile dictionary target name = Refused name kinds.NotWritable
OwnFails false profile dictionary target name = ValueFails profile dictionary target name

abbrev pub SourceFailsBy : Bool → Profile → Dictionary → Target → ℕ → Failing Place
SourceFailsBy true profile dictionary target name = IgnoredFails
SourceFailsBy false profile dictionary target name =
    OwnFails (is_container target.named.id) profile dictionary target name

abbrev pub SourceFails : Profile → Dictionary → Op → Target → ℕ → Failing Place
SourceFails profile dictionary operation target =
    SourceFailsBy (is_removal operation) profile dictionary target

-- ---- lines

abbrev pub unknown_target : Option Reference → Option PolicyKind
unknown_target None = Some kinds.Unknown
unknown_target (Some found) = None

abbrev pub target_refusal : Profile → Dictionary → Name → List ℕ → Option PolicyKind
target_refusal profile dictionary own word =
    unknown_target (reference_in profile dictionary own word)

-- the word of a target, after its `&`
abbrev pub NamedFails : Profile → Dictionary → Name → Failing Place
NamedFails profile dictionary own p =
    RefusedIf (left_at p) (word_refusal (target_refusal profile dictionary own) (next_token p).0) p

abbrev pub TargetFails : Profile → Dictionary → Name → Failing Place
TargetFails profile dictionary own p = NamedFails profile dictionary own (after_reference p)

abbrev pub OpFails : Failing Place
OpFails p left kind = (op_of (next_token p).0 ≡ None) × Unfit p left kind

-- after a target, whose word begins at name
abbrev pub EditFails : Profile → Dictionary → ℕ → Reference → Failing Place
EditFails profile dictionary name found =
    ThenFails OpIs OpFails
    (λ operation. SourceFails profile dictionary operation found.target name)

-- the target's name, its operator and its source
abbrev pub PartedFails : Profile → Dictionary → Name → Failing Place
PartedFails profile dictionary own p =
    ThenFails (TargetIs profile dictionary own) (TargetFails profile dictionary own)
    (EditFails profile dictionary (left_at (after_reference p))) p

-- an update line; the room for it comes first
abbrev pub LineFails : Profile → Dictionary → Name → Failing Place
LineFails profile dictionary own p =
    AfterFails (Counts 1) (Lacks 1 (left_at p)) (PartedFails profile dictionary own) p
