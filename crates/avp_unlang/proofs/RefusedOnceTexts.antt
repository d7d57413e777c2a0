-- The parts of texts are refused at most once, and not where they are read.
use Rattle.std.proofs.Common.{◌≡◌, ℕ, Bool, true, false, List, Option, Some, None, refl, subst}
use Rattle.std.specs.Option.{option_and_then, option_map}
use Rattle.avp_dict.specs.Dictionary.{Dictionary}
use Rattle.avp_dict.specs.declared.value.quotes.QuoteMark.{QuoteMark}
use Rattle.avp_dict.specs.declared.value.quotes.QuoteMark.TheVariants.{Double, Single}
use Rattle.avp_forms.specs.declared.profiles.Profile.{Profile}
use Rattle.avp_forms.specs.declared.profiles.Profile.TheVariants.{Wider}
use Rattle.avp_unlang.specs.Conditions.{QuotedParts}
use Rattle.avp_unlang.specs.Forms.{While}
use Rattle.avp_unlang.specs.Parts.{ExpansionIs, PartIs, begins_octet, braced, group_named, is_left, part_of}
use Rattle.avp_unlang.specs.References.{readable}
use Rattle.avp_unlang.specs.RefusedConditions.{QuotedPartsFail}
use Rattle.avp_unlang.specs.RefusedForms.{WhileFails}
use Rattle.avp_unlang.specs.RefusedLines.{PartFails, expansion_refusal, unfit_braces, unfit_group}
use Rattle.avp_unlang.specs.RefusedValues.{reference_refusal}
use Rattle.avp_unlang.specs.declared.faults.PolicyKind.{PolicyKind}
use Rattle.avp_unlang.specs.declared.tree.Part.{Part}
use Rattle.avp_unlang.specs.declared.tree.Part.TheVariants.{Capture, Text, Instance, Meant}
use Rattle.avp_unlang.proofs.PartsOne.{part_one}
use Rattle.avp_unlang.proofs.RefusedOnce.{AreSame, SettlesAt, while_settles}
use Rattle.avp_unlang.proofs.RefusedOnceParts.{if_once, mapped, readable_apart, some_none}

pub both_ways : (b : Bool) → b ≡ true → b ≡ false → ⊥
both_ways b e f = cc

module _ (profile : Profile) (dictionary : Dictionary) where
  group_apart : (word : List ℕ) (o : Option ℕ) (part : Part) (kind : PolicyKind) → elim o [ None ↦ option_map (part_of profile dictionary) (readable profile dictionary word) | Some group ↦ Some (Capture group) ] ≡ Some part
      → unfit_group (reference_refusal profile dictionary word) o ≡ Some kind → ⊥
  group_apart word None part kind h f =
      let found = mapped profile dictionary (part_of profile dictionary) (readable profile dictionary word) part h in readable_apart profile dictionary word found.0 kind found.1 f
  group_apart word (Some group) part kind h f = some_none kind None f refl

  expansion_apart : (text : List ℕ) (part : Part) (rest : List ℕ) (kind : PolicyKind) → ExpansionIs profile dictionary text part rest → expansion_refusal profile dictionary text ≡ Some kind → ⊥
  expansion_apart text part rest kind h f =
      let opened = subst (λ o. unfit_braces profile dictionary (option_and_then braced o) ≡ Some kind) h.1 f in
      let closed = subst (λ o. unfit_braces profile dictionary o ≡ Some kind) h.3 opened in
      group_apart h.2 (group_named profile h.2) part kind h.4 closed

  part_settles : (value : ℕ) (text : List ℕ) → SettlesAt (PartIs profile dictionary) (PartFails profile dictionary value) text
  part_settles value text = record { apart = apart; once = λ left other kind more f g. if_once value (expansion_refusal profile dictionary text) left other kind more f.1 g.1 } where
    apart : (part : Part) (rest : List ℕ) (left : ℕ) (kind : PolicyKind) → PartIs profile dictionary text part rest → PartFails profile dictionary value text left kind → ⊥
    apart (Text octets) rest left kind h f = both_ways (begins_octet text) h.0 f.0
    apart (Instance l i) rest left kind h f = expansion_apart text (Instance l i) rest kind h.1 f.1.1
    apart (Meant l i k) rest left kind h f = expansion_apart text (Meant l i k) rest kind h.1 f.1.1
    apart (Capture n) rest left kind h f = expansion_apart text (Capture n) rest kind h.1 f.1.1

  pub run_settles : (value : ℕ) (text : List ℕ) → SettlesAt (While is_left (PartIs profile dictionary)) (WhileFails is_left (PartIs profile dictionary) (PartFails profile dictionary value)) text
  run_settles value text = while_settles is_left (PartIs profile dictionary) (PartFails profile dictionary value) (part_one profile dictionary) (part_settles value) text

module _ (dictionary : Dictionary) where
  pub quoted_apart : (mark : QuoteMark) (octets : List ℕ) (parts : List Part) (begin left : ℕ) (kind : PolicyKind) → QuotedParts dictionary mark octets parts → QuotedPartsFail dictionary begin mark octets left kind → ⊥
  quoted_apart Double octets parts begin left kind h f = (run_settles Wider dictionary begin octets).apart parts h.0 left kind h.1 f
  quoted_apart Single octets parts begin left kind h f = f

  pub quoted_once : (mark : QuoteMark) (octets : List ℕ) (begin left other : ℕ) (kind more : PolicyKind) → QuotedPartsFail dictionary begin mark octets left kind → QuotedPartsFail dictionary begin mark octets other more → AreSame left kind other more
  quoted_once Double octets begin left other kind more f g = (run_settles Wider dictionary begin octets).once left other kind more f g
  quoted_once Single octets begin left other kind more f g = absurd f
