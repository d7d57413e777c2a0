-- Update lines are refused at most once, and not where they are read.
use Rattle.std.proofs.Common.{◌≡◌, inl, inr, ℕ, Bool, true, false, List, Option, Some, None, refl, ap, subst, ◌∙◌}
use Rattle.std.specs.Option.{option_map}
use Rattle.avp_lists.specs.declared.edits.Op.{Op}
use Rattle.avp_lists.specs.declared.lists.List.{List as Name}
use Rattle.avp_dict.specs.Dictionary.{Dictionary}
use Rattle.avp_dict.specs.Sent.{is_container}
use Rattle.avp_dict.specs.Spellings.{is_barred}
use Rattle.avp_forms.specs.declared.profiles.Profile.{Profile}
use Rattle.avp_forms.specs.declared.targets.Target.{Target}
use Rattle.avp_unlang.specs.Between.{Counts}
use Rattle.avp_unlang.specs.Forms.{Form, While}
use Rattle.avp_unlang.specs.Lines.{LineIs, OpIs, TargetIs, after_reference, line_of, op_of}
use Rattle.avp_unlang.specs.Parts.{PartIs, is_left}
use Rattle.avp_unlang.specs.Places.{Place}
use Rattle.avp_unlang.specs.RefusedForms.{Lacks, WhileFails, left_at, unfit}
use Rattle.avp_unlang.specs.RefusedLines.{EditFails, FilledFails, FilledFailsBy, IgnoredFailsFrom, LineFails, OpFails, OwnFails, PartFails, PartedFails, PartsFail, SourceFails, SourceFailsBy, SourceFailsOf, TargetFails, ValueFails, any_word, target_refusal, unknown_target, whole_refusal}
use Rattle.avp_unlang.specs.RefusedValues.{IsValueRefused, literal_refusal, word_refusal}
use Rattle.avp_unlang.specs.Selecting.{line_selection}
use Rattle.avp_unlang.specs.Sources.{FilledIs, IgnoredFrom, SourceBy, SourceIs, SourceOf, ValueIs, filled_source, is_removal, text_source, whole_text}
use Rattle.avp_unlang.specs.Tokens.{next_token}
use Rattle.avp_unlang.specs.Values.{literal}
use Rattle.avp_unlang.specs.declared.faults.PolicyKind.{PolicyKind}
use Rattle.avp_unlang.specs.declared.faults.PolicyKind.TheVariants as kinds
use Rattle.avp_unlang.specs.declared.text.references.Reference.{Reference}
use Rattle.avp_unlang.specs.declared.text.tokens.Sign.TheVariants as sign
use Rattle.avp_unlang.specs.declared.text.tokens.Token.{Token}
use Rattle.avp_unlang.specs.declared.text.tokens.Token.TheVariants.{Operator, Quoted, Word}
use Rattle.avp_unlang.specs.declared.text.values.Written.{Written}
use Rattle.avp_unlang.specs.declared.text.values.Written.TheVariants as written
use Rattle.avp_unlang.specs.declared.tree.Part.{Part}
use Rattle.avp_unlang.specs.declared.tree.Source.{Source}
use Rattle.avp_unlang.specs.declared.tree.Source.TheVariants.{Literal}
use Rattle.avp_unlang.proofs.LinesOne.{Operated, Sourced, Targeted, counts_sure, op_one, target_one}
use Rattle.avp_unlang.proofs.PartsOne.{part_one}
use Rattle.avp_unlang.proofs.RefusedOnce.{AreSame, SettlesAt, after_settles, then_settles}
use Rattle.avp_unlang.proofs.RefusedOnceConditions.{gives_settles}
use Rattle.avp_unlang.proofs.RefusedOnceTexts.{run_settles}
use Rattle.avp_unlang.proofs.RefusedOnceParts.{at_once, counts_settles, if_once, literal_apart, made_settles, mapped, some_none, value_once}
use Rattle.avp_unlang.proofs.ValueRuns.{while_one}

module _ (profile : Profile) (dictionary : Dictionary) where
  -- ---- texts between double quotes

  whole_apart : (target : Target) (parts : List Part) (o : Option (List ℕ)) (source : Source) (kind : PolicyKind)
      → elim o [ Some text ↦ option_map Literal (literal profile dictionary target text) | None ↦ Some (text_source profile target parts) ] ≡ Some source
      → whole_refusal (literal_refusal profile dictionary target) o ≡ Some kind → ⊥
  whole_apart target parts None source kind h f = some_none kind None f refl
  whole_apart target parts (Some text) source kind h f =
      let v = mapped profile dictionary Literal (literal profile dictionary target text) source h in literal_apart profile dictionary target text v.0 kind v.1 f

  source_apart : (target : Target) (parts : List Part) (source : Source) (kind : PolicyKind) → filled_source profile dictionary target parts ≡ Some source
      → whole_refusal (literal_refusal profile dictionary target) (whole_text parts) ≡ Some kind → ⊥
  unfolding filled_source
  source_apart target parts source kind h f = whole_apart target parts (whole_text parts) source kind h f

  filled_apart : (target : Target) (name value : ℕ) (text : List ℕ) (source : Source) (left : ℕ) (kind : PolicyKind) → FilledIs profile dictionary target text source → FilledFails profile dictionary target name value text left kind → ⊥
  filled_apart target name value text source left kind h f = of_parts (subst (λ b. FilledFailsBy b profile dictionary target name value text left kind) h.0 f) where
    of_parts : PartsFail profile dictionary target name value text left kind → ⊥
    of_parts (inl g) = (run_settles profile dictionary value text).apart h.1 h.2.0 left kind h.2.1 g
    of_parts (inr g) =
        let same = (while_one is_left (PartIs profile dictionary) (part_one profile dictionary) text h.1 g.0 h.2.0 g.1 h.2.1 g.2).0 in
        source_apart target g.0 source kind (subst (λ ps. filled_source profile dictionary target ps ≡ Some source) same h.3) g.3.0

  -- of parts by themselves no source is said
  abbrev NoSource : List Part → Form (List ℕ) Source
  NoSource parts text source rest = ⊥

  parts_once : (target : Target) (name value : ℕ) (text : List ℕ) (left other : ℕ) (kind more : PolicyKind) → PartsFail profile dictionary target name value text left kind → PartsFail profile dictionary target name value text other more
      → AreSame left kind other more
  parts_once target name value text =
      (then_settles (While is_left (PartIs profile dictionary)) (WhileFails is_left (PartIs profile dictionary) (PartFails profile dictionary value)) NoSource
      (λ parts end. IsValueRefused (whole_refusal (literal_refusal profile dictionary target) (whole_text parts)) name value) text
      (while_one is_left (PartIs profile dictionary) (part_one profile dictionary)) (run_settles profile dictionary value text)
      (λ parts end. record { apart = λ source rest left kind h f. h; once = value_once (whole_refusal (literal_refusal profile dictionary target) (whole_text parts)) name value })).once

  filled_once : (target : Target) (name value : ℕ) (text : List ℕ) (b : Bool) (left other : ℕ) (kind more : PolicyKind) → FilledFailsBy b profile dictionary target name value text left kind
      → FilledFailsBy b profile dictionary target name value text other more → AreSame left kind other more
  filled_once target name value text true left other kind more f g = at_once name kinds.NotWritable left other kind more f g
  filled_once target name value text false left other kind more f g = parts_once target name value text left other kind more f g

  -- ---- sources

  made_apart : (target : Target) (name value : ℕ) (w : Written) (source : Source) (left : ℕ) (kind : PolicyKind) → SourceOf profile dictionary target w source → SourceFailsOf profile dictionary target name value w left kind → ⊥
  made_apart target name value (written.Double text) source left kind h f = filled_apart target name value text source left kind h f
  made_apart target name value (written.Literal v) source left kind h f = f
  made_apart target name value (written.Instance found) source left kind h f = f

  made_once : (target : Target) (name value : ℕ) (w : Written) (left other : ℕ) (kind more : PolicyKind) → SourceFailsOf profile dictionary target name value w left kind → SourceFailsOf profile dictionary target name value w other more
      → AreSame left kind other more
  made_once target name value (written.Double text) left other kind more f g = filled_once target name value text (is_barred target.named dictionary) left other kind more f g
  made_once target name value (written.Literal v) left other kind more f g = absurd f
  made_once target name value (written.Instance found) left other kind more f g = absurd f

  value_settles : (target : Target) (name : ℕ) (p : Place) → SettlesAt (ValueIs profile dictionary target) (ValueFails profile dictionary target name) p
  value_settles target name p =
      let at = made_settles profile dictionary (SourceOf profile dictionary target) (SourceFailsOf profile dictionary target name (left_at p)) target name p (made_apart target name (left_at p)) (made_once target name (left_at p)) in
      record { apart = at.apart; once = at.once }

  any_settles : (at : ℕ) (token : Token) (p rest : Place) (left : ℕ) (kind : PolicyKind) → IgnoredFrom token p rest → IgnoredFailsFrom at token p left kind → ⊥
  any_settles at (Word text) p rest left kind h f = f
  any_settles at (Quoted mark text) p rest left kind h f = f
  any_settles at (Operator sign.Reference) p rest left kind h f = some_none kind None (subst (λ (t : Token × Place). word_refusal any_word t.0 ≡ Some kind) h.1 f.1) refl
  any_settles at _ p rest left kind h f = h

  any_once : (at : ℕ) (token : Token) (p : Place) (left other : ℕ) (kind more : PolicyKind) → IgnoredFailsFrom at token p left kind → IgnoredFailsFrom at token p other more → AreSame left kind other more
  any_once at (Word text) p left other kind more f g = absurd f
  any_once at (Quoted mark text) p left other kind more f g = absurd f
  any_once at (Operator sign.Reference) p left other kind more f g = if_once (left_at p) (word_refusal any_word (next_token p).0) left other kind more f g
  any_once at token p left other kind more f g = at_once at (unfit token) left other kind more f g

  own_once : (b : Bool) (target : Target) (name : ℕ) (p : Place) (left other : ℕ) (kind more : PolicyKind) → OwnFails b profile dictionary target name p left kind → OwnFails b profile dictionary target name p other more
      → AreSame left kind other more
  own_once true target name p left other kind more f g = at_once name kinds.NotWritable left other kind more f g
  own_once false target name p left other kind more f g = (value_settles target name p).once left other kind more f g

  source_by_settles : (b : Bool) (target : Target) (name : ℕ) (p : Place) → SettlesAt (SourceBy b profile dictionary target) (SourceFailsBy b profile dictionary target name) p
  source_by_settles true target name p = record {
    apart = λ source rest left kind h f. any_settles (left_at p) (next_token p).0 (next_token p).1 rest left kind h.0 f;
    once = any_once (left_at p) (next_token p).0 (next_token p).1;
  }
  source_by_settles false target name p = record {
    apart = λ source rest left kind h f.
        (value_settles target name p).apart source rest left kind h.1 (subst (λ b. OwnFails b profile dictionary target name p left kind) h.0 f);
    once = own_once (is_container target.named.id) target name p;
  }

  source_settles : (operation : Op) (target : Target) (name : ℕ) (p : Place) → SettlesAt (SourceIs profile dictionary operation target) (SourceFails profile dictionary operation target name) p
  source_settles operation target name p = let at = source_by_settles (is_removal operation) target name p in record { apart = at.apart; once = at.once }

  -- ---- lines

  op_settles : (p : Place) → SettlesAt OpIs OpFails p
  op_settles p = record {
    apart = λ operation rest left kind h f. some_none operation (op_of (next_token p).0) (ap (λ (t : Token × Place). op_of t.0) h.1 ∙ h.2) f.0;
    once = λ left other kind more f g. at_once (left_at p) (unfit (next_token p).0) left other kind more f.1 g.1;
  }

  target_settles : (own : Name) (p : Place) → SettlesAt (TargetIs profile dictionary own) (TargetFails profile dictionary own) p
  target_settles own p = record {
    apart = λ target rest left kind h f.
        let word = subst (λ (t : Token × Place). word_refusal (target_refusal profile dictionary own) t.0 ≡ Some kind) h.1 f.1 in
        some_none kind None (subst (λ o. unknown_target o ≡ Some kind) h.2 word) refl;
    once = if_once (left_at (after_reference p)) (word_refusal (target_refusal profile dictionary own) (next_token (after_reference p)).0);
  }

  sourced_settles : (first name : ℕ) (found : Reference) (operation : Op) (p : Place) → SettlesAt (Sourced profile dictionary first found operation) (SourceFails profile dictionary operation found.target name) p
  sourced_settles first name found operation p =
      gives_settles (SourceIs profile dictionary operation found.target) (SourceFails profile dictionary operation found.target name) (line_of first found operation (line_selection profile dictionary operation found.target)) p
      (source_settles operation found.target name p)

  edit_settles : (first name : ℕ) (found : Reference) (p : Place) → SettlesAt (Operated profile dictionary first found) (EditFails profile dictionary name found) p
  edit_settles first name found p =
      then_settles OpIs OpFails (Sourced profile dictionary first found) (λ operation. SourceFails profile dictionary operation found.target name) p (op_one profile dictionary) (op_settles p) (sourced_settles first name found)

  parted_settles : (first : ℕ) (own : Name) (p : Place) → SettlesAt (Targeted profile dictionary first own) (PartedFails profile dictionary own) p
  parted_settles first own p =
      let at = then_settles (TargetIs profile dictionary own) (TargetFails profile dictionary own) (Operated profile dictionary first) (EditFails profile dictionary (left_at (after_reference p))) p
      (target_one profile dictionary own) (target_settles own p) (edit_settles first (left_at (after_reference p))) in
      record { apart = at.apart; once = at.once }

  pub line_settles : (own : Name) (p : Place) → SettlesAt (LineIs profile dictionary own) (LineFails profile dictionary own) p
  line_settles own p =
      let first = (next_token p).1.line in
      let at = after_settles (Counts 1) (Lacks 1 (left_at p)) (Targeted profile dictionary first own) (PartedFails profile dictionary own) p (counts_sure 1) (counts_settles 1 (left_at p) p) (parted_settles first own) in
      record { apart = at.apart; once = at.once }
