-- An update line is one line, and ends at one place.
use Rattle.std.proofs.Common.{◌≡◌, ◌≢◌, ℕ, Bool, true, false, List, Option, Some, None, Result, Ok, Err, sym, ap, subst, ◌∙◌}
use Rattle.std.specs.Prelude.{IfOk, IfErr}
use Rattle.std.specs.Option.{option_map}
use Rattle.avp_lists.specs.declared.edits.Op.{Op}
use Rattle.avp_lists.specs.declared.lists.List.{List as Name}
use Rattle.avp_lists.specs.declared.pairs.AttrId.{AttrId}
use Rattle.avp_dict.specs.Dictionary.{Dictionary}
use Rattle.avp_dict.specs.declared.value.quotes.QuoteMark.TheVariants.{Double, Single}
use Rattle.avp_dict.specs.Quotes.{single_quoted_octets}
use Rattle.avp_dict.specs.Sent.{is_container}
use Rattle.avp_dict.specs.Spellings.{is_barred}
use Rattle.avp_forms.specs.declared.targets.Target.{Target}
use Rattle.avp_forms.specs.declared.profiles.Profile.{Profile}
use Rattle.avp_unlang.specs.declared.faults.Refusal.{Refusal}
use Rattle.avp_unlang.specs.declared.faults.PolicyKind.TheVariants.{Memory}
use Rattle.avp_unlang.specs.declared.text.references.Reference.{Reference}
use Rattle.avp_unlang.specs.declared.text.tokens.Sign.TheVariants as sign
use Rattle.avp_unlang.specs.declared.text.tokens.Token.{Token}
use Rattle.avp_unlang.specs.declared.text.tokens.Token.TheVariants.{Operator, Word, Quoted}
use Rattle.avp_unlang.specs.declared.text.values.Written.{Written}
use Rattle.avp_unlang.specs.declared.text.values.Written.TheVariants as written
use Rattle.avp_unlang.specs.declared.tree.Line.{Line}
use Rattle.avp_unlang.specs.declared.tree.Part.{Part}
use Rattle.avp_unlang.specs.declared.tree.Source.{Source}
use Rattle.avp_unlang.specs.Forms.{Form, Then, Gives, Refuses, Reads, ReadsAll}
use Rattle.avp_unlang.specs.Lines.{TargetIs, OpIs, LineIs, after_reference, op_of, line_of}
use Rattle.avp_unlang.specs.Parts.{PartsAre}
use Rattle.avp_unlang.specs.Places.{Place}
use Rattle.avp_unlang.specs.References.{ReadableIs, AlikeIs, readable, reference_in}
use Rattle.avp_unlang.specs.Selecting.{line_selection}
use Rattle.avp_unlang.specs.Sources.{filled_source, FilledIs, SourceOf, ValueIs, IgnoredFrom, IgnoredIs, SourceBy, SourceIs, is_removal}
use Rattle.avp_unlang.specs.Between.{Counts, Follows}
use Rattle.avp_unlang.specs.Tokens.{next_token}
use Rattle.avp_unlang.specs.Values.{literal, WrittenAs, WrittenFrom, WrittenIs}
use Rattle.avp_unlang.proofs.Determined.{IsOne, IsSure, some_is, pair_one, gives_one, becomes_one, after_one, then_one}
use Rattle.avp_unlang.proofs.PartsOne.{parts_one}

-- ---- steps

pub counts_sure : (n : ℕ) → IsSure (Counts n)
counts_sure n p r s h g = some_is r s (sym h ∙ g)

pub follows_sure : (token : Token) → IsSure (Follows token)
follows_sure token p r s h g = (pair_one (next_token p) token token r s h g).1

word_is : (w v : List ℕ) → Word w ≡ Word v → w ≡ v
word_is w v e = cc

-- two words that come next
pub words_one : (p : Place) (w v : List ℕ) (r s : Place) → Follows (Word w) p r → Follows (Word v) p s → (w ≡ v) × (r ≡ s)
words_one p w v r s h g = let at = pair_one (next_token p) (Word w) (Word v) r s h g in (word_is w v at.0, at.1)

none_some : {A : Type 0} (x : A) (o : Option A) → o ≡ None → o ≡ Some x → ⊥
none_some x o e f = cc

module _ (profile : Profile) (dictionary : Dictionary) where
  -- ---- references

  pub readable_one : IsOne (ReadableIs profile dictionary)
  readable_one p x y r s h g =
      let at = words_one p h.0 g.0 r s h.1 g.1 in
      (some_is x y (sym (subst (λ w. readable profile dictionary w ≡ Some x) at.0 h.2) ∙ g.2), at.1)

  pub alike_one : (id : AttrId) → IsOne (AlikeIs profile dictionary id)
  alike_one id p x y r s h g = readable_one p x y r s h.0 g.0

  pub target_one : (own : Name) → IsOne (TargetIs profile dictionary own)
  target_one own p x y r s h g =
      let at = words_one (after_reference p) h.0 g.0 r s h.1 g.1 in
      (some_is x y (sym (subst (λ w. reference_in profile dictionary own w ≡ Some x) at.0 h.2) ∙ g.2), at.1)

  -- ---- written values

  written_from_one : (name : Target) (token : Token) → IsOne (WrittenFrom profile dictionary name token)
  written_from_one name (Word text) p x y r s h g = becomes_one (option_map written.Literal (literal profile dictionary name text)) p x y r s h g
  written_from_one name (Quoted Single text) p x y r s h g = becomes_one (option_map written.Literal (literal profile dictionary name (single_quoted_octets text))) p x y r s h g
  written_from_one name (Quoted Double text) p x y r s h g = gives_one (written.Double text) p x y r s h g
  written_from_one name (Operator sign.Reference) p x y r s h g =
      let at = alike_one name.named.id p h.0 g.0 r s h.1 g.1 in
      (h.2 ∙ ap (λ (n : Reference). written.Instance n) at.0 ∙ sym g.2, at.1)
  written_from_one name _ p x y r s h g = absurd h

  pub written_one : (name : Target) → IsOne (WrittenIs profile dictionary name)
  written_one name p x y r s h g = written_from_one name (next_token p).0 (next_token p).1 x y r s h g

  -- a refusal of the reference after an `&`
  pub reference_refused : (name : Target) (p : Place) (q : Token × Place) (e : Refusal) → q ≡ next_token p → q.0 ≡ Operator sign.Reference
      → Refuses (AlikeIs profile dictionary name.named.id q.1) e → Refuses (WrittenIs profile dictionary name p) e
  reference_refused name p q e is first refused =
      let at : Refuses (WrittenFrom profile dictionary name (Operator sign.Reference) q.1) e = λ some x rest h. refused some h.0 rest h.1 in
      subst (λ (k : Token × Place). Refuses (WrittenFrom profile dictionary name k.0 k.1) e) is (subst (λ k. Refuses (WrittenFrom profile dictionary name k q.1) e) (sym first) at)

  -- ---- what is made of a written value

  module _ {A : Type 0} (name : Target) (makes : Written → A → Type 0) where
    pub made_one : ((w : Written) (x y : A) → makes w x → makes w y → x ≡ y) → IsOne (WrittenAs profile dictionary name makes)
    made_one one p x y r s h g =
        let at = written_one name p h.0 g.0 r s h.1 g.1 in
        (one g.0 x y (subst (λ (w : Written). makes w x) at.0 h.2) g.2, at.1)

    -- no value is written, or nothing is made of it
    pub made_stops : (p : Place) (e : Refusal) → Refuses (WrittenIs profile dictionary name p) e → Refuses (WrittenAs profile dictionary name makes p) e
    made_stops p e refused = λ some x rest h. refused some h.0 rest h.1

    pub made_refused : (p : Place) (w : Written) (mid : Place) (e : Refusal) → WrittenIs profile dictionary name p w mid → (e.kind ≢ Memory → (x : A) → makes w x → ⊥)
        → Refuses (WrittenAs profile dictionary name makes p) e
    made_refused p w mid e read refused = λ some x rest h.
        let at = written_one name p h.0 w rest mid h.1 read in refused some x (subst (λ (k : Written). makes k x) at.0 h.2)

  -- ---- sources

  pub filled_reads : (name : Target) (text : List ℕ) (parts : List Part) → is_barred name.named dictionary ≡ false → PartsAre profile dictionary text parts → (r : Result Source Refusal)
      → IfOk r (λ source. filled_source profile dictionary name parts ≡ Some source) → IfErr r (λ fault. fault.kind ≢ Memory → filled_source profile dictionary name parts ≡ None)
      → ReadsAll (FilledIs profile dictionary name text) r
  filled_reads name text parts free are (Ok source) ok err = (free, parts, are, ok)
  filled_reads name text parts free are (Err fault) ok err = λ some source h.
      let same = parts_one profile dictionary text h.1 parts h.2 are in
      none_some source (filled_source profile dictionary name parts) (err some) (subst (λ ps. filled_source profile dictionary name ps ≡ Some source) same h.3)

  filled_one : (name : Target) (text : List ℕ) (x y : Source) → FilledIs profile dictionary name text x → FilledIs profile dictionary name text y → x ≡ y
  filled_one name text x y h g =
      let same = parts_one profile dictionary text h.1 g.1 h.2 g.2 in
      some_is x y (sym (subst (λ ps. filled_source profile dictionary name ps ≡ Some x) same h.3) ∙ g.3)

  source_of_one : (name : Target) (w : Written) (x y : Source) → SourceOf profile dictionary name w x → SourceOf profile dictionary name w y → x ≡ y
  source_of_one name (written.Literal value) x y h g = h ∙ sym g
  source_of_one name (written.Double text) x y h g = filled_one name text x y h g
  source_of_one name (written.Instance found) x y h g = h ∙ sym g

  value_one : (name : Target) → IsOne (ValueIs profile dictionary name)
  value_one name = made_one name (SourceOf profile dictionary name) (source_of_one name)

  ignored_from_sure : (token : Token) → IsSure (IgnoredFrom token)
  ignored_from_sure (Word text) p r s h g = h ∙ sym g
  ignored_from_sure (Quoted mark text) p r s h g = h ∙ sym g
  ignored_from_sure (Operator sign.Reference) p r s h g = (words_one p h.0 g.0 r s h.1 g.1).1
  ignored_from_sure _ p r s h g = absurd h

  pub ignored_sure : IsSure IgnoredIs
  ignored_sure p r s h g = ignored_from_sure (next_token p).0 (next_token p).1 r s h g

  source_by_one : (b : Bool) (name : Target) → IsOne (SourceBy b profile dictionary name)
  source_by_one true name p x y r s h g = (h.1 ∙ sym g.1, ignored_sure p r s h.0 g.0)
  source_by_one false name p x y r s h g = value_one name p x y r s h.1 g.1

  pub source_one : (operation : Op) (name : Target) → IsOne (SourceIs profile dictionary operation name)
  source_one operation name = source_by_one (is_removal operation) name

  by_value : (name : Target) (p : Place) → is_container name.named.id ≡ false → (r : Result (Source × Place) Refusal) → Reads (ValueIs profile dictionary name p) r → Reads (SourceBy false profile dictionary name p) r
  by_value name p own (Ok x) reads = (own, reads)
  by_value name p own (Err e) reads = λ some x rest h. reads some x rest h.1

  -- a source that is looked at
  pub value_reads : (operation : Op) (name : Target) (p : Place) (r : Result (Source × Place) Refusal) → is_removal operation ≡ false → is_container name.named.id ≡ false
      → Reads (ValueIs profile dictionary name p) r → Reads (SourceIs profile dictionary operation name p) r
  value_reads operation name p r looked own reads = subst (λ b. Reads (SourceBy b profile dictionary name p) r) (sym looked) (by_value name p own r reads)

  -- ---- lines

  pub op_one : IsOne OpIs
  op_one p x y r s h g =
      let at = pair_one (next_token p) h.0 g.0 r s h.1 g.1 in
      (some_is x y (sym h.2 ∙ ap op_of at.0 ∙ g.2), at.1)

  -- what follows each part of a line
  abbrev pub Ending : ℕ → Reference → Op → Source → Form Place Line
  Ending first target operation source = Gives (line_of first target operation (line_selection profile dictionary operation target.target) source)

  abbrev pub Sourced : ℕ → Reference → Op → Form Place Line
  Sourced first target operation = Then (SourceIs profile dictionary operation target.target) (Ending first target operation)

  abbrev pub Operated : ℕ → Reference → Form Place Line
  Operated first target = Then OpIs (Sourced first target)

  abbrev pub Targeted : ℕ → Name → Form Place Line
  Targeted first own = Then (TargetIs profile dictionary own) (Operated first)

  sourced_one : (first : ℕ) (target : Reference) (operation : Op) → IsOne (Sourced first target operation)
  sourced_one first target operation =
      then_one (SourceIs profile dictionary operation target.target) (Ending first target operation) (source_one operation target.target) (λ source. gives_one (line_of first target operation (line_selection profile dictionary operation target.target) source))

  operated_one : (first : ℕ) (target : Reference) → IsOne (Operated first target)
  operated_one first target = then_one OpIs (Sourced first target) op_one (sourced_one first target)

  targeted_one : (first : ℕ) (own : Name) → IsOne (Targeted first own)
  targeted_one first own = then_one (TargetIs profile dictionary own) (Operated first) (target_one own) (operated_one first)

  pub line_one : (own : Name) → IsOne (LineIs profile dictionary own)
  line_one own p = after_one (Counts 1) (Targeted (next_token p).1.line own) (counts_sure 1) (targeted_one (next_token p).1.line own) p
