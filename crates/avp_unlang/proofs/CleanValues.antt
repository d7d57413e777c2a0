-- The pairs that update lines add are clean where they fit.
use Rattle.std.proofs.Common.{◌≡◌, ℕ, Bool, true, false, ◌&&◌, cond, List, map, Option, Some, None, Result, Ok, Err, refl, sym, ap, subst, ◌∙◌}
use Rattle.std.proofs.lemmas.Bool.{and_parts}
use Rattle.std.specs.Option.{unwrap_or}
use Rattle.avp_lists.specs.Instances.{first_instance}
use Rattle.avp_lists.specs.Selections.{first_selected_instance}
use Rattle.avp_lists.specs.States.{list_of}
use Rattle.avp_lists.specs.declared.pairs.AttrId.{AttrId}
use Rattle.avp_lists.specs.declared.pairs.Pair.{Pair}
use Rattle.avp_lists.specs.declared.pairs.Value.{Value}
use Rattle.avp_lists.specs.declared.pairs.Value.TheVariants as values
use Rattle.avp_lists.specs.declared.lists.List.{List as Name}
use Rattle.avp_lists.specs.declared.lists.State.{State}
use Rattle.avp_dict.specs.Limits.{fits, is_known, is_typed, is_within}
use Rattle.avp_dict.specs.Octets.{kind_of, octets, read_value}
use Rattle.avp_dict.specs.Sent.{is_canonical, is_clean_pair, is_container}
use Rattle.avp_dict.specs.Laws.{SpelledValuesClean}
use Rattle.avp_dict.specs.Soundness.{IsSound}
use Rattle.avp_dict.specs.Spellings.{unless_long, value_spelled}
use Rattle.avp_dict.specs.declared.entries.Named.{Named}
use Rattle.avp_dict.specs.declared.forms.Form.{Form}
use Rattle.avp_dict.specs.declared.entries.Kind.{Kind}
use Rattle.avp_dict.specs.declared.entries.Kind.TheVariants as kinds
use Rattle.avp_dict.specs.Dictionary.{Dictionary}
use Rattle.avp_dict.specs.declared.value.faults.ValueFault.{ValueFault}
use Rattle.avp_dict.specs.declared.value.faults.ValueFault.TheVariants.{TooLong}
use Rattle.avp_dict.proofs.OwnValues.{raw_canonical, read_value_sized, typed_canonical}
use Rattle.avp_forms.specs.Written.{value_written}
use Rattle.avp_forms.specs.declared.profiles.Profile.TheVariants.{Plain, Wider}
use Rattle.avp_forms.specs.declared.targets.Target.{Target}
use Rattle.avp_forms.specs.declared.profiles.Profile.{Profile}
use Rattle.avp_unlang.specs.Captures.{Captures, filled_part, filled_source}
use Rattle.avp_unlang.specs.Lines.{LineIs, line_of}
use Rattle.avp_unlang.specs.Resolutions.{given, instance_value, pair_of, paired, parts_text, read_by_kind, resolution, retagged, source_value, tagged_value}
use Rattle.avp_unlang.specs.Selecting.{line_selection, selection_of}
use Rattle.avp_unlang.specs.Sources.{SourceBy, instance_source, is_removal, shared_form, text_source}
use Rattle.avp_unlang.specs.Tokens.{next_token}
use Rattle.avp_unlang.specs.Values.{literal}
use Rattle.avp_unlang.specs.declared.meaning.resolving.Unresolved.{Unresolved}
use Rattle.avp_unlang.specs.declared.text.references.Reference.{Reference}
use Rattle.avp_unlang.specs.declared.tree.Line.{Line}
use Rattle.avp_unlang.specs.declared.tree.Part.{Part}
use Rattle.avp_unlang.specs.declared.tree.Source.{Source}
use Rattle.avp_unlang.specs.declared.tree.Source.TheVariants as source
use Rattle.avp_unlang.proofs.Determined.{some_is}
use Rattle.avp_forms.proofs.WrittenValues as forms
use Rattle.avp_unlang.proofs.KeptReplies.{Adds}
use Rattle.avp_unlang.proofs.SpelledParts.{Holds, literal_is, value_holds}

ok_is : {A E : Type 0} (x y : A) → (let made : Result A E = Ok x in made ≡ Ok y) → x ≡ y
ok_is x y e = cc

-- ---- what a value was made of

given_from : (r : Result Value ValueFault) (v : Value) → given r ≡ Ok v → r ≡ Ok v
given_from (Ok w) v e = ap Ok (ok_is w v e)
given_from (Err fault) v e = absurd cc

paired_from : (id : AttrId) (r : Result Value Unresolved) (p : Pair) → paired id r ≡ Ok p → (v : Value) × (r ≡ Ok v) × (pair_of id v ≡ p)
paired_from id (Ok v) p e = (v, refl, ok_is (pair_of id v) p e)
paired_from id (Err fault) p e = absurd cc

module _ (dictionary : Dictionary) where
  within_from : (b : Bool) (w v : Value) → cond b (Ok w) (Err TooLong) ≡ Ok v → w ≡ v
  within_from true w v e = ok_is w v e
  within_from false w v e = absurd cc

  read_from : (id : AttrId) (o : Option Value) (v : Value) → unless_long id dictionary o ≡ Ok v → o ≡ Some v
  read_from id None v e = absurd cc
  read_from id (Some w) v e = ap Some (within_from (is_within id w dictionary) w v e)

  known_of : (p : Pair) → fits p dictionary ≡ true → is_known p.id dictionary ≡ true
  unfolding fits
  known_of p h = (and_parts (is_known p.id dictionary) (is_typed p.id p.value dictionary) (and_parts (is_known p.id dictionary && is_typed p.id p.value dictionary) (is_within p.id p.value dictionary) h).0).0

  -- a pair that is clean where it fits
  abbrev pub CleanWhereFits : Pair → Type 0
  CleanWhereFits p = fits p dictionary ≡ true → is_clean_pair dictionary p ≡ true

  clean_from : (p : Pair) → is_container p.id ≡ false → (fits p dictionary ≡ true → is_canonical p dictionary ≡ true) → CleanWhereFits p
  clean_from p own canonical h = let same = canonical h in rw (same, own)

  -- each value that a source gives the name's attribute is clean where it fits
  abbrev SourceClean : Target → Source → Type 0
  SourceClean name from = (captures : Captures) (s : State) (v : Value) → source_value dictionary s name.named.id (filled_source captures from) ≡ Ok v → CleanWhereFits (pair_of name.named.id v)

  module _ (sound : IsSound dictionary) (clean : SpelledValuesClean dictionary) where
    -- ---- spelled values

    spelled_clean : (name : Named) (text : List ℕ) (v : Value) → value_spelled name text dictionary ≡ Ok v → CleanWhereFits (pair_of name.id v)
    spelled_clean name text v e h = clean name text v (known_of (pair_of name.id v) h) e

    written_clean : (profile : Profile) (name : Target) (text : List ℕ) (v : Value) → value_written profile name text None dictionary ≡ Ok v → CleanWhereFits (pair_of name.named.id v)
    written_clean profile name text v e h = forms.written_clean dictionary sound profile name text None v (known_of (pair_of name.named.id v) h) e

    literal_clean : (profile : Profile) (name : Target) (text : List ℕ) (v : Value) → literal profile dictionary name text ≡ Some v → SourceClean name (source.Literal v)
    literal_clean profile name text v e captures s w is = written_clean profile name text w ((literal_is profile dictionary name text v e).0 ∙ ap Ok (ok_is v w is))

    text_clean : (profile : Profile) (name : Target) (parts : List Part) → SourceClean name (text_source profile name parts)
    text_clean Plain name parts captures s v e =
        let text = parts_text dictionary s (map (filled_part captures) parts) in
        spelled_clean name.named text v (given_from (value_spelled name.named text dictionary) v e)
    text_clean Wider name parts captures s v e =
        let text = parts_text dictionary s (map (filled_part captures) parts) in
        written_clean Wider name text v (given_from (value_written Wider name text None dictionary) v e)

    -- ---- values of other instances

    abbrev CanonicalWhereFits : AttrId → Value → Type 0
    CanonicalWhereFits id v = fits (pair_of id v) dictionary ≡ true → is_canonical (pair_of id v) dictionary ≡ true

    read_canonical : (id : AttrId) (os : List ℕ) (v : Value) → read_value id os dictionary ≡ Some v → CanonicalWhereFits id v
    read_canonical id os v e h = let of_type = read_value_sized dictionary id os v e in typed_canonical dictionary id v of_type.0 of_type.1 h

    kind_canonical : (kind : Option Kind) (id : AttrId) (os : List ℕ) (v : Value) → kind_of id dictionary ≡ kind → read_by_kind kind id os dictionary ≡ Some v → CanonicalWhereFits id v
    kind_canonical None id os v k e = subst (CanonicalWhereFits id) (some_is (values.Raw os) v e) (raw_canonical dictionary id os k)
    kind_canonical (Some kinds.Text) id os v k e = subst (CanonicalWhereFits id) (some_is (values.Text os) v e) (typed_canonical dictionary id (values.Text os) refl tt)
    kind_canonical (Some kinds.Bytes) id os v k e = subst (CanonicalWhereFits id) (some_is (values.Bytes os) v e) (typed_canonical dictionary id (values.Bytes os) refl tt)
    kind_canonical (Some _) id os v k e = read_canonical id os v e

    -- what is read of octets by the id's type
    octets_clean : (id : AttrId) → is_container id ≡ false → (os : List ℕ) (v : Value) → given (unless_long id dictionary (read_by_kind (kind_of id dictionary) id os dictionary)) ≡ Ok v → CleanWhereFits (pair_of id v)
    octets_clean id own os v e =
        let read = read_by_kind (kind_of id dictionary) id os dictionary in
        clean_from (pair_of id v) own (kind_canonical (kind_of id dictionary) id os v refl (read_from id read v (given_from (unless_long id dictionary read) v e)))

    instance_from : (id : AttrId) → is_container id ≡ false → (o : Option Pair) (v : Value) → instance_value dictionary id o ≡ Ok v → CleanWhereFits (pair_of id v)
    instance_from id own None v e = absurd cc
    instance_from id own (Some p) v e = octets_clean id own (octets p.id p.value dictionary) v e

    tagged_from : (id : AttrId) → is_container id ≡ false → (form : Form) (tag : ℕ) (o : Option Pair) (v : Value) → tagged_value dictionary id form tag o ≡ Ok v → CleanWhereFits (pair_of id v)
    tagged_from id own form tag None v e = absurd cc
    tagged_from id own form tag (Some p) v e = octets_clean id own (retagged form tag (octets p.id p.value dictionary)) v e

    instance_clean : (profile : Profile) (name : Target) → is_container name.named.id ≡ false → (found : Reference) → SourceClean name (instance_source profile dictionary name found)
    instance_clean Plain name own found captures s v e = instance_from name.named.id own (first_instance found.target.named.id (list_of found.list s)) v e
    instance_clean Wider name own found captures s v e =
        tagged_from name.named.id own (shared_form dictionary name.named.id found.target.named.id) (unwrap_or name.tag 0)
        (first_selected_instance (selection_of dictionary found.target) found.target.named.id (list_of found.list s)) v e

    -- ---- update lines

    source_by_clean : (profile : Profile) (b : Bool) (name : Target) → b ≡ false → Holds (SourceClean name) (SourceBy b profile dictionary name)
    source_by_clean profile true name stays p from rest h = absurd cc
    source_by_clean profile false name stays p from rest h =
        value_holds profile dictionary name (SourceClean name) (literal_clean profile name) (text_clean profile name) (instance_clean profile name h.0) p from rest h.1

    line_clean : (line : Line) (name : Target) → name.named.id ≡ line.id → (is_removal line.op ≡ false → SourceClean name line.source) → Adds dictionary CleanWhereFits line
    unfolding resolution
    line_clean line name same values_clean captures s p stays e =
        let from = filled_source captures line.source in
        let made = paired_from line.id (source_value dictionary s line.id from) p e in
        subst CleanWhereFits made.2 (subst (λ (id : AttrId). source_value dictionary s id from ≡ Ok made.0 → CleanWhereFits (pair_of id made.0)) same (values_clean stays captures s made.0) made.1)

    pub lines_clean : (profile : Profile) (own : Name) → Holds (Adds dictionary CleanWhereFits) (LineIs profile dictionary own)
    lines_clean profile own p line rest h =
        let name = h.2.0.target in
        let operation = h.2.3.0 in
        subst (Adds dictionary CleanWhereFits) (sym h.2.3.3.3.0)
        (line_clean (line_of (next_token p).1.line h.2.0 operation (line_selection profile dictionary operation name) h.2.3.3.0) name refl (λ stays. source_by_clean profile (is_removal operation) name stays h.2.3.1 h.2.3.3.0 h.2.3.3.1 h.2.3.3.2))
