-- A dictionary that was read is sound.
use Rattle.std.proofs.Common.{◌≡◌, ℕ, true, false, not, ◌&&◌, ◌==◌, nat_le, List, [], ◌∷◌, ◌++◌, filter, length, get_or, Option, Some, None, Result, Ok, Err, refl, subst, arith, option_and_then, IfSome}
use Rattle.std.specs.List.{All, list_all, list_any}
use Rattle.std.proofs.Math.Bool.{and-false}
use Rattle.std.proofs.lemmas.Bool.{and_parts, cond_both, not-false, not-true}
use Rattle.std.proofs.lemmas.List.Elements.{All-nil, All-push, All-filter, filter_passes}
use Rattle.avp_lists.specs.declared.pairs.AttrId.{AttrId}
use Rattle.avp_lists.specs.declared.pairs.AttrId.TheVariants as ids
use Rattle.avp_lists.specs.Pairs.{id_eq}
use Rattle.avp_dict.specs.declared.entries.AttributeLine.{AttributeLine}
use Rattle.avp_dict.specs.declared.entries.ValueLine.{ValueLine}
use Rattle.avp_dict.specs.declared.entries.Typing.{Typing}
use Rattle.avp_dict.specs.declared.faults.RefusedLine.{RefusedLine}
use Rattle.avp_dict.specs.declared.faults.RefusedWord.{RefusedWord}
use Rattle.avp_dict.specs.declared.file.files.NamedFile.{NamedFile}
use Rattle.avp_dict.proofs.AgreeingLines.{none_passes, values_more}
use Rattle.avp_dict.proofs.LinesRead.{then_both}
use Rattle.avp_dict.proofs.SoundLines.{AllRead, AreRead, IsReadAttribute, is_ranged, none_read, read_lines_read}
use Rattle.avp_dict.specs.Blocks.{innermost}
use Rattle.avp_dict.specs.Dictionary.{Dictionary, id_named, names_other_id, names_other_value, typing_of_id}
use Rattle.avp_dict.specs.DictionaryReading.{outline_of, read_dictionary, settled_dictionary, unless_open}
use Rattle.avp_dict.specs.Letters.{is_value_name_octet, max_name}
use Rattle.avp_dict.specs.Limits.{is_known}
use Rattle.avp_dict.specs.Lines.{lines_of}
use Rattle.avp_dict.specs.Meanings.{Meaning, Value, Reading, Context, context_of}
use Rattle.avp_dict.specs.Readings.{read_lines}
use Rattle.avp_dict.specs.Settled.{is_kept, is_kept_line, skipped_names, used}
use Rattle.avp_dict.specs.Soundness.{IsSound, IsSoundAttribute, IsSoundTagged, IsSoundValue, IsSoundVendor}
use Rattle.avp_dict.specs.Refusals.{refused_at, ◌>>=◌}
use Rattle.avp_dict.specs.Values.{is_noted, is_same_name, is_tagged_integer, is_value_name, max_of_typing, max_tagged_number, reads_as_number, resolve, tagged_line, tagged_value, value_of, value_up_to, with_line, with_note, with_tagged, with_value}
use Rattle.avp_dict.specs.Words.{same_name}

-- ---- the used attributes and the vendors

module _ (context : Context) where
  known_kept : (id : AttrId) → is_ranged id ≡ true → is_kept context.vendors id ≡ true → is_known id (outline_of context) ≡ true
  unfolding is_known
  known_kept (ids.Plain n) ranged kept = refl
  known_kept (ids.Vendor v n) ranged kept = kept
  known_kept (ids.Extended t n) ranged kept = ranged

  outline_attributes : AreRead context → All (IsSoundAttribute (outline_of context)) (used context.vendors context.attributes)
  unfolding used
  outline_attributes are =
      let test = is_kept_line context.vendors in
      λ k d lt.
      let held = All-filter test IsReadAttribute context.attributes are.attributes k d lt in
      let alone = All-filter test (λ a. All (λ b. names_other_id a.name a.id b ≡ false) context.attributes) context.attributes are.agreeing.attributes k d lt in
      let a : AttributeLine = get_or (filter test context.attributes) k d in
      record {
        spelled = held.spelled;
        named = held.named;
        alone = All-filter test (λ b. names_other_id a.name a.id b ≡ false) context.attributes alone;
        known = known_kept a.id held.ranged (filter_passes test context.attributes k d lt);
        hides = held.hides;
        formed = held.formed;
      }

  outline_sound : AreRead context → IsSound (outline_of context)
  outline_sound are = record {
    attributes = outline_attributes are;
    values = All-nil (IsSoundValue []);
    tagged_values = All-nil IsSoundTagged;
    vendors = λ k d lt. (are.vendors k d lt).format;
  }

-- ---- the names of values

value_more : (values : List ValueLine) (new : ValueLine) → All (IsSoundValue values) values → IsSoundValue values new → All (IsSoundValue (values ++ new ∷ [])) (values ++ new ∷ [])
value_more values new are is =
    let alone = values_more values new (λ k d lt. (are k d lt).alone) is.alone in
    let named = All-push (λ v. reads_as_number v.name ≡ false) values new (λ k d lt. (are k d lt).named) is.named in
    λ k d lt. record { named = named k d lt; alone = alone k d lt }

no_number : (name : List ℕ) → not (is_value_name name) ≡ false → reads_as_number name ≡ false
unfolding is_value_name
no_number name h =
    not-true (reads_as_number name) (and_parts (list_all is_value_name_octet name && nat_le (length name) max_name) (not (reads_as_number name)) (not-false (is_value_name name) h)).1

-- what a line adds is sound
abbrev AddsSound : List ValueLine → Result (Option ValueLine) RefusedWord → Type 0
AddsSound values (Ok None) = Unit {0}
AddsSound values (Ok (Some v)) = IsSoundValue values v
AddsSound values (Err kind) = Unit {0}

abbrev pub AllSound : Result Dictionary RefusedLine → Type 0
AllSound (Ok dictionary) = IsSound dictionary
AllSound (Err fault) = Unit {0}

-- ids are known by the vendors alone
known_by_vendors : (id : AttrId) (d e : Dictionary) → d.vendors ≡ e.vendors → is_known id d ≡ is_known id e
unfolding is_known
known_by_vendors (ids.Vendor v n) d e h = rw h
known_by_vendors _ d e h = refl

-- with the same attributes and vendors, and sound values
same_but_values : (d e : Dictionary) → d.attributes ≡ e.attributes → d.vendors ≡ e.vendors → All (IsSoundValue e.values) e.values → All IsSoundTagged e.tagged_values → IsSound d → IsSound e
same_but_values d e attributes vendors values tagged sound = record {
  attributes = subst (All (IsSoundAttribute e)) attributes (λ k x lt.
      let held = sound.attributes k x lt in
      let a : AttributeLine = get_or d.attributes k x in
      record {
        spelled = held.spelled;
        named = held.named;
        alone = subst (All (λ b. names_other_id a.name a.id b ≡ false)) attributes held.alone;
        known = subst (λ known. known ≡ true) (known_by_vendors a.id d e vendors) held.known;
        hides = held.hides;
        formed = held.formed;
      });
  values = values;
  tagged_values = tagged;
  vendors = subst (All IsSoundVendor) vendors sound.vendors;
}

module _ (skipped : List (List ℕ)) (d : Dictionary) (sound : IsSound d) where
  value_up_to_adds : (id : AttrId) (name : List ℕ) (number : ℕ) (most : Option ℕ) → AddsSound d.values (value_up_to d.values id name number most)
  unfolding value_up_to
  value_up_to_adds id name number None = tt
  value_up_to_adds id name number (Some most) =
      cond_both (not (is_value_name name)) _ _ (AddsSound d.values) (λ h. tt) (λ named.
      cond_both (not (nat_le number most)) _ _ (AddsSound d.values) (λ h. tt) (λ within.
      cond_both (list_any (names_other_value id name number) d.values) _ _ (AddsSound d.values) (λ h. tt) (λ alone.
      record { named = no_number name named; alone = none_passes (names_other_value id name number) d.values alone })))

  value_of_adds : (attribute name : List ℕ) (number : ℕ) (id : Option AttrId) → AddsSound d.values (value_of skipped d attribute name number id)
  unfolding value_of
  value_of_adds attribute name number (Some id) = value_up_to_adds id name number (option_and_then max_of_typing (typing_of_id id d.attributes))
  value_of_adds attribute name number None = cond_both (list_any (is_same_name attribute) skipped) _ _ (AddsSound d.values) (λ h. tt) (λ h. tt)

  note_sound : (r : Reading) → IsSound (with_note d r)
  note_sound r = same_but_values d (with_note d r) refl refl sound.values sound.tagged_values sound

  tagged_line_adds : (id : AttrId) (name : List ℕ) (number : ℕ) (typing : Option Typing) → IfSome (tagged_line id name number typing) IsSoundTagged
  tagged_line_adds id name number None = tt
  tagged_line_adds id name number (Some typing) =
      cond_both (is_tagged_integer typing.form && is_value_name name && nat_le number max_tagged_number) _ _ (λ o. IfSome o IsSoundTagged)
      (λ h. no_number name (let named = (and_parts (is_tagged_integer typing.form) (is_value_name name) (and_parts (is_tagged_integer typing.form && is_value_name name) (nat_le number max_tagged_number) h).0).1 in rw named)) (λ h. tt)

  tagged_value_adds : (name : List ℕ) (number : ℕ) (id : Option AttrId) → IfSome (tagged_value d name number id) IsSoundTagged
  unfolding tagged_value
  tagged_value_adds name number None = tt
  tagged_value_adds name number (Some id) = tagged_line_adds id name number (typing_of_id id d.attributes)

  with_tagged_sound : (e : Dictionary) (tagged : Option ValueLine) → IfSome tagged IsSoundTagged → IsSound e → IsSound (with_tagged e tagged)
  with_tagged_sound e None h is = is
  with_tagged_sound e (Some v) h is = same_but_values e (with_tagged e (Some v)) refl refl is.values (All-push IsSoundTagged e.tagged_values v is.tagged_values h) is

  value_sound : (value : Result (Option ValueLine) RefusedWord) (tagged : Option ValueLine) (r : Reading) → AddsSound d.values value → IfSome tagged IsSoundTagged → AllSound (refused_at r.file r.line value >>= λ v. Ok (with_tagged (with_value d r v) tagged))
  value_sound (Ok None) tagged r h t = with_tagged_sound (with_note d r) tagged t (note_sound r)
  value_sound (Ok (Some v)) tagged r h t =
      with_tagged_sound (with_value d r (Some v)) tagged t (same_but_values d (with_value d r (Some v)) refl refl (value_more d.values v sound.values h) sound.tagged_values sound)
  value_sound (Err kind) tagged r h t = tt

  line_sound : (r : Reading) (m : Meaning) → r.meaning ≡ m → AllSound (with_line skipped d r)
  unfolding with_line
  line_sound r (Value attribute name v) e = rw e (value_sound (value_of skipped d attribute name v (id_named attribute d.attributes)) (tagged_value d name v (id_named attribute d.attributes)) r (value_of_adds attribute name v (id_named attribute d.attributes)) (tagged_value_adds name v (id_named attribute d.attributes)))
  line_sound r m e = rw e (cond_both (is_noted d.vendors m) _ _ IsSound (λ noted. note_sound r) (λ other. sound))

resolve_sound : (skipped : List (List ℕ)) (d : Dictionary) (readings : List Reading) → IsSound d → AllSound (resolve skipped d readings)
unfolding resolve
resolve_sound skipped d [] sound = sound
resolve_sound skipped d (r ∷ rs) sound =
    then_both AllSound AllSound (with_line skipped d r) _ (line_sound skipped d sound r r.meaning refl) (λ more is. resolve_sound skipped more rs is) (λ e h. tt)

settled_sound : (readings : List Reading) → AreRead (context_of readings) → AllSound (settled_dictionary readings)
unfolding settled_dictionary
settled_sound readings are = resolve_sound (skipped_names (context_of readings).vendors readings) (outline_of (context_of readings)) readings (outline_sound (context_of readings) are)

-- ---- the dictionary

unless_open_holds : (opened : Option Reading) (lines : List Reading) → AreRead (context_of lines) → AllRead (unless_open opened lines)
unless_open_holds None lines h = h
unless_open_holds (Some r) lines h = tt

pub dictionary_sound : (limit : ℕ) (files : List NamedFile) → AllSound (read_dictionary limit files)
unfolding read_dictionary
dictionary_sound limit files =
    then_both AllRead AllSound (read_lines limit files [] (lines_of files)) _ (read_lines_read limit files [] (lines_of files) none_read) (λ lines are.
    then_both AllRead AllSound (unless_open (innermost (context_of lines).opened) lines) _
    (unless_open_holds (innermost (context_of lines).opened) lines are) settled_sound (λ e h. tt))
    (λ e h. tt)

pub sound_of : (limit : ℕ) (files : List NamedFile) (dictionary : Dictionary) → read_dictionary limit files ≡ Ok dictionary → IsSound dictionary
sound_of limit files dictionary e = subst AllSound e (dictionary_sound limit files)
