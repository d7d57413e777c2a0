-- A condition that fits the dictionary can be tested in each state that does.
use Rattle.std.proofs.Common.{◌≡◌, ◌≤◌, ℕ, nat_le, length, arith, Bool, true, false, not, min, ◌&&◌, ◌||◌, cond, List, [], ◌∷◌, Option, Some, None, filter, refl, sym, ap, ◌∙◌, map, subst}
use Rattle.std.specs.Prelude.{IfSome, All as Each, is_some}
use Rattle.std.specs.List.{list_all}
use Rattle.std.specs.Option.{option_map, option_map_or, unwrap_or}
use Rattle.avp_lists.specs.Instances.{first_instance, front, has_id}
use Rattle.avp_lists.specs.Selections.{first_selected_instance}
use Rattle.avp_lists.specs.States.{list_of}
use Rattle.avp_lists.specs.declared.pairs.AttrId.{AttrId}
use Rattle.avp_lists.specs.declared.pairs.Pair.{Pair}
use Rattle.avp_lists.specs.declared.pairs.Value.{Value}
use Rattle.avp_lists.specs.declared.pairs.Value.TheVariants as values
use Rattle.avp_lists.specs.declared.lists.List.{List as Name}
use Rattle.avp_lists.specs.declared.lists.State.{State}
use Rattle.avp_dict.specs.Limits.{fits, is_known, is_of_kind, is_typed, is_within}
use Rattle.avp_dict.specs.Octets.{ends_in_nul, is_hidden, kind_of, max_hidden_octets, octets}
use Rattle.avp_dict.specs.Sent.{is_container}
use Rattle.avp_forms.specs.Expansions.{has_few_digits, is_printed_by_type, is_short_enough}
use Rattle.avp_dict.specs.declared.entries.Kind.{Kind}
use Rattle.avp_dict.specs.declared.entries.Kind.TheVariants as kinds
use Rattle.avp_dict.specs.Dictionary.{Dictionary}
use Rattle.avp_unlang.specs.Suiting.{cond_suits, cond_layer_suits, comparand_suits, comparison_suits, itself, part_suits, same_kind, side_suits}
use Rattle.avp_unlang.specs.References.{type_of}
use Rattle.avp_unlang.specs.Resolutions.{StateFits, pair_of}
use Rattle.avp_unlang.specs.Truth.{comparable_by, compared_with, cond_comparable_by, first_value, is_alike, is_comparable, is_printable_at, part_printable, side_printable, value_in}
use Rattle.avp_dict.specs.Limits.{greatest_length, max_octets, vendor_room}
use Rattle.avp_dict.specs.AttributeNumbers.{max_plain}
use Rattle.avp_dict.specs.Names.{vendor_format}
use Rattle.avp_dict.specs.declared.entries.Format.{Format}
use Rattle.avp_lists.specs.Tags.{is_selected}
use Rattle.avp_lists.specs.declared.pairs.AttrId.TheVariants as ids
use Rattle.avp_lists.specs.declared.tags.Selection.{Selection}
use Rattle.avp_lists.specs.declared.tags.Selection.TheVariants as selections
use Rattle.avp_unlang.specs.PatternTruth.{instance_in, is_matchable_by}
use Rattle.avp_unlang.specs.declared.tree.Matching.{Matching}
use Rattle.std.proofs.lemmas.Bool.{not-true}
use Rattle.std.proofs.lemmas.Bool.Decides.{nat_tests}
use Rattle.avp_unlang.specs.declared.tree.Part.{Part}
use Rattle.avp_unlang.specs.declared.tree.Part.TheVariants as part
use Rattle.avp_unlang.specs.declared.tree.TextSide.{TextSide}
use Rattle.avp_unlang.specs.declared.tree.TextSide.TheVariants as side
use Rattle.avp_unlang.specs.declared.tree.Comparand.{Comparand}
use Rattle.avp_unlang.specs.declared.tree.Comparand.TheVariants.{Literal, Instance}
use Rattle.avp_unlang.specs.declared.tree.Comparison.{Comparison}
use Rattle.avp_unlang.specs.declared.tree.Cond.{Cond}
use Rattle.avp_unlang.specs.declared.tree.Cond.TheFolds.{fold-roll-Cond, ind-Cond, map-Cond}
use Rattle.avp_unlang.specs.declared.tree.Cond.TheOpen.{Cond-F, Any, All, Not, Last, Present, PresentSelected, Compare, CompareMeant, CompareTexts, Match, MatchText, MatchGroup, Captured}
use Rattle.avp_unlang.specs.declared.tree.Cond.TheViews.{roll-Cond}
use Rattle.std.proofs.lemmas.List.Elements.{All-head, All-tail}
use Rattle.avp_lists.proofs.Equality.{same_id}

pub and_left : (a b : Bool) → (a && b) ≡ true → a ≡ true
and_left true b h = refl
and_left false b h = h

pub and_right : (a b : Bool) → (a && b) ≡ true → b ≡ true
and_right true b h = h
and_right false b h = cc

-- ---- types

pub same_kinds : (a b : Kind) → same_kind a b ≡ true → a ≡ b
same_kinds kinds.Text kinds.Text h = refl
same_kinds kinds.Bytes kinds.Bytes h = refl
same_kinds kinds.Addr kinds.Addr h = refl
same_kinds kinds.Integer kinds.Integer h = refl
same_kinds kinds.Date kinds.Date h = refl
same_kinds kinds.Byte kinds.Byte h = refl
same_kinds kinds.Short kinds.Short h = refl
same_kinds kinds.Signed kinds.Signed h = refl
same_kinds kinds.Integer64 kinds.Integer64 h = refl
same_kinds kinds.Ether kinds.Ether h = refl
same_kinds _ _ h = cc

typed_alike : (v : Value) (o : Option Kind) → option_map_or (is_of_kind v) o false ≡ true → is_of_kind v (unwrap_or o kinds.Bytes) ≡ true
typed_alike v None h = cc
typed_alike v (Some k) h = h

or_right : (a b : Bool) → b ≡ true → (a || b) ≡ true
or_right true b h = refl
or_right false b h = h

module _ (dictionary : Dictionary) where
  alike_typed : (id : AttrId) (v : Value) → is_typed id v dictionary ≡ true → is_alike (type_of dictionary id) v ≡ true
  alike_typed id (values.Raw os) h = refl
  alike_typed id (values.Text os) h = typed_alike (values.Text os) (kind_of id dictionary) h
  alike_typed id (values.Bytes os) h = typed_alike (values.Bytes os) (kind_of id dictionary) h
  alike_typed id (values.Int n) h = typed_alike (values.Int n) (kind_of id dictionary) h
  alike_typed id (values.Signed z) h = typed_alike (values.Signed z) (kind_of id dictionary) h
  alike_typed id (values.Addr os) h = typed_alike (values.Addr os) (kind_of id dictionary) h
  alike_typed id (values.Ether os) h = typed_alike (values.Ether os) (kind_of id dictionary) h

  alike_fits : (id : AttrId) (v : Value) → fits (pair_of id v) dictionary ≡ true → is_alike (type_of dictionary id) v ≡ true
  unfolding fits
  alike_fits id v h = alike_typed id v (and_right (is_known id dictionary) (is_typed id v dictionary) (and_left (is_known id dictionary && is_typed id v dictionary) (is_within id v dictionary) h))

  -- ---- first instances

  first_by : (id : AttrId) (p : Pair) (ps : List Pair) (b : Bool) → has_id id p ≡ b → fits p dictionary ≡ true → IfSome (first_instance id ps) (λ q. (fits q dictionary ≡ true) × (has_id id q ≡ true)) → IfSome (front (cond b (p ∷ filter (has_id id) ps) (filter (has_id id) ps))) (λ q. (fits q dictionary ≡ true) × (has_id id q ≡ true))
  first_by id p ps true e h others = (h, e)
  first_by id p ps false e h others = others

  first_both : (id : AttrId) (pairs : List Pair) → Each (λ p. fits p dictionary ≡ true) pairs → IfSome (first_instance id pairs) (λ p. (fits p dictionary ≡ true) × (has_id id p ≡ true))
  first_both id [] h = tt
  first_both id (p ∷ ps) h =
      first_by id p ps (has_id id p) refl (All-head (λ q. fits q dictionary ≡ true) p ps h) (first_both id ps (All-tail (λ q. fits q dictionary ≡ true) p ps h))

  alike_of : (id : AttrId) (k : Kind) (o : Option Pair) → k ≡ type_of dictionary id → IfSome o (λ p. (fits p dictionary ≡ true) × (has_id id p ≡ true)) → option_map_or (is_alike k) (option_map value_in o) true ≡ true
  alike_of id k None e h = refl
  alike_of id k (Some p) e h =
      let same : p.id ≡ id = same_id p.id id h.1 in
      ap (λ x. is_alike x p.value) e ∙ alike_fits id p.value (ap (λ x. fits (pair_of x p.value) dictionary) (sym same) ∙ h.0)

  first_alike : (s : State) (list : Name) (id : AttrId) (k : Kind) → StateFits dictionary s → k ≡ type_of dictionary id → option_map_or (is_alike k) (first_value list id s) true ≡ true
  first_alike s list id k fit e = alike_of id k (first_instance id (list_of list s)) e (first_both id (list_of list s) (fit list))

  compared_alike : (s : State) (c : Comparison) (with : Comparand) → StateFits dictionary s → c.kind ≡ type_of dictionary c.id → comparand_suits dictionary c with ≡ true → option_map_or (is_alike c.kind) (compared_with with s) true ≡ true
  compared_alike s c (Literal v) fit e h = ap (λ k. is_alike k v) e ∙ alike_fits c.id v h
  compared_alike s c (Instance list id) fit e h = first_alike s list id c.kind fit (same_kinds c.kind (type_of dictionary id) h)

  comparison_comparable : (s : State) (c : Comparison) → StateFits dictionary s → comparison_suits dictionary c ≡ true → is_comparable c s ≡ true
  comparison_comparable s c fit h =
      let same : c.kind ≡ type_of dictionary c.id = same_kinds c.kind (type_of dictionary c.id) (and_left (same_kind c.kind (type_of dictionary c.id)) (comparand_suits dictionary c c.comparand) h) in
      let other = and_right (same_kind c.kind (type_of dictionary c.id)) (comparand_suits dictionary c c.comparand) h in
      rw (first_alike s c.list c.id c.kind fit same) (compared_alike s c c.comparand fit same other)

  -- ---- comparisons with a pattern

  pub room_most : (id : AttrId) → max_octets id dictionary ≤ 4012
  unfolding max_octets
  room_most (ids.Plain n) = elim (nat_le n max_plain) as (λ b. cond b 253 4012 ≤ 4012) [ true ↦ omega arith | false ↦ omega arith ]
  room_most (ids.Vendor vendor n) = vendor_most (vendor_format vendor dictionary)
    where
      vendor_most : (o : Option Format) → option_map_or vendor_room o 0 ≤ 4012
      vendor_most None = omega arith
      vendor_most (Some f) = omega arith
  room_most (ids.Extended t n) =
      elim (nat_le 241 t && nat_le t 244) as (λ b. cond b 252 (cond (nat_le 245 t && nat_le t 246) 4012 0) ≤ 4012) [
        | true ↦ omega arith
        | false ↦ elim (nat_le 245 t && nat_le t 246) as (λ b. cond b 4012 0 ≤ 4012) [ true ↦ omega arith | false ↦ omega arith ]
      ]

  raw_short : (id : AttrId) (os : List ℕ) → nat_le (length os) (max_octets id dictionary) ≡ true → nat_le (length os) 4012 ≡ true
  raw_short id os h = let most = room_most id in grind (arith, nat_tests)

  -- a value that fits has no more octets than its attribute may have
  within_most : (id : AttrId) → greatest_length id dictionary ≤ 4012
  unfolding greatest_length
  within_most id =
      elim (is_hidden id dictionary) as (λ b. cond b (min max_hidden_octets (max_octets id dictionary)) (max_octets id dictionary) ≤ 4012) [
        | true ↦ omega (arith, room_most id)
        | false ↦ room_most id
      ]

  typed_short : (id : AttrId) (os : List ℕ) (b : Bool) → (nat_le (length os) (greatest_length id dictionary) && b) ≡ true → nat_le (length os) 4012 ≡ true
  typed_short id os b h =
      let short = and_left (nat_le (length os) (greatest_length id dictionary)) b h in
      let most = within_most id in
      grind (arith, nat_tests)

  pub value_short : (id : AttrId) (v : Value) → is_within id v dictionary ≡ true → is_short_enough v ≡ true
  unfolding octets
  value_short id (values.Raw os) within = raw_short id os within
  value_short id (values.Text os) within = typed_short id os (not (is_hidden id dictionary && ends_in_nul os)) within
  value_short id (values.Bytes os) within = typed_short id os (not (is_hidden id dictionary && ends_in_nul os)) within
  value_short id _ within = refl

  few_short : (v : Value) → is_short_enough v ≡ true → has_few_digits v ≡ true
  few_short (values.Raw os) h = h
  few_short (values.Bytes os) h = h
  few_short _ h = refl

  has_kind : (v : Value) (o : Option Kind) → option_map_or (is_of_kind v) o false ≡ true → is_some o ≡ true
  has_kind v None h = cc
  has_kind v (Some k) h = refl

  has_values : (id : AttrId) (v : Value) → is_container id ≡ false → option_map_or (is_of_kind v) (kind_of id dictionary) false ≡ true → (false || (not (is_container id) && is_some (kind_of id dictionary))) ≡ true
  has_values id v values h = rw (values, has_kind v (kind_of id dictionary) h) refl

  pub value_printed : (id : AttrId) (v : Value) → is_container id ≡ false → is_typed id v dictionary ≡ true → is_printed_by_type id v dictionary ≡ true
  value_printed id (values.Text os) plain typed = refl
  value_printed id (values.Bytes os) plain typed = refl
  value_printed id (values.Raw os) plain typed = refl
  value_printed id (values.Int n) plain typed = has_values id (values.Int n) plain typed
  value_printed id (values.Signed z) plain typed = has_values id (values.Signed z) plain typed
  value_printed id (values.Addr os) plain typed = has_values id (values.Addr os) plain typed
  value_printed id (values.Ether os) plain typed = has_values id (values.Ether os) plain typed

  matchable_fits : (p : Pair) → is_container p.id ≡ false → fits p dictionary ≡ true → is_matchable_by dictionary p ≡ true
  unfolding fits
  matchable_fits p values h =
      let known_typed = and_left (is_known p.id dictionary && is_typed p.id p.value dictionary) (is_within p.id p.value dictionary) h in
      let within = and_right (is_known p.id dictionary && is_typed p.id p.value dictionary) (is_within p.id p.value dictionary) h in
      rw (few_short p.value (value_short p.id p.value within), value_printed p.id p.value values (and_right (is_known p.id dictionary) (is_typed p.id p.value dictionary) known_typed)) refl

  selected_id : (selection : Selection) (id : AttrId) (p : Pair) → is_selected selection id p ≡ true → has_id id p ≡ true
  selected_id selections.All id p h = h
  selected_id (selections.EachTag tagging) id p h = h
  selected_id (selections.Tag tagging n) id p h = and_left (has_id id p) _ h

  passes_by : (f : Pair → Bool) (p : Pair) (ps : List Pair) (b : Bool) → f p ≡ b → fits p dictionary ≡ true → IfSome (front (filter f ps)) (λ q. (fits q dictionary ≡ true) × (f q ≡ true)) → IfSome (front (cond b (p ∷ filter f ps) (filter f ps))) (λ q. (fits q dictionary ≡ true) × (f q ≡ true))
  passes_by f p ps true e h others = (h, e)
  passes_by f p ps false e h others = others

  first_passes : (f : Pair → Bool) (pairs : List Pair) → Each (λ p. fits p dictionary ≡ true) pairs → IfSome (front (filter f pairs)) (λ p. (fits p dictionary ≡ true) × (f p ≡ true))
  first_passes f [] h = tt
  first_passes f (p ∷ ps) h =
      passes_by f p ps (f p) refl (All-head (λ q. fits q dictionary ≡ true) p ps h) (first_passes f ps (All-tail (λ q. fits q dictionary ≡ true) p ps h))

  printable_of : (id : AttrId) (selection : Selection) (o : Option Pair) → is_container id ≡ false → IfSome o (λ p. (fits p dictionary ≡ true) × (is_selected selection id p ≡ true)) → option_map_or (is_matchable_by dictionary) o true ≡ true
  printable_of id selection None values h = refl
  printable_of id selection (Some p) values h =
      let same : p.id ≡ id = same_id p.id id (selected_id selection id p h.1) in
      matchable_fits p (ap (λ i. is_container i) same ∙ values) h.0

  printable_first : (s : State) (list : Name) (id : AttrId) (selection : Selection) → StateFits dictionary s → is_container id ≡ false → is_printable_at dictionary list id selection s ≡ true
  printable_first s list id selection fit values =
      printable_of id selection (first_selected_instance selection id (list_of list s)) values (first_passes (is_selected selection id) (list_of list s) (fit list))

  matchable_first : (s : State) (m : Matching) → StateFits dictionary s → is_container m.id ≡ false → option_map_or (is_matchable_by dictionary) (instance_in m s) true ≡ true
  matchable_first s m fit values = printable_first s m.list m.id m.selection fit values

  -- ---- texts

  both_hold : (a b : Bool) → a ≡ true → b ≡ true → (a && b) ≡ true
  both_hold a b e f = rw e f

  part_is_printable : (s : State) → StateFits dictionary s → (x : Part) → part_suits x ≡ true → part_printable dictionary s x ≡ true
  part_is_printable s fit (part.Text os) h = refl
  part_is_printable s fit (part.Instance list id) h = cc
  part_is_printable s fit (part.Meant list id selection) h = printable_first s list id selection fit (not-true (is_container id) h)
  part_is_printable s fit (part.Capture group) h = refl

  parts_are_printable : (s : State) → StateFits dictionary s → (xs : List Part) → list_all part_suits xs ≡ true → list_all (part_printable dictionary s) xs ≡ true
  parts_are_printable s fit [] h = refl
  parts_are_printable s fit (x ∷ xs) h =
      both_hold (part_printable dictionary s x) (list_all (part_printable dictionary s) xs)
      (part_is_printable s fit x (and_left (part_suits x) (list_all part_suits xs) h)) (parts_are_printable s fit xs (and_right (part_suits x) (list_all part_suits xs) h))

  side_is_printable : (s : State) → StateFits dictionary s → (x : TextSide) → side_suits dictionary x ≡ true → side_printable dictionary s x ≡ true
  side_is_printable s fit (side.Text parts) h = parts_are_printable s fit parts h
  side_is_printable s fit (side.Instance list id selection) h = refl

  -- ---- conditions

  module _ (s : State) (fit : StateFits dictionary s) where
    abbrev IsTestable : Cond → Type 0
    IsTestable c = cond_suits dictionary c ≡ true → comparable_by dictionary c s ≡ true

    abbrev Such : Type 0
    Such = (c : Cond) × IsTestable c

    abbrev the_conds : List Such → List Cond
    the_conds es = map (λ e. e.0) es

    abbrev layer : Cond-F Such → Cond-F Cond
    layer = map-Cond Such Cond (λ e. e.0)

    all_testable : (es : List Such) → list_all itself (map (cond_suits dictionary) (the_conds es)) ≡ true → list_all (λ (test : State → Bool). test s) (map (comparable_by dictionary) (the_conds es)) ≡ true
    all_testable [] h = refl
    all_testable (e ∷ es) h =
        let rest = list_all itself (map (cond_suits dictionary) (the_conds es)) in
        rw (e.1 (and_left (cond_suits dictionary e.0) rest h)) (all_testable es (and_right (cond_suits dictionary e.0) rest h))

    layer_testable : (y : Cond-F Such) → cond_layer_suits dictionary (map-Cond Cond Bool (cond_suits dictionary) (layer y)) ≡ true → cond_comparable_by dictionary (map-Cond Cond (State → Bool) (comparable_by dictionary) (layer y)) s ≡ true
    layer_testable (Any parts) h = all_testable parts h
    layer_testable (All parts) h = all_testable parts h
    layer_testable (Not part) h = part.1 h
    layer_testable (Last word) h = refl
    layer_testable (Present list id) h = refl
    layer_testable (PresentSelected list id selection) h = refl
    layer_testable (CompareMeant c) h = refl
    layer_testable (CompareTexts c) h =
        both_hold (side_printable dictionary s c.left) (list_all (part_printable dictionary s) c.right)
        (side_is_printable s fit c.left (and_left (side_suits dictionary c.left) (list_all part_suits c.right) h))
        (parts_are_printable s fit c.right (and_right (side_suits dictionary c.left) (list_all part_suits c.right) h))
    layer_testable (Match m) h = matchable_first s m fit (not-true (is_container m.id) h)
    layer_testable (MatchText m) h = matchable_first s m fit (not-true (is_container m.id) h)
    layer_testable (MatchGroup m) h = refl
    layer_testable (Compare c) h = comparison_comparable s c fit h
    layer_testable (Captured group) h = refl

    rolled : (x : Cond-F Cond) → (cond_layer_suits dictionary (map-Cond Cond Bool (cond_suits dictionary) x) ≡ true → cond_comparable_by dictionary (map-Cond Cond (State → Bool) (comparable_by dictionary) x) s ≡ true) → IsTestable (roll-Cond x)
    unfolding cond_suits comparable_by
    rolled x h fitting =
        ap (λ (t : State → Bool). t s) (fold-roll-Cond (State → Bool) (cond_comparable_by dictionary) x)
        ∙ h (sym (fold-roll-Cond Bool (cond_layer_suits dictionary) x) ∙ fitting)

    -- each condition that fits can be tested
    pub testable : (c : Cond) → cond_suits dictionary c ≡ true → comparable_by dictionary c s ≡ true
    testable = ind-Cond IsTestable (λ x y is. subst (λ z. IsTestable (roll-Cond z)) is (rolled (layer y) (layer_testable y)))
