-- What is put into texts for what was captured.
use Rattle.std.proofs.Common.{◌≡◌, ℕ, List, [], ◌∷◌, ◌++◌, map, replicate, get_or, Option, None, inl, inr, refl, sym, ap, ap₂, ◌∙◌}
use Rattle.std.proofs.lemmas.Bool.{cases_lt}
use Rattle.std.proofs.lemmas.List.{get_or-replicate, get_or_past}
use Rattle.std.proofs.Math.ListN.{get_or-map}
use Rattle.std.specs.Option.{option_map, unwrap_or}
use Rattle.avp_lists.specs.declared.lists.State.{State}
use Rattle.avp_dict.specs.Dictionary.{Dictionary}
use Rattle.avp_dict.specs.Spellings.{value_spelled}
use Rattle.avp_unlang.specs.Captures.{Captures, captured, filled, filled_part, filled_source, no_captures, octets_at, texts_at}
use Rattle.avp_unlang.specs.Resolutions.{given, line_suits, paired, part_text, parts_text, resolution, source_value, target_by, wider_value}
use Rattle.avp_unlang.specs.declared.tree.Line.{Line}
use Rattle.avp_unlang.specs.declared.tree.Part.{Part}
use Rattle.avp_unlang.specs.declared.tree.Part.TheVariants.{Capture, Instance, Meant, Text}
use Rattle.avp_unlang.specs.declared.tree.Source.{Source}
use Rattle.avp_unlang.specs.declared.tree.Source.TheVariants as source
use Rattle.avp_lists.specs.declared.pairs.AttrId.{AttrId}

-- ---- groups

nothing_at : (group : ℕ) → get_or {A = Option (List ℕ)} (replicate 10 None) group None ≡ None
nothing_at group = elim (cases_lt group 10) [
  | inl lt ↦ get_or-replicate 10 group None None lt
  | inr ge ↦ get_or_past (replicate 10 None) group None ge
]

pub captured_none : (group : ℕ) → captured group no_captures ≡ []
unfolding captured
captured_none group = ap (λ o. unwrap_or o []) (nothing_at group)

-- the octets of a group by its span
pub captured_at : (octets : List ℕ) (spans : List (Option (ℕ × ℕ))) (group : ℕ) → captured group (texts_at octets spans) ≡ unwrap_or (option_map (octets_at octets) (get_or spans group None)) []
unfolding captured
captured_at octets spans group = ap (λ o. unwrap_or o []) (get_or-map (option_map (octets_at octets)) spans group None)

pub group_at : (octets : List ℕ) (spans : List (Option (ℕ × ℕ))) (group : ℕ) (found : Option (ℕ × ℕ)) → found ≡ get_or spans group None → unwrap_or (option_map (octets_at octets) found) [] ≡ captured group (texts_at octets spans)
group_at octets spans group found is = ap (λ o. unwrap_or (option_map (octets_at octets) o) []) is ∙ sym (captured_at octets spans group)

-- ---- texts where nothing was captured

part_unfilled : (dictionary : Dictionary) (s : State) (part : Part) → part_text dictionary s (filled_part no_captures part) ≡ part_text dictionary s part
part_unfilled dictionary s (Text octets) = refl
part_unfilled dictionary s (Instance list id) = refl
part_unfilled dictionary s (Meant list id selection) = refl
part_unfilled dictionary s (Capture group) = captured_none group

parts_unfilled : (dictionary : Dictionary) (s : State) (parts : List Part) → parts_text dictionary s (map (filled_part no_captures) parts) ≡ parts_text dictionary s parts
parts_unfilled dictionary s [] = refl
parts_unfilled dictionary s (part ∷ parts) = ap₂ (λ a b. a ++ b) (part_unfilled dictionary s part) (parts_unfilled dictionary s parts)

source_unfilled : (dictionary : Dictionary) (s : State) (id : AttrId) (from : Source) → source_value dictionary s id (filled_source no_captures from) ≡ source_value dictionary s id from
source_unfilled dictionary s id (source.Text raw parts) = ap (λ text. given (value_spelled (record { id = id; raw = raw }) text dictionary)) (parts_unfilled dictionary s parts)
source_unfilled dictionary s id (source.WiderText raw tag parts) = ap (wider_value dictionary (target_by id raw tag)) (parts_unfilled dictionary s parts)
source_unfilled dictionary s id from = refl

pub resolution_unfilled : (dictionary : Dictionary) (line : Line) (s : State) → resolution dictionary (filled no_captures line) s ≡ resolution dictionary line s
unfolding resolution
resolution_unfilled dictionary line s = ap (paired line.id) (source_unfilled dictionary s line.id line.source)

-- what is put into its text changes nothing of what a line suits
pub filled_suits : (dictionary : Dictionary) (captures : Captures) (line : Line) → line_suits dictionary (filled captures line) ≡ line_suits dictionary line
unfolding line_suits
filled_suits dictionary captures line = elim line.source as (λ from. line_suits dictionary (record line { source = filled_source captures from }) ≡ line_suits dictionary (record line { source = from })) [
  | source.Literal value ↦ refl
  | source.Text raw parts ↦ refl
  | source.WiderText raw tag parts ↦ refl
  | source.Instance list id ↦ refl
  | source.Tagged list id selection form tag ↦ refl
  | source.Any ↦ refl
]
