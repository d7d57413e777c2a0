use Rattle.std.proofs.Common.{◌∷◌, [], ap, option_and_then, option_map, refl, slice_get, sym, ◌∙◌}
use Rattle.avp_lists.specs.Pairs.{id_eq}
use Rattle.avp_dict.specs.Dictionary.{id_of_line, is_attribute_named, last_where}
use Rattle.avp_dict.specs.internal.Agreeing.{differs}
use Rattle.avp_dict.proofs.AgreeingLines.{other_id}
use Rattle.avp_dict.proofs.LastPlaces.{found_before}
use Rattle.avp_dict.proofs.tables.attributes.Attributes.push_agreeing.Goals as goal

pub returns-clause-other : goal.returns-clause-other
returns-clause-other c =
    let line = c.args.line in
    let test = is_attribute_named line.name in
    let before = c.args.self.now in
    let place = c.in_ok-place.place in
    let found = ap (λ lines. option_and_then (slice_get lines) place) c.in_ok-place.ensures.line ∙ found_before test before (line ∷ []) place c.in_ok-place.ensures.before in
    c.is_of_other_id.ensures
    ∙ ap (differs id_eq line.id) (c.id_at.ensures ∙ ap (option_map id_of_line) found)
    ∙ sym (other_id before line.name line.id c.requires.agreeing (last_where test before) refl)
