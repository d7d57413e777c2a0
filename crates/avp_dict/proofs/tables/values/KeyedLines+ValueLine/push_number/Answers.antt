use Rattle.std.proofs.Common.{◌==◌, ◌&&◌, ◌∷◌, [], ap, option_and_then, option_map, refl, slice_get, sym, ◌∙◌}
use Rattle.avp_dict.specs.Dictionary.{is_value_named, last_where, number_of_line}
use Rattle.avp_dict.specs.internal.Agreeing.{differs}
use Rattle.avp_dict.specs.internal.Tables.{same_value_name, value_name_key}
use Rattle.avp_dict.proofs.AgreeingLines.{other_value}
use Rattle.avp_dict.proofs.Folding.{same_folded}
use Rattle.avp_dict.proofs.LastPlaces.{found_before}
use Rattle.avp_dict.proofs.LineTables.{same_key}
use Rattle.avp_dict.proofs.tables.values.KeyedLines+ValueLine.push_number.Goals as goal

pub returns-clause-other : goal.returns-clause-other
returns-clause-other c =
    let line = c.args.line in
    let test = is_value_named line.id line.name in
    let before = c.args.self.now in
    let at = c.in_ok-place.ensures.before test (λ v. (λ i. same_key v.id line.id i && sym (same_folded v.name line.name) i)) in
    let place = c.in_ok-place.place in
    let found = ap (λ lines. option_and_then (slice_get lines) place) c.in_ok-place.ensures.ok ∙ found_before test before (line ∷ []) place at in
    c.differs.ensures
    ∙ ap (differs (λ a b. a == b) line.number) (c.number_at.ensures ∙ ap (option_map number_of_line) found)
    ∙ sym (other_value before line.id line.name line.number c.requires.agreeing (last_where test before) refl)
