use Rattle.std.proofs.Common.{IsTrue, List, false, ap, subst, sym, ◌∙◌}
use Rattle.std.specs.Option.{option_map_or}
use Rattle.avp_unlang.specs.Relations.{meets}
use Rattle.avp_unlang.specs.Texts.{order_beside}
use Rattle.avp_unlang.specs.Truth.{side_printable}
use Rattle.avp_unlang.specs.declared.tree.Part.{Part}
use Rattle.avp_unlang.specs.internal.UnreadTexts.{are_legible, text_around}
use Rattle.avp_unlang.proofs.Comparing.{and_left, and_right}
use Rattle.avp_unlang.proofs.meaning.texts.is_met_by_texts.Goals as goal

pub order_beside-requires : goal.order_beside-requires
order_beside-requires g c =
    let a = c.args.around.now in
    let left = side_printable a.dictionary a.state c.args.comparison.now.left in
    let right = are_legible a c.args.comparison.now.right in record {
      left = and_left left right c.requires;
      right = subst (λ (ps : List Part). IsTrue (are_legible a ps)) (sym c.as_slice.ensures) (and_right left right c.requires);
    }

pub returns-in-Some : goal.returns-in-Some
returns-in-Some g c =
    let a = c.args.around.now in
    let k = c.args.comparison.now in
    c.meets.ensures
    ∙ ap (λ o. option_map_or (meets k.relation) o false)
    (c.in-Some.ensures ∙ ap (λ (ps : List Part). order_beside a.dictionary a.state a.captures k.left (text_around a ps)) c.as_slice.ensures)

pub returns-in-None : goal.returns-in-None
returns-in-None g c =
    let a = c.args.around.now in
    let k = c.args.comparison.now in
    ap (λ o. option_map_or (meets k.relation) o false)
    (c.in-None.ensures ∙ ap (λ (ps : List Part). order_beside a.dictionary a.state a.captures k.left (text_around a ps)) c.as_slice.ensures)
