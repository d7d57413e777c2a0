use Rattle.std.proofs.Common.{IsTrue, List, Some, ap, subst, sym, ◌∙◌}
use Rattle.avp_unlang.specs.Texts.{order_beside, text_order}
use Rattle.avp_unlang.specs.Truth.{side_printable}
use Rattle.avp_unlang.specs.declared.tree.Part.{Part}
use Rattle.avp_unlang.specs.declared.tree.TextSide.{TextSide}
use Rattle.avp_unlang.specs.internal.UnreadTexts.{are_legible, text_around}
use Rattle.avp_unlang.proofs.meaning.texts.order_beside.Goals as goal

pub text_order-requires : goal.text_order-requires
text_order-requires g c =
    let a = c.args.around.now in record {
      left =
          subst (λ (ps : List Part). IsTrue (are_legible a ps)) (sym c.as_slice.ensures)
          (subst (λ (s : TextSide). IsTrue (side_printable a.dictionary a.state s)) c.in-Text.is c.requires.left);
      right = c.requires.right;
    }

pub returns-in-Text : goal.returns-in-Text
returns-in-Text g c =
    let a = c.args.around.now in
    let text = text_around a c.args.right.now in
    ap Some (c.text_order.ensures ∙ ap (λ (ps : List Part). text_order (text_around a ps) text) c.as_slice.ensures)
    ∙ sym (ap (λ (s : TextSide). order_beside a.dictionary a.state a.captures s text) c.in-Text.is)
