use Rattle.std.proofs.Common.{◌∙◌, ℕ, IsTrue, List, is_some, ap, ap₂, subst, sym}
use Rattle.std.specs.Cmp.Lexicographic.{slice_cmp}
use Rattle.std.specs.Option.{unwrap_or}
use Rattle.std.specs.Ordering.{nat_cmp}
use Rattle.avp_dict.specs.Words.{digits}
use Rattle.avp_unlang.specs.Texts.{text_order}
use Rattle.avp_unlang.specs.declared.tree.Part.{Part}
use Rattle.avp_unlang.specs.internal.UnreadTexts.{are_legible, text_around}
use Rattle.avp_unlang.proofs.Comparing.{and_left, and_right}
use Rattle.avp_unlang.proofs.TextSteps.{both_numbers, no_numbers}
use Rattle.avp_unlang.proofs.UnreadOctets.{read_out}
use Rattle.avp_unlang.proofs.meaning.texts.text_order.Goals as goal

pub order_of_numbers-requires : goal.order_of_numbers-requires
order_of_numbers-requires g c =
    let a = c.args.around.now in
    let x = is_some (digits 10 (text_around a c.args.left.now)) in
    let y = is_some (digits 10 (text_around a c.args.right.now)) in
    let both = sym c.are_numerals.ensures ∙ c.if-are_numerals.true in record {
      left = (c.of_parts-unread.ensures.few, subst (λ (ps : List Part). IsTrue (are_legible a ps)) (sym c.of_parts-unread.ensures.parts) c.requires.left);
      right = (c.of_parts-beside.ensures.few, subst (λ (ps : List Part). IsTrue (are_legible a ps)) (sym c.of_parts-beside.ensures.parts) c.requires.right);
      left_number =
          ap (λ os. is_some (digits 10 os)) (read_out a c.of_parts-unread.result c.args.left.now c.of_parts-unread.ensures.nothing c.of_parts-unread.ensures.parts) ∙ and_left x y both;
      right_number =
          ap (λ os. is_some (digits 10 os)) (read_out a c.of_parts-beside.result c.args.right.now c.of_parts-beside.ensures.nothing c.of_parts-beside.ensures.parts) ∙ and_right x y both;
    }

pub returns-then-are_numerals : goal.returns-then-are_numerals
unfolding text_order
returns-then-are_numerals g c =
    let a = c.args.around.now in
    let m = digits 10 (text_around a c.args.left.now) in
    let n = digits 10 (text_around a c.args.right.now) in
    let both = sym c.are_numerals.ensures ∙ c.if-are_numerals.true in
    c.order_of_numbers.ensures
    ∙ ap₂ (λ (xs ys : List ℕ). nat_cmp (unwrap_or (digits 10 xs) 0) (unwrap_or (digits 10 ys) 0))
    (read_out a c.of_parts-unread.result c.args.left.now c.of_parts-unread.ensures.nothing c.of_parts-unread.ensures.parts)
    (read_out a c.of_parts-beside.result c.args.right.now c.of_parts-beside.ensures.nothing c.of_parts-beside.ensures.parts)
    ∙ sym (both_numbers m n (slice_cmp nat_cmp (text_around a c.args.left.now) (text_around a c.args.right.now)) (and_left (is_some m) (is_some n) both) (and_right (is_some m) (is_some n) both))

pub order_of_octets-requires : goal.order_of_octets-requires
order_of_octets-requires g c =
    let a = c.args.around.now in record {
      left = (c.of_parts-unread.ensures.few, subst (λ (ps : List Part). IsTrue (are_legible a ps)) (sym c.of_parts-unread.ensures.parts) c.requires.left);
      right = (c.of_parts-beside.ensures.few, subst (λ (ps : List Part). IsTrue (are_legible a ps)) (sym c.of_parts-beside.ensures.parts) c.requires.right);
    }

pub returns-else-are_numerals : goal.returns-else-are_numerals
unfolding text_order
returns-else-are_numerals g c =
    let a = c.args.around.now in
    let m = digits 10 (text_around a c.args.left.now) in
    let n = digits 10 (text_around a c.args.right.now) in
    c.order_of_octets.ensures
    ∙ ap₂ (λ (xs ys : List ℕ). slice_cmp nat_cmp xs ys)
    (read_out a c.of_parts-unread.result c.args.left.now c.of_parts-unread.ensures.nothing c.of_parts-unread.ensures.parts)
    (read_out a c.of_parts-beside.result c.args.right.now c.of_parts-beside.ensures.nothing c.of_parts-beside.ensures.parts)
    ∙ sym (no_numbers m n (slice_cmp nat_cmp (text_around a c.args.left.now) (text_around a c.args.right.now)) (sym c.are_numerals.ensures ∙ c.if-are_numerals.false))
