use Rattle.std.proofs.Common.{◌≡◌, [], true, false, rules, List, ℕ, Some, is_some, drop, ap, ap₂, sym, ◌∙◌}
use Rattle.std.specs.Cmp.Lexicographic.{slice_cmp}
use Rattle.std.specs.Option.{unwrap_or}
use Rattle.std.specs.Ordering.{nat_cmp}
use Rattle.avp_dict.specs.Words.{is_hexadecimal}
use Rattle.avp_unlang.specs.Texts.{octets_order}
use Rattle.avp_unlang.specs.internal.SpelledOctets.{octets_of_pairs}
use Rattle.avp_unlang.specs.internal.UnreadTexts.{text_around, unread}
use Rattle.avp_unlang.proofs.PairsRead.{digits_beside, no_order, own_unread, plain_beside, some_order}
use Rattle.avp_unlang.proofs.UnreadOctets.{read_out}
use Rattle.avp_unlang.proofs.meaning.texts.order_beside_octets.Goals as goal

pub returns-then-not-is_hexadecimal : goal.returns-then-not-is_hexadecimal
returns-then-not-is_hexadecimal g c =
    let a = c.args.around.now in
    let text = text_around a c.args.right.now in
    let plain : is_hexadecimal text ≡ false = first_of (cc, search rules) in
    ap Some
    (c.order_of_octets.ensures
    ∙ ap₂ (λ (xs ys : List ℕ). slice_cmp nat_cmp xs ys) (own_unread a c.of_octets-left.result c.args.own.now c.of_octets-left.ensures.all c.of_octets-left.ensures.parts)
    (read_out a c.of_parts.result c.args.right.now c.of_parts.ensures.nothing c.of_parts.ensures.parts))
    ∙ sym (ap (octets_order (Some c.args.own.now)) (plain_beside text plain))

pub returns-then-not-are_pairs : goal.returns-then-not-are_pairs
returns-then-not-are_pairs g c =
    let a = c.args.around.now in
    let text = text_around a c.args.right.now in
    let digits : is_hexadecimal text ≡ true = first_of (cc, search rules) in
    let none : is_some (octets_of_pairs (unread a c.after_prefix.result)) ≡ false = first_of (cc, search rules) in
    sym
    (ap (octets_order (Some c.args.own.now)) (digits_beside text digits)
    ∙ no_order c.args.own.now (octets_of_pairs (drop 2 text)) (ap (λ xs. is_some (octets_of_pairs xs)) (sym c.after_prefix.ensures.left) ∙ none))

pub returns : goal.returns
returns g c =
    let a = c.args.around.now in
    let text = text_around a c.args.right.now in
    let digits : is_hexadecimal text ≡ true = first_of (cc, search rules) in
    let some : is_some (octets_of_pairs (unread a c.after_prefix.result)) ≡ true = first_of (cc, search rules) in
    ap Some
    (c.order_of_pairs.ensures
    ∙ ap₂ (λ (xs ys : List ℕ). slice_cmp nat_cmp xs (unwrap_or (octets_of_pairs ys) [])) (own_unread a c.of_octets-left.result c.args.own.now c.of_octets-left.ensures.all c.of_octets-left.ensures.parts)
    c.after_prefix-2.ensures.left)
    ∙ sym
    (ap (octets_order (Some c.args.own.now)) (digits_beside text digits)
    ∙ some_order c.args.own.now (octets_of_pairs (drop 2 text)) (ap (λ xs. is_some (octets_of_pairs xs)) (sym c.after_prefix.ensures.left) ∙ some))
