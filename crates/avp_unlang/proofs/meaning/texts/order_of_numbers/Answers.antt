use Rattle.std.proofs.Common.{ap, ap₂, sym, ◌∷◌, ◌∙◌}
use Rattle.std.specs.Ordering.{nat_cmp, ordering_then}
use Rattle.std.specs.declared.cmp.Ordering.TheVariants.{Equal}
use Rattle.avp_unlang.specs.internal.UnreadTexts.{unread}
use Rattle.avp_unlang.proofs.TextSteps.{by_length, left_shorter, numbers_end, numbers_start, numbers_step, right_shorter, with_digit}
use Rattle.avp_unlang.proofs.UnreadOctets.{shorter}
use Rattle.avp_unlang.proofs.meaning.texts.order_of_numbers.Goals as goal

pub loop-digit-init : goal.loop-digit-init
loop-digit-init g c = record {
  left = c.next_nonzero-digit.ensures.legible;
  right = c.next_nonzero-beside.ensures.legible;
  so_far =
      ap₂ (by_length Equal) (sym c.next_nonzero-digit.ensures.read) (sym c.next_nonzero-beside.ensures.read)
      ∙ numbers_start (unread c.args.around.now c.args.left) (unread c.args.around.now c.args.right) c.requires.left_number c.requires.right_number;
}

pub returns-in_default-beside : goal.returns-in_default-beside
returns-in_default-beside g c =
    let left = unread c.args.around.now c.loop-digit.left in
    let right = unread c.args.around.now c.loop-digit.right in
    sym (right_shorter c.loop-digit.order c.in-Some.octet left) ∙ ap₂ (by_length c.loop-digit.order) (ap (λ d. with_digit d left) (sym c.in-Some.is)) (ap (λ d. with_digit d right) (sym c.in_default-beside.is)) ∙ c.loop-digit.invariant.so_far

pub returns-in-None : goal.returns-in-None
returns-in-None g c =
    let left = unread c.args.around.now c.loop-digit.left in
    let right = unread c.args.around.now c.loop-digit.right in
    sym (numbers_end c.loop-digit.order) ∙ ap₂ (by_length c.loop-digit.order) (ap (λ d. with_digit d left) (sym c.in_default.is)) (ap (λ d. with_digit d right) (sym c.in-None.is)) ∙ c.loop-digit.invariant.so_far

pub returns-in-Some-beside-2 : goal.returns-in-Some-beside-2
returns-in-Some-beside-2 g c =
    let left = unread c.args.around.now c.loop-digit.left in
    let right = unread c.args.around.now c.loop-digit.right in
    sym (left_shorter c.loop-digit.order c.in-Some-beside-2.field-0 right) ∙ ap₂ (by_length c.loop-digit.order) (ap (λ d. with_digit d left) (sym c.in_default.is)) (ap (λ d. with_digit d right) (sym c.in-Some-beside-2.is)) ∙ c.loop-digit.invariant.so_far

pub loop-digit-preserved : goal.loop-digit-preserved
loop-digit-preserved g c =
    let left = unread c.args.around.now c.loop-digit.left in
    let right = unread c.args.around.now c.loop-digit.right in record {
      left = c.next-digit.ensures.legible;
      right = c.next-beside.ensures.legible;
      so_far =
          ap (λ o. by_length o (with_digit c.next-digit.result (unread c.args.around.now c.next-digit.new.self)) (with_digit c.next-beside.result (unread c.args.around.now c.next-beside.new.self)))
          (c.then-order.ensures ∙ ap (λ o. ordering_then c.loop-digit.order o) c.cmp.ensures)
          ∙ ap₂ (by_length (ordering_then c.loop-digit.order (nat_cmp c.in-Some.octet c.in-Some-beside.other))) (sym c.next-digit.ensures.read) (sym c.next-beside.ensures.read)
          ∙ sym (numbers_step c.loop-digit.order c.in-Some.octet c.in-Some-beside.other left right)
          ∙ ap₂ (by_length c.loop-digit.order) (ap (λ d. with_digit d left) (sym c.in-Some.is)) (ap (λ d. with_digit d right) (sym c.in-Some-beside.is)) ∙ c.loop-digit.invariant.so_far;
    }

pub loop-digit-smaller : goal.loop-digit-smaller
loop-digit-smaller g c =
    let left = unread c.args.around.now c.loop-digit.left in
    shorter (with_digit c.loop-digit.digit left) (with_digit c.next-digit.result (unread c.args.around.now c.next-digit.new.self)) c.in-Some.octet
    (ap (λ d. with_digit d left) c.in-Some.is ∙ ap (λ os. c.in-Some.octet ∷ os) c.next-digit.ensures.read)
