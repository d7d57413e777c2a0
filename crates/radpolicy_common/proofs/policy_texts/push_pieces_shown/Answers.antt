use Rattle.std.proofs.Common.{◌≡◌, ◌∙◌, ℕ, ◌+◌, ◌-◌, ◌<◌, ◌≤◌, List, ◌++◌, length, drop, take, sym, ap, arith, append_assoc}
use Rattle.std.proofs.lemmas.List.{length-drop, take_all}
use Rattle.radpolicy_common.specs.Pieces.{Piece}
use Rattle.radpolicy_common.specs.PolicyTexts.{element_shown, pieces_shown}
use Rattle.radpolicy_common.specs.Secrets.{Redaction}
use Rattle.radpolicy_common.specs.internal.Elements.{element_length}
use Rattle.radpolicy_common.specs.declared.elements.Reading.{Reading}
use Rattle.radpolicy_common.proofs.ElementLaws.{shown_next}
use Rattle.radpolicy_common.proofs.policy_texts.push_pieces_shown.Goals as goal

pub loop-shown-preserved : goal.loop-shown-preserved
loop-shown-preserved c =
    let k : ℕ = c.loop-shown.shown in
    let n : ℕ = c.element_length-count.result in
    let r : Reading = c.args.reading in
    let redaction : Redaction = c.args.redaction.now in
    let pieces : List Piece = c.args.pieces.now in
    let text : List ℕ = c.loop-shown.text.items in
    let within : k < length pieces = omega (arith, c.loop-shown-test.true) in
    let rest : take (length pieces - k) (drop k pieces) ≡ drop k pieces = take_all (length pieces - k) (drop k pieces) (omega (arith, length-drop k pieces)) in
    let same : n ≡ element_length r (drop k pieces) = rw (sym rest) c.element_length-count.ensures.same in
    let no_more : n ≤ length (drop k pieces) = rw (sym rest) c.element_length-count.ensures.within in
    let pushed : c.push_element.new.text.items ≡ text ++ element_shown r redaction (take n (drop k pieces)) = rw (sym rest) c.in_ok-push_element.ensures in
    let next = shown_next r redaction pieces k n within same in (
      omega (arith, within, length-drop k pieces, no_more),
      rw (pushed) (append_assoc text (element_shown r redaction (take n (drop k pieces))) (pieces_shown r redaction (drop (k + n) pieces))
          ∙ ap (λ (shown : List ℕ). text ++ shown) (sym next) ∙ c.loop-shown.invariant.1),
    )
