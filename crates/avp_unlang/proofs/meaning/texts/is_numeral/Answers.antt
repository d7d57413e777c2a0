use Rattle.std.proofs.Common.{◌≡◌, true, false, ap, rules, subst, sym, IsTrue, List, ◌∙◌}
use Rattle.std.specs.Char.{is_ascii_digit}
use Rattle.avp_unlang.specs.declared.tree.Part.{Part}
use Rattle.avp_unlang.specs.internal.UnreadTexts.{are_legible, text_around, unread}
use Rattle.avp_unlang.proofs.TextSteps.{numeral_after, numeral_first, numeral_more, numeral_stops}
use Rattle.avp_unlang.proofs.UnreadOctets.{read_out, shorter}
use Rattle.avp_unlang.proofs.meaning.texts.is_numeral.Goals as goal

pub loop-octet-init : goal.loop-octet-init
loop-octet-init g c = record {
  legible = (c.of_parts-text.ensures.few, subst (λ (ps : List Part). IsTrue (are_legible c.args.around.now ps)) (sym c.of_parts-text.ensures.parts) c.requires);
  so_far =
      ap (numeral_after false) (read_out c.args.around.now c.of_parts-text.result c.args.parts.now c.of_parts-text.ensures.nothing c.of_parts-text.ensures.parts)
      ∙ numeral_first (text_around c.args.around.now c.args.parts.now);
}

pub returns-then-not-is_ascii_digit : goal.returns-then-not-is_ascii_digit
returns-then-not-is_ascii_digit g c =
    let other : is_ascii_digit c.in-Some.octet ≡ false = first_of (cc, search rules) in
    sym (numeral_stops c.loop-octet.is_numeral c.in-Some.octet (unread c.args.around.now c.next.new.self) other)
    ∙ ap (numeral_after c.loop-octet.is_numeral) (sym c.in-Some.ensures.read) ∙ c.loop-octet.invariant.so_far

pub loop-octet-preserved : goal.loop-octet-preserved
loop-octet-preserved g c =
    let digit : is_ascii_digit c.in-Some.octet ≡ true = first_of (cc, search rules) in record {
      legible = c.in-Some.ensures.legible;
      so_far =
          sym (numeral_more c.loop-octet.is_numeral c.in-Some.octet (unread c.args.around.now c.next.new.self) digit) ∙ ap (numeral_after c.loop-octet.is_numeral) (sym c.in-Some.ensures.read)
          ∙ c.loop-octet.invariant.so_far;
    }

pub loop-octet-smaller : goal.loop-octet-smaller
loop-octet-smaller g c = shorter (unread c.args.around.now c.loop-octet.text) (unread c.args.around.now c.next.new.self) c.in-Some.octet c.in-Some.ensures.read

pub returns : goal.returns
returns g c = ap (numeral_after c.loop-octet.is_numeral) (sym c.in_default.ensures.read) ∙ c.loop-octet.invariant.so_far
