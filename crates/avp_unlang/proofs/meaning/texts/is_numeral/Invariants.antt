use Rattle.std.proofs.Common.{◌≡◌, is_some, length}
use Rattle.avp_dict.specs.Words.{digits}
use Rattle.avp_unlang.specs.internal.UnreadTexts.{IsLegible, text_around, unread}
use Rattle.avp_unlang.proofs.TextSteps.{numeral_after}
use Rattle.avp_unlang.proofs.meaning.texts.is_numeral.Given as goal

abbrev pub invariant-loop-octet : goal.invariant-loop-octet
invariant-loop-octet g l = record {
  legible : IsLegible l.around l.text;
  so_far : numeral_after l.is_numeral (unread l.around l.text) ≡ is_some (digits 10 (text_around l.around l.parts));
}

abbrev pub decreases-loop-octet : goal.decreases-loop-octet
decreases-loop-octet g l = length (unread l.around l.text)
