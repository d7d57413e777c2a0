use Rattle.std.proofs.Common.{ap, ◌∙◌}
use Rattle.avp_unlang.specs.internal.UnreadTexts.{unread, without_zeros}
use Rattle.avp_unlang.proofs.UnreadOctets.{nonzero_kept, nothing_left_out, shorter, zero_left_out}
use Rattle.avp_unlang.proofs.meaning.texts.Unread.next_nonzero.Goals as goal

pub returns-then-octet-ne48-clause-read : goal.returns-then-octet-ne48-clause-read
returns-then-octet-ne48-clause-read g c =
    c.loop-octet.invariant.left ∙ ap without_zeros c.in-Some.ensures.read ∙ nonzero_kept c.in-Some.octet (unread c.args.around.now c.next.new.self) c.if-octet-ne48.true

pub returns-clause-read : goal.returns-clause-read
returns-clause-read g c = c.loop-octet.invariant.left ∙ ap without_zeros c.in_default.ensures.read ∙ nothing_left_out

pub loop-octet-preserved : goal.loop-octet-preserved
loop-octet-preserved g c = record {
  legible = c.in-Some.ensures.legible;
  left =
      c.loop-octet.invariant.left ∙ ap without_zeros c.in-Some.ensures.read ∙ zero_left_out c.in-Some.octet (unread c.args.around.now c.next.new.self) c.if-octet-ne48.false;
}

pub loop-octet-smaller : goal.loop-octet-smaller
loop-octet-smaller g c = shorter (unread c.args.around.now c.loop-octet.self) (unread c.args.around.now c.next.new.self) c.in-Some.octet c.in-Some.ensures.read
