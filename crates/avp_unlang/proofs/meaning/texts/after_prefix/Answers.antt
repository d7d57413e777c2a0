use Rattle.std.proofs.Common.{sym, ◌∙◌}
use Rattle.avp_unlang.specs.internal.UnreadTexts.{text_around, unread}
use Rattle.avp_unlang.proofs.PairsRead.{after_two}
use Rattle.avp_unlang.proofs.UnreadOctets.{read_out}
use Rattle.avp_unlang.proofs.meaning.texts.after_prefix.Goals as goal

pub returns-clause-left : goal.returns-clause-left
returns-clause-left g c =
    let a = c.args.around.now in
    let all = read_out a c.of_parts-text.result c.args.parts.now c.of_parts-text.ensures.nothing c.of_parts-text.ensures.parts in
    let from_first = sym all ∙ c.next.ensures.read in
    after_two (text_around a c.args.parts.now) (unread a c.next.new.self) (unread a c.next-2.new.self) c.next.result c.next-2.result c.requires.prefix from_first c.next-2.ensures.read
