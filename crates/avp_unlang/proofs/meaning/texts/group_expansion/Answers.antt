use Rattle.std.proofs.Common.{ap, sym, ◌∙◌}
use Rattle.std.specs.Option.{option_copied}
use Rattle.avp_unlang.specs.Captures.{captured}
use Rattle.avp_unlang.specs.internal.UnreadTexts.{captures_of}
use Rattle.avp_unlang.proofs.CapturedTexts.{captured_none}
use Rattle.avp_unlang.proofs.meaning.texts.group_expansion.Goals as goal

pub returns-in-None-clause-text : goal.returns-in-None-clause-text
returns-in-None-clause-text c =
    sym (captured_none c.args.group) ∙ ap (λ o. captured c.args.group (captures_of (option_copied o))) (sym c.in-None.is)
