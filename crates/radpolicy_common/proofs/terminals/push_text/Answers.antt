use Rattle.std.proofs.Common.{◌++◌, ◌∙◌, ap, map-id, sym}
use Rattle.std.proofs.lemmas.Iterator.{YieldsList-from_chars}
use Rattle.std.proofs.lemmas.Iterator.Consumers.{YieldsList-end}
use Rattle.std.specs.List.{flat_map}
use Rattle.radpolicy_common.specs.VisibleText.{char_shown}
use Rattle.radpolicy_common.proofs.terminals.push_text.Goals as goal

pub returns : goal.returns
returns c =
    let done = YieldsList-end (YieldsList-from_chars c.args.added.now c.utf8.added cc) c.loop-character.yielded _ c.loop-character.yielded_by _ _ c.in-None.is c.next.ensures.steps in
    c.loop-character.invariant ∙ ap (λ cs. c.args.text.now.items ++ flat_map (char_shown c.args.breaks) cs) (sym (map-id c.loop-character.yielded) ∙ done.0)
