use Rattle.std.proofs.Common.{rules, tests, ◌∙◌, None, ap, sym}
use Rattle.std.specs.List.{last_or}
use Rattle.std.specs.Option.{option_map}
use Rattle.std.proofs.lemmas.Iterator.{items_from_drains}
use Rattle.std.proofs.lemmas.Iterator.Splits.{YieldsList-from_slice_split}
use Rattle.radpolicy_common.specs.SecretAttributes.{is_colon}
use Rattle.radpolicy_common.proofs.SecretTexts.{last-map}
use Rattle.radpolicy_common.proofs.secret_attributes.behind_colons.Goals as goal

pub returns : goal.returns
returns c =
    let ran = c.last.ensures.ran in
    let there = ran.1.1 in
    let parts = items_from_drains ran.0 (there.0, there.1, λ _. (ran.1.0, there.2)) (YieldsList-from_slice_split _ is_colon c.args.text.now c.split.ensures.rest c.split.ensures.done c.split.ensures.closure (λ x b q k. search (rules, tests))) in
    ap (option_map (λ x. x.now)) ran.2 ∙ last-map (λ x. x.now) None ran.0 ∙ ap (last_or None) parts
