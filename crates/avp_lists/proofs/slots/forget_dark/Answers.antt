use Rattle.std.proofs.Common.{◌∙◌, map, ap, rules}
use Rattle.std.proofs.lemmas.List.Elements.{filter_from_retain}
use Rattle.avp_lists.specs.internal.Slots.{is_live, kept}
use Rattle.avp_lists.proofs.slots.forget_dark.Goals as goal

pub returns : goal.returns
returns c = c.keep_marks.ensures ∙ ap (map kept) (filter_from_retain _ is_live (λ p x b q h. search (rules, h)) _ _ _ c.retain.ensures.filtered)
