use Rattle.std.proofs.Common.{◌∙◌, List, ℕ, subst}
use Rattle.avp_unlang.specs.Policies.{SpellsPolicy}
use Rattle.radpolicy_import_policies.proofs.MarkedLines.{of_items}
use Rattle.radpolicy_import_policies.proofs.imports.import_statements.Goals as goal

pub returns-clause-policy : goal.returns-clause-policy
returns-clause-policy c = subst (λ (text : List ℕ). SpellsPolicy c.args.dictionary.now text c.in_ok-policy.policy) c.deref-6.ensures.value c.in_ok-policy.ensures.read

pub returns-clause-places : goal.returns-clause-places
returns-clause-places c =
    of_items c.args.configuration.now.items.items c.len-items.result c.args.settings.initial c.args.statements.now
    c.in_ok-marks.marks.items c.deref.result.now c.in_ok-made.made.lines.items
    (c.len-items.ensures ∙ c.args.configuration.now.items.ok.0) c.deref.ensures.value c.in_ok-marks.ensures c.in_ok-made.ensures.places
