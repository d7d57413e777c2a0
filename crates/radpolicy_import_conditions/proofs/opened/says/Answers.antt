use Rattle.std.proofs.Common.{[], ◌∷◌, sym, ap, ap₂, ◌∙◌}
use Rattle.avp_unlang.specs.declared.tree.Statement.TheVariants.{If}
use Rattle.radpolicy_import_conditions.proofs.Opening.{not_some, nothing, sole}
use Rattle.radpolicy_import_conditions.proofs.opened.says.Goals as goal

pub returns : goal.returns
returns c = λ h.
    let branches = sole c.as_slice-2.result.now c.branch-item.result c.in-len1-as_slice.len_at_least c.in-len1-as_slice.len_below c.branch-item.is in
    let statements = sole c.as_slice.result.now c.statement-item.result c.in-len1.len_at_least c.in-len1.len_below c.statement-item.is in
    record {
      branch = c.branch-item.result;
      alone = sym c.statements.ensures ∙ sym c.as_slice.ensures ∙ statements ∙ ap (λ z. z ∷ []) (c.in-If.is ∙ ap₂ If (sym c.as_slice-2.ensures ∙ branches) (not_some c.in-If.otherwise (sym c.is_some.ensures ∙ c.if-is_some.false)));
      asks = c.is_opened.ensures h;
      empty = sym c.as_slice-3.ensures ∙ nothing c.as_slice-3.result.now c.in-empty.len_below;
    }
