use Rattle.std.proofs.Common.{List, subst, sym}
use Rattle.avp_lists.specs.declared.pairs.Pair.{Pair}
use Rattle.avp_lists.specs.declared.lists.List.TheVariants.{Control, Reply, Request}
use Rattle.radpolicy_common.specs.ChangeTexts.{AllFit}
use Rattle.radpolicy_walk_commands.proofs.showings.change_text.Goals as goal

-- each of the lists fits
pub list_change-requires-clause-before : goal.list_change-requires-clause-before
list_change-requires-clause-before c = subst (λ (pairs : List Pair). AllFit c.args.redaction.now.dictionary pairs) (sym c.as_slice-old.ensures) (c.requires.before Request)

pub list_change-requires-clause-after : goal.list_change-requires-clause-after
list_change-requires-clause-after c = subst (λ (pairs : List Pair). AllFit c.args.redaction.now.dictionary pairs) (sym c.as_slice-new.ensures) (c.requires.after Request)

pub list_change-requires-2-clause-before : goal.list_change-requires-2-clause-before
list_change-requires-2-clause-before c = subst (λ (pairs : List Pair). AllFit c.args.redaction.now.dictionary pairs) (sym c.as_slice-old-2.ensures) (c.requires.before Reply)

pub list_change-requires-2-clause-after : goal.list_change-requires-2-clause-after
list_change-requires-2-clause-after c = subst (λ (pairs : List Pair). AllFit c.args.redaction.now.dictionary pairs) (sym c.as_slice-new-2.ensures) (c.requires.after Reply)

pub list_change-requires-3-clause-before : goal.list_change-requires-3-clause-before
list_change-requires-3-clause-before c = subst (λ (pairs : List Pair). AllFit c.args.redaction.now.dictionary pairs) (sym c.as_slice-old-3.ensures) (c.requires.before Control)

pub list_change-requires-3-clause-after : goal.list_change-requires-3-clause-after
list_change-requires-3-clause-after c = subst (λ (pairs : List Pair). AllFit c.args.redaction.now.dictionary pairs) (sym c.as_slice-new-3.ensures) (c.requires.after Control)
