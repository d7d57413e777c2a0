use Rattle.std.proofs.Common.{List, subst, sym}
use Rattle.avp_lists.specs.declared.pairs.Pair.{Pair}
use Rattle.avp_lists.specs.declared.lists.List.TheVariants.{Control, Reply, Request}
use Rattle.radpolicy_common.specs.ChangeTexts.{AllFit}
use Rattle.radpolicy_walk_commands.proofs.listings.all_lists_text.Goals as goal

-- each of the lists fits
pub list_text-requires : goal.list_text-requires
list_text-requires c = subst (λ (pairs : List Pair). AllFit c.args.redaction.now.dictionary pairs) (sym c.as_slice.ensures) (c.requires Request)

pub list_text-requires-2 : goal.list_text-requires-2
list_text-requires-2 c = subst (λ (pairs : List Pair). AllFit c.args.redaction.now.dictionary pairs) (sym c.as_slice-2.ensures) (c.requires Reply)

pub list_text-requires-3 : goal.list_text-requires-3
list_text-requires-3 c = subst (λ (pairs : List Pair). AllFit c.args.redaction.now.dictionary pairs) (sym c.as_slice-3.ensures) (c.requires Control)
