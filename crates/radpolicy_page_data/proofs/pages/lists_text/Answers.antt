use Rattle.std.proofs.Common.{List, subst, sym}
use Rattle.avp_lists.specs.declared.pairs.Pair.{Pair}
use Rattle.avp_lists.specs.declared.lists.List.TheVariants.{Control, Reply, Request}
use Rattle.radpolicy_common.specs.ChangeTexts.{AllFit}
use Rattle.radpolicy_page_data.proofs.pages.lists_text.Goals as goal

-- each of the lists fits
pub push_list-requires : goal.push_list-requires
push_list-requires c = subst (λ (pairs : List Pair). AllFit c.args.redaction.now.dictionary pairs) (sym c.as_slice.ensures) (c.requires Request)

pub push_list-requires-2 : goal.push_list-requires-2
push_list-requires-2 c = subst (λ (pairs : List Pair). AllFit c.args.redaction.now.dictionary pairs) (sym c.as_slice-2.ensures) (c.requires Reply)

pub push_list-requires-3 : goal.push_list-requires-3
push_list-requires-3 c = subst (λ (pairs : List Pair). AllFit c.args.redaction.now.dictionary pairs) (sym c.as_slice-3.ensures) (c.requires Control)
