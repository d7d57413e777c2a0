use Rattle.std.proofs.Common.{List, subst, sym}
use Rattle.avp_lists.specs.declared.pairs.Pair.{Pair}
use Rattle.avp_lists.specs.declared.lists.List.TheVariants.{Control, Reply, Request}
use Rattle.radpolicy_common.specs.ChangeTexts.{AllFit}
use Rattle.radpolicy_walk_commands.proofs.instances.filled_lists_text.Goals as goal

-- each of the lists fits
pub push_instances-requires : goal.push_instances-requires
push_instances-requires c = subst (λ (pairs : List Pair). AllFit c.args.redaction.now.dictionary pairs) (sym c.as_slice.ensures) (c.requires Request)

pub push_instances-requires-2 : goal.push_instances-requires-2
push_instances-requires-2 c = subst (λ (pairs : List Pair). AllFit c.args.redaction.now.dictionary pairs) (sym c.as_slice-2.ensures) (c.requires Reply)

pub push_instances-requires-3 : goal.push_instances-requires-3
push_instances-requires-3 c = subst (λ (pairs : List Pair). AllFit c.args.redaction.now.dictionary pairs) (sym c.as_slice-3.ensures) (c.requires Control)
