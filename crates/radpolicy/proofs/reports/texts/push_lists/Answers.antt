use Rattle.avp_lists.specs.declared.lists.List.TheVariants.{Control, Reply, Request}
use Rattle.radpolicy.proofs.reports.texts.push_lists.Goals as goal

-- each of the lists fits
pub push_present-requires : goal.push_present-requires
push_present-requires g c = c.requires Request

pub push_present-requires-2 : goal.push_present-requires-2
push_present-requires-2 g c = c.requires Reply

pub push_present-requires-3 : goal.push_present-requires-3
push_present-requires-3 g c = c.requires Control
