use Rattle.std.proofs.KnownBytes.{Appends-trans}
use Rattle.radpolicy.proofs.fault_lines.put_line.Goals as goal

pub returns-clause-takes : goal.returns-clause-takes
returns-clause-takes g c = Appends-trans _ _ _ _ _ c.in_ok-put_all.ensures.takes c.in_ok-put_told.ensures.takes
