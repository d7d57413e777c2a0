use Rattle.avp_forms.specs.Expansions.{expanded}
use Rattle.avp_unlang.proofs.UnreadOctets.{taken_none, taken_some}
use Rattle.avp_unlang.proofs.meaning.texts.Unread.next_here.Goals as goal

pub returns-in-Some-clause-read : goal.returns-in-Some-clause-read
returns-in-Some-clause-read c = taken_some (expanded c.args.self.now.here) c.args.self.now.at c.in-Some.octet c.in-Some.ensures.octet

pub returns-in-None-clause-read : goal.returns-in-None-clause-read
returns-in-None-clause-read c = taken_none (expanded c.args.self.now.here) c.args.self.now.at c.in-None.ensures.octet
