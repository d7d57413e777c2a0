use Rattle.radpolicy_traffic.proofs.reader.Reader.is_again.Goals as goal

pub returns-clause-held : goal.returns-clause-held
returns-clause-held c = λ line olds from. c.finish.ensures.held line olds (c.pause_current.ensures.held line olds from)
