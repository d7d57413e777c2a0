use Rattle.radpolicy_c.proofs.Opened.{opened_over, refused_over, spelled_by}
use Rattle.radpolicy_c.proofs.opening.policy_over.Goals as goal

pub returns-clause-ok : goal.returns-clause-ok
returns-clause-ok c =
    opened_over c.args.files.now c.args.text.now c.args.«dictionary» c.read.result c.requires
    (spelled_by c.args.«dictionary» c.args.text.now c.read.result c.read.ensures.dictionary c.read.ensures.profile c.read.ensures.spelled)

pub returns-clause-refused : goal.returns-clause-refused
returns-clause-refused c =
    refused_over c.args.files.now c.args.text.now c.args.«dictionary» c.read.result c.requires c.read.ensures.refused
