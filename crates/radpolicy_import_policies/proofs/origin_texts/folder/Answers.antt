use Rattle.std.proofs.Common.{◌∙◌, sym}
use Rattle.radpolicy_import_policies.proofs.Folders.{at_slash, before_last}
use Rattle.radpolicy_import_policies.proofs.origin_texts.folder.Goals as goal

pub loop-rest-preserved : goal.loop-rest-preserved
loop-rest-preserved c = before_last c.loop-rest.rest.now c.in-len1-up.len_at_least c.if-last-eq47.false ∙ c.loop-rest.invariant

pub returns-then-last-eq47 : goal.returns-then-last-eq47
returns-then-last-eq47 c = sym (at_slash c.loop-rest.rest.now c.in-len1-up.len_at_least c.if-last-eq47.true) ∙ c.loop-rest.invariant
