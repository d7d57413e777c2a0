use Rattle.radpolicy_common.proofs.SecretTexts.{trimmed}
use Rattle.radpolicy_common.proofs.secret_attributes.without_blanks_behind.Goals as goal

pub returns : goal.returns
returns c = trimmed c.args.text.now c.trim_ascii_end.result.now c.trim_ascii_end.ensures.value
