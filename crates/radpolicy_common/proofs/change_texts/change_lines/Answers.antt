use Rattle.radpolicy_common.proofs.Changing.{changes_fit}
use Rattle.radpolicy_common.proofs.change_texts.change_lines.Goals as goal

pub push_changes-requires : goal.push_changes-requires
push_changes-requires c = changes_fit c.args.redaction.now.dictionary c.args.changes.now c.requires.before c.requires.after
