use Rattle.std.proofs.Common.{All}
use Rattle.server_configuration.specs.Places.{AreOnLines}
use Rattle.radpolicy_import_policies.specs.OriginTexts.{EndAsTold}
use Rattle.radpolicy_import_policies.specs.Origins.{AreLines, line_origins}
use Rattle.radpolicy_import_policies.specs.internal.Marks.{IsMarked}
use Rattle.radpolicy_import_policies.proofs.policy_texts.rendered.Given as goal

abbrev pub invariant-loop-draft : goal.invariant-loop-draft
invariant-loop-draft l = record {
  lines : AreOnLines l.configuration.files.items l.configuration.items.items → AreLines l.configuration.files.items (line_origins l.made.lines.items);
  places : All (IsMarked l.configuration.items.items l.marks) l.made.lines.items;
  ends : EndAsTold l.line_ends l.configuration l.made.lines.items l.made.text.items;
}
