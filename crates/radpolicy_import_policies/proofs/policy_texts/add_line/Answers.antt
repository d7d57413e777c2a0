use Rattle.std.proofs.Common.{◌∙◌, sym}
use Rattle.radpolicy_import_policies.proofs.EndedLines.{line_added}
use Rattle.radpolicy_import_policies.proofs.policy_texts.add_line.Goals as goal

pub returns-clause-ends : goal.returns-clause-ends
returns-clause-ends c =
    line_added c.args.line_ends c.args.configuration.now c.args.made.now.lines.items c.push-2.new.self.items
    c.in_ok-line.line c.args.made.now.text.items c.deref.result.now c.deref-2.result.now c.extend_from_slice.new.self.items
    c.push_line_end.new.out.items c.push.new.self.items c.in_ok-push-2.ensures.items
    (c.deref.ensures.value ∙ sym c.deref-2.ensures.value) c.in_ok-extend_from_slice.ensures.items
    c.in_ok-push_line_end.ensures c.in_ok-push.ensures.items
