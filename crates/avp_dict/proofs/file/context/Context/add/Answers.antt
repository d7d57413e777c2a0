use Rattle.std.proofs.Common.{ap, ◌∙◌, ◌-◌}
use Rattle.avp_dict.specs.Meanings.{with_opened}
use Rattle.avp_dict.specs.internal.Meanings.{context_view, reading_views}
use Rattle.avp_dict.proofs.LinesRead.{opened_cut}
use Rattle.avp_dict.proofs.file.context.Context.add.Goals as goal

pub returns-in-End-clause-added : goal.returns-in-End-clause-added
returns-in-End-clause-added c =
    let opened = c.args.self.now.opened in
    let cut = c.saturating_sub.ensures ∙ ap (λ n. n - 1) (c.len.ensures ∙ opened.ok.0) in
    rw c.in-End.is (ap (with_opened (context_view c.args.self.now)) (ap reading_views c.truncate.ensures.items ∙ opened_cut opened.items c.saturating_sub.result cut))
