use Rattle.std.proofs.Common.{ap, ◌∙◌, subst}
use Rattle.avp_lists.specs.History.{present}
use Rattle.avp_lists.specs.Meets.{Meets}
use Rattle.avp_unlang.specs.Captures.{Kept, filled}
use Rattle.avp_unlang.specs.Resolutions.{is_memory, resolution}
use Rattle.avp_unlang.proofs.CapturedTexts.{resolution_unfilled}
use Rattle.avp_unlang.proofs.meaning.resolving.resolve.Goals as goal

pub returns-clause-resolves : goal.returns-clause-resolves
returns-clause-resolves g c =
    let state = present (g.S.Store.history c.args.store.now) in
    subst (Meets is_memory c.resolve_by.result)
    (ap (λ (k : Kept). resolution c.args.dictionary.now (filled k.captures c.args.line.now) state) c.none-captured.ensures ∙ resolution_unfilled c.args.dictionary.now c.args.line.now state)
    c.resolve_by.ensures.resolves
