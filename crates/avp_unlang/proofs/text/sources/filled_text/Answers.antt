use Rattle.std.proofs.Common.{sym}
use Rattle.avp_unlang.specs.Sources.{FilledIs}
use Rattle.avp_unlang.proofs.Determined.{exits_all}
use Rattle.avp_unlang.proofs.LinesOne.{filled_reads}
use Rattle.avp_unlang.proofs.text.sources.filled_text.Goals as goal

pub returns-in_err-parts-clause-read : goal.returns-in_err-parts-clause-read
returns-in_err-parts-clause-read c =
    exits_all (FilledIs c.args.profile c.args.dictionary.now c.args.target c.args.text) _ _ c.from_residual.ensures.1 (λ some source h. c.in_err-parts.ensures.read some h.1 h.2)

pub returns-clause-read : goal.returns-clause-read
returns-clause-read c =
    filled_reads c.args.profile c.args.dictionary.now c.args.target c.args.text c.in_ok-parts.parts (sym c.if-is_barred.ensures) c.in_ok-parts.ensures.read c.filled_source.result c.filled_source.ensures.ok c.filled_source.ensures.err
