use Rattle.std.proofs.Common.{subst, sym}
use Rattle.avp_unlang.specs.Forms.{ReadsAll}
use Rattle.avp_unlang.specs.Sources.{SourceOf}
use Rattle.avp_unlang.specs.declared.text.values.Written.{Written}
use Rattle.avp_unlang.proofs.text.sources.source_of.Goals as goal

pub returns-in-Double-clause-read : goal.returns-in-Double-clause-read
returns-in-Double-clause-read c =
    subst (λ (w : Written). ReadsAll (SourceOf c.args.profile c.args.dictionary.now c.args.target w) c.filled_text.result) (sym c.in-Double.is) c.filled_text.ensures.read
