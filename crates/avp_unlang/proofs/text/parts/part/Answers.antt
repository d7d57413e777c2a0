use Rattle.std.proofs.Common.{sym}
use Rattle.avp_unlang.proofs.PartsOne.{expansion_reads, no_part}
use Rattle.avp_unlang.proofs.text.parts.part.Goals as goal

pub returns-in-Err-clause-read : goal.returns-in-Err-clause-read
returns-in-Err-clause-read c = λ _. no_part c.args.profile c.args.dictionary.now c.args.text (sym c.if-begins_octet.ensures) c.in-Err.ensures.err

pub returns-in-Ok-clause-read : goal.returns-in-Ok-clause-read
returns-in-Ok-clause-read c =
    expansion_reads c.args.profile c.args.dictionary.now c.args.text c.in-Ok.part c.in-Ok.rest (sym c.if-begins_octet.ensures) c.in-Ok.ensures.ok
