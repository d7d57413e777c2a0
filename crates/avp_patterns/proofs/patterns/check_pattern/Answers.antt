use Rattle.avp_patterns.proofs.Readings.{is_pattern_if, is_refused_if}
use Rattle.avp_patterns.proofs.patterns.check_pattern.Goals as goal

pub returns-in-Err-clause-refused : goal.returns-in-Err-clause-refused
returns-in-Err-clause-refused c = c.in-Err.ensures.refused c.args.flags

pub returns-in-Ok-clause-read : goal.returns-in-Ok-clause-read
returns-in-Ok-clause-read c =
    is_pattern_if c.args.flags c.args.text.now c.in-Ok.source.now c.in-Ok.ensures.same c.in-Ok.ensures.plain c.parsed.result c.parsed.ensures.read

pub returns-in-Ok-clause-refused : goal.returns-in-Ok-clause-refused
returns-in-Ok-clause-refused c =
    is_refused_if c.args.flags c.args.text.now c.in-Ok.source.now c.in-Ok.ensures.same c.in-Ok.ensures.plain c.parsed.result c.parsed.ensures.refused
