use Rattle.std.proofs.Common.{rules, ◌∙◌}
use Rattle.avp_patterns.proofs.Readings.{is_pattern_compiled, is_refused_if}
use Rattle.avp_patterns.proofs.patterns.Pattern.read.Goals as goal

pub invariant_of-result : goal.invariant_of-result
invariant_of-result c = (
  c.in_ok-regex.ensures.config,
  c.in_ok-regex.ensures.read,
  is_pattern_compiled c.in_ok-regex.regex c.args.flags c.args.text.now (c.in_ok-regex.ensures.source ∙ c.in-Ok.ensures.same) c.in-Ok.ensures.plain
      c.in_ok-regex.ensures.config c.in_ok-regex.ensures.read,
)

pub returns-clause-read : goal.returns-clause-read
returns-clause-read c =
    is_pattern_compiled c.in_ok-regex.regex c.args.flags c.args.text.now (c.in_ok-regex.ensures.source ∙ c.in-Ok.ensures.same) c.in-Ok.ensures.plain
    c.in_ok-regex.ensures.config c.in_ok-regex.ensures.read

pub returns-in-Err-clause-refused : goal.returns-in-Err-clause-refused
returns-in-Err-clause-refused c = c.in-Err.ensures.refused c.args.flags

pub returns-in_err-regex-clause-refused : goal.returns-in_err-regex-clause-refused
returns-in_err-regex-clause-refused c =
    is_refused_if c.args.flags c.args.text.now c.in-Ok.source.now c.in-Ok.ensures.same c.in-Ok.ensures.plain c.from_residual.result (search rules)
