use Rattle.std.proofs.Common.{sym, subst, Result, OnOk, IfErr, IsSome}
use Rattle.avp_patterns.proofs.Readings.{parse_refused, read_is_some}
use Rattle.regex.specs.Names.{names_of}
use Rattle.regex.specs.Patterns.{Reads, Refuses}
use Rattle.avp_patterns.specs.Patterns.{Written, expression_in}
use Rattle.avp_patterns.specs.declared.faults.PatternFault.{PatternFault}
use Rattle.avp_patterns.specs.internal.Searching.{IsNotCompiled}
use Rattle.avp_patterns.proofs.patterns.parsed.Goals.{in-Ok, in-Err}
use Rattle.avp_patterns.proofs.patterns.parsed.Goals as goal

pub returns-clause-read : goal.returns-clause-read
returns-clause-read c =
    let w : Written = record { text = c.args.source.now; flags = c.args.flags } in
    let Good : Result (Unit {0}) PatternFault → Type 0 = λ r. OnOk r (IsSome (expression_in w)) in
    elim c.match-parse.branch [
      | in-Ok b ↦ subst Good (sym b.result-is)
          (read_is_some w b.in-Ok.field-0.hir (names_of b.in-Ok.field-0.names.items) (subst (λ o. Reads o w.text b.in-Ok.field-0.hir (names_of b.in-Ok.field-0.names.items)) c.options.ensures b.in-Ok.ensures.ok))
      | in-Err b ↦ subst Good (sym b.result-is) tt
    ]

pub returns-clause-refused : goal.returns-clause-refused
returns-clause-refused c =
    let w : Written = record { text = c.args.source.now; flags = c.args.flags } in
    let Good : Result (Unit {0}) PatternFault → Type 0 = λ r. IfErr r (IsNotCompiled w) in
    elim c.match-parse.branch [
      | in-Ok b ↦ subst Good (sym b.result-is) tt
      | in-Err b ↦ subst Good (sym b.result-is)
          (parse_refused w b.in-Err.error b.fault_of.result b.fault_of.ensures
          (subst (λ o. Refuses o w.text b.in-Err.error.kind) c.options.ensures b.in-Err.ensures.err) b.in-Err.ensures.span.1.0)
    ]
