use Rattle.std.proofs.Common.{◌≤◌, length, subst}
use Rattle.avp_patterns.proofs.Readings.{read_is_some, refused_is_none}
use Rattle.regex.specs.Failures.{IsRightKind}
use Rattle.regex.specs.Patterns.{Reads, Refuses}
use Rattle.regex.specs.Views.{builder_source}
use Rattle.avp_patterns.specs.Patterns.{Written, options}
use Rattle.avp_patterns.proofs.patterns.compiled_within.Goals as goal

pub returns-in-Err-Syntax-clause-refused : goal.returns-in-Err-Syntax-clause-refused
returns-in-Err-Syntax-clause-refused c =
    let w : Written = record { text = c.args.source.now; flags = c.args.flags } in
    let e = c.in-Err-Syntax.error in
    let is_error = c.in-Err-Syntax.field-0-is in
    let refused = c.in-Err-Syntax.ensures.refused e is_error in
    let named = subst (λ text. Refuses (options w.flags) text e.kind) c.builder_of.ensures.source
    (subst (λ config. Refuses config (builder_source c.builder_of.result) e.kind) c.builder_of.ensures.config refused) in
    let span = c.in-Err-Syntax.ensures.span e is_error in (
      refused_is_none w e.kind (subst (IsRightKind _ _) is_error c.in-Err-Syntax.ensures.kind) named,
      subst (λ text. e.span.start ≤ length text) c.builder_of.ensures.source span.1.0,
    )

pub returns-in-Err-CompiledTooBig-clause-refused : goal.returns-in-Err-CompiledTooBig-clause-refused
returns-in-Err-CompiledTooBig-clause-refused c =
    let w : Written = record { text = c.args.source.now; flags = c.args.flags } in
    let read = subst (IsRightKind _ _) c.in-Err-CompiledTooBig.field-0-is c.in-Err-CompiledTooBig.ensures.kind in
    read_is_some w read.0 read.1
    (subst (λ text. Reads (options w.flags) text read.0 read.1) c.builder_of.ensures.source
    (subst (λ config. Reads config (builder_source c.builder_of.result) read.0 read.1) c.builder_of.ensures.config read.2))
