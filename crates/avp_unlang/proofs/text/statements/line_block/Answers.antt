use Rattle.std.proofs.Common.{◌-◌, inr, arith}
use Rattle.avp_unlang.specs.Lines.{LineIs, begins_line}
use Rattle.avp_unlang.specs.Statements.{BlockIs}
use Rattle.avp_unlang.specs.RefusedForms.{Tells, left_at}
use Rattle.avp_unlang.specs.RefusedLines.{LineFails}
use Rattle.avp_unlang.specs.RefusedStatements.{InsideFails, UpdateFailsOn}
use Rattle.avp_unlang.proofs.RefusedReads.{deep_inside, tells}
use Rattle.avp_unlang.proofs.Determined.{exits}
use Rattle.avp_unlang.proofs.LinesOne.{line_one}
use Rattle.avp_unlang.proofs.StatementsOne.{unopened, unended}
use Rattle.avp_unlang.proofs.text.statements.line_block.Goals as goal

pub returns-in_err-start-clause-read : goal.returns-in_err-start-clause-read
returns-in_err-start-clause-read c =
    exits (BlockIs c.args.depth begins_line (LineIs c.args.profile c.args.dictionary.now c.args.own) c.args.at) _ _ c.from_residual.ensures.1
    (unopened c.args.depth begins_line (LineIs c.args.profile c.args.dictionary.now c.args.own) c.args.at c.in_err-start.field-0.0 c.in_err-start.ensures.taken)

pub returns-in_err-rest-clause-read : goal.returns-in_err-rest-clause-read
returns-in_err-rest-clause-read c =
    exits (BlockIs c.args.depth begins_line (LineIs c.args.profile c.args.dictionary.now c.args.own) c.args.at) _ _ c.from_residual-in_err-rest.ensures.1
    (unended c.args.depth begins_line (LineIs c.args.profile c.args.dictionary.now c.args.own) (line_one c.args.profile c.args.dictionary.now c.args.own) c.args.at c.in_ok-start.start c.in_ok-found.found c.in_ok-found.end c.in_err-rest.field-0.0
    c.in_ok-start.ensures.taken c.in_ok-found.ensures.read c.in_err-rest.ensures.taken)

pub returns-in_err-rest-clause-refused : goal.returns-in_err-rest-clause-refused
returns-in_err-rest-clause-refused c =
    tells (Tells (UpdateFailsOn c.args.profile c.args.dictionary.now c.args.depth c.args.own c.args.at)) _ _ c.from_residual-in_err-rest.ensures.1
    (λ some. inr (
      c.in_ok-start.start,
      c.in_ok-start.ensures.taken,
      deep_inside (λ k. InsideFails begins_line (LineIs c.args.profile c.args.dictionary.now c.args.own) (LineFails c.args.profile c.args.dictionary.now c.args.own)) (c.args.depth - 1) c.args.depth (left_at c.args.at) (omega (arith, c.if-depth-eq0.false))
          c.in_ok-start.start c.in_err-rest.field-0.0.left c.in_err-rest.field-0.0.kind (inr (c.in_ok-found.found, c.in_ok-found.end, c.in_ok-found.ensures.read, c.in_err-rest.ensures.refused some)),
    ))
