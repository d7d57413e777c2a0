use Rattle.std.proofs.Common.{subst}
use Rattle.avp_lists.specs.declared.lists.List.{List as Name}
use Rattle.avp_unlang.specs.declared.text.statements.Keyword.TheVariants as keyword
use Rattle.avp_unlang.specs.Forms.{Refuses}
use Rattle.avp_unlang.specs.Lines.{LineIs, begins_line}
use Rattle.avp_unlang.specs.Places.{Place}
use Rattle.avp_unlang.specs.Statements.{BlockIs, Nested, StatementFrom, list_at}
use Rattle.avp_unlang.specs.RefusedForms.{Tells}
use Rattle.avp_unlang.specs.RefusedStatements.{UpdateFails, UpdateFailsOn}
use Rattle.avp_unlang.proofs.RefusedReads.{tells}
use Rattle.avp_unlang.proofs.Determined.{exits, then_stops}
use Rattle.avp_unlang.proofs.StatementsOne.{Updating, nested_one}
use Rattle.avp_unlang.proofs.text.statements.update.Goals as goal

pub returns-in_err-found-clause-read : goal.returns-in_err-found-clause-read
returns-in_err-found-clause-read c =
    exits (StatementFrom c.args.profile c.args.dictionary.now c.args.depth (Nested c.args.profile c.args.dictionary.now c.args.depth) keyword.Update c.args.at) _ _ c.from_residual.ensures.1
    (then_stops (BlockIs c.args.depth begins_line (LineIs c.args.profile c.args.dictionary.now (list_at c.args.at).0))
    (Updating c.args.profile c.args.dictionary.now c.args.depth (Nested c.args.profile c.args.dictionary.now c.args.depth) (nested_one c.args.profile c.args.dictionary.now c.args.depth) c.args.at.line) (list_at c.args.at).1 c.in_err-found.field-0.0
    (subst (λ (p : Name × Place). Refuses (BlockIs c.args.depth begins_line (LineIs c.args.profile c.args.dictionary.now p.0) p.1) c.in_err-found.field-0.0) c.list_at-own.ensures.same c.in_err-found.ensures.read))

pub returns-in_err-found-clause-refused : goal.returns-in_err-found-clause-refused
returns-in_err-found-clause-refused c =
    tells (Tells (UpdateFails c.args.profile c.args.dictionary.now c.args.depth c.args.at)) _ _ c.from_residual.ensures.1
    (λ some. subst (λ (p : Name × Place). UpdateFailsOn c.args.profile c.args.dictionary.now c.args.depth p.0 p.1 c.in_err-found.field-0.0.left c.in_err-found.field-0.0.kind) c.list_at-own.ensures.same (c.in_err-found.ensures.refused some))
