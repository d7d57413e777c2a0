use Rattle.std.proofs.Common.{subst}
use Rattle.std.proofs.lemmas.Result.{err_from_is_err_and}
use Rattle.avp_dict.specs.Dictionary.{Dictionary}
use Rattle.radpolicy.specs.Faults.{MemoryOr, fault_of_line}
use Rattle.radpolicy.specs.StartRefusals.{AreUnreadRequestLines}
use Rattle.radpolicy.proofs.RefusedLines.{request_lines}
use Rattle.radpolicy.proofs.starts.Start.of_lines.Goals as goal

pub returns-in_err-pairs-clause-refused : goal.returns-in_err-pairs-clause-refused
returns-in_err-pairs-clause-refused c =
    let p = err_from_is_err_and c.from_residual.result c.from_residual.ensures.1 in
    let fault = c.in_err-pairs.field-0.0 in
    rw (p.1, p.2) (subst (λ (d : Dictionary). MemoryOr (AreUnreadRequestLines c.args.profile c.args.zone d c.args.text.now) (fault_of_line fault)) c.dictionary.ensures
    (request_lines c.args.profile c.args.zone c.dictionary.result.now c.args.text.now fault c.in_err-pairs.ensures.refused))
