use Rattle.std.proofs.Common.{ℕ, sym, subst}
use Rattle.radpolicy_page_data.specs.internal.Writing.{IsWritten}
use Rattle.radpolicy_page_data.proofs.positions.positions_text.Goals as goal

pub write_position-requires-clause-before : goal.write_position-requires-clause-before
write_position-requires-clause-before c =
    subst (λ (n : ℕ). IsWritten c.args.redaction.now c.args.stepper.now.trace n c.nothing_written-written.result) (sym c.requires.start) (c.nothing_written-written.ensures c.args.redaction.now c.args.stepper.now.trace)
