use Rattle.std.proofs.Common.{arith}
use Rattle.std.proofs.lemmas.Grind.{common_steps}
use Rattle.avp_dict.proofs.FoundPositions.{parts_last, parts_more}
use Rattle.avp_dict.specs.Lines.{is_line_end}
use Rattle.radpolicy_replay_records.proofs.lines.first_line_end.Goals as goal

pub returns-clause-cut : goal.returns-clause-cut
returns-clause-cut c = let e = parts_more is_line_end c.args.text.now c.in_ok-end.end (grind (arith, common_steps)) in grind (arith, common_steps, e)

pub returns-in_err-end-clause-whole : goal.returns-in_err-end-clause-whole
returns-in_err-end-clause-whole c = let e = parts_last is_line_end c.args.text.now (grind (arith, common_steps)) in grind (arith, common_steps, e)
