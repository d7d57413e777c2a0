use Rattle.std.proofs.Common.{◌<◌, length, rules}
use Rattle.avp_dict.proofs.Gathering.{first_text}
use Rattle.avp_dict.proofs.LineEnds.{end_dropped}
use Rattle.avp_dict.proofs.request.lines.next_line.Goals as goal

pub returns-clause-cut : goal.returns-clause-cut
returns-clause-cut c =
    let some : 0 < length c.args.text.now = search rules in
    rw (c.split_line.ensures.line, c.split_line.ensures.rest) (first_text c.args.text.now some)

pub returns-clause-end : goal.returns-clause-end
returns-clause-end c = rw c.split_line.ensures.rest (end_dropped _ c.args.text.now)
