use Rattle.std.proofs.Common.{◌≡◌, ◌≤◌, ◌<◌, ◌+◌, length, get_or, true, false, rules}
use Rattle.avp_dict.specs.Words.{is_blank}
use Rattle.avp_dict.proofs.RefusedLines.{filled_at, filled_past, past_more, past_none}
use Rattle.avp_dict.proofs.request.refusals.filled_from.Goals as goal

pub loop-octet-init : goal.loop-octet-init
loop-octet-init c = record { within = c.requires; blanks = past_none c.args.text.now c.args.offset }

pub loop-octet-preserved : goal.loop-octet-preserved
loop-octet-preserved c =
    let blank : is_blank c.in-Some.octet.now ≡ true = search rules in
    let there : c.loop-octet.place < length c.args.text.now = search rules in
    let within : c.loop-octet.place + 1 ≤ length c.args.text.now = search rules in
    let it : c.in-Some.octet.now ≡ get_or c.args.text.now c.loop-octet.place 0 = search rules in
    record {
      within = within;
      blanks = past_more c.args.text.now c.args.offset c.loop-octet.place c.in-Some.octet.now there it blank c.loop-octet.invariant.blanks;
    }

pub returns-in-loop-octet-clause-filled : goal.returns-in-loop-octet-clause-filled
returns-in-loop-octet-clause-filled c =
    let past : length c.args.text.now ≤ c.loop-octet.place = search rules in
    filled_past c.args.text.now c.loop-octet.place past

pub returns-else-is_blank-clause-filled : goal.returns-else-is_blank-clause-filled
returns-else-is_blank-clause-filled c =
    let filled : is_blank c.in-Some.octet.now ≡ false = search rules in
    let there : c.loop-octet.place < length c.args.text.now = search rules in
    let it : c.in-Some.octet.now ≡ get_or c.args.text.now c.loop-octet.place 0 = search rules in
    filled_at c.args.text.now c.loop-octet.place c.in-Some.octet.now there it filled

pub returns-in-loop-octet-clause-blanks : goal.returns-in-loop-octet-clause-blanks
returns-in-loop-octet-clause-blanks c = c.loop-octet.invariant.blanks

pub returns-else-is_blank-clause-blanks : goal.returns-else-is_blank-clause-blanks
returns-else-is_blank-clause-blanks c = c.loop-octet.invariant.blanks
