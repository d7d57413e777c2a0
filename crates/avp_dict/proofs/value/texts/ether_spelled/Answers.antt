use Rattle.std.proofs.Common.{arith, sym}
use Rattle.std.specs.List.{slice_split}
use Rattle.avp_dict.specs.Spellings.{digit_pair, is_colon}
use Rattle.avp_dict.proofs.Misspellings.{in_parts-more, some_part}
use Rattle.avp_dict.proofs.value.texts.ether_spelled.Goals as goal

pub returns-in-Some : goal.returns-in-Some
returns-in-Some c =
    let more = some_part is_colon c.in-Some.field-0.1.now in
    sym (in_parts-more 6 digit_pair (slice_split is_colon c.args.text.now) (rw (c.in_ok-a.ensures.cut, c.in_ok-b.ensures.cut, c.in_ok-c.ensures.cut, c.in_ok-d.ensures.cut, c.in_ok-e.ensures.cut, c.in-Some.ensures.cut) (omega arith)))
