use Rattle.std.proofs.Common.{arith, sym}
use Rattle.avp_dict.specs.Letters.{is_dot}
use Rattle.avp_dict.specs.Spellings.{decimal_octet}
use Rattle.std.specs.List.{slice_split}
use Rattle.avp_dict.proofs.Misspellings.{in_parts-more, some_part}
use Rattle.avp_dict.proofs.value.texts.address_spelled.Goals as goal

pub returns-in-Some : goal.returns-in-Some
returns-in-Some c =
    let more = some_part is_dot c.in-Some.field-0.1.now in
    sym (in_parts-more 4 decimal_octet (slice_split is_dot c.args.text.now) (rw (c.in_ok-a.ensures.cut, c.in_ok-b.ensures.cut, c.in_ok-c.ensures.cut, c.in-Some.ensures.cut) (omega arith)))
