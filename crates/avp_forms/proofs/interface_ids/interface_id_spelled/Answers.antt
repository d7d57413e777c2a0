use Rattle.std.proofs.Common.{arith, ap, option_map, sym}
use Rattle.std.specs.List.{slice_split}
use Rattle.std.specs.Net.Addr.{octets_of}
use Rattle.avp_dict.specs.Spellings.{is_colon}
use Rattle.avp_dict.proofs.Misspellings.{in_parts-more, some_part}
use Rattle.avp_forms.specs.InterfaceIds.{group, interface_id_spelled}
use Rattle.avp_forms.proofs.interface_ids.interface_id_spelled.Goals as goal

pub returns-in-Some : goal.returns-in-Some
unfolding interface_id_spelled
returns-in-Some c =
    let more = some_part is_colon c.in-Some.field-0.1.now in
    sym (ap (option_map octets_of) (in_parts-more 4 group (slice_split is_colon c.args.text.now) (rw (c.in_ok-a.ensures.cut, c.in_ok-b.ensures.cut, c.in_ok-c.ensures.cut, c.in-Some.ensures.cut) (omega arith))))
