use Rattle.std.proofs.Common.{arith, sym}
use Rattle.std.specs.List.{slice_split}
use Rattle.avp_dict.proofs.Misspellings.{some_part}
use Rattle.avp_forms.specs.Ipv6Addresses.{ipv6_spelled}
use Rattle.avp_forms.specs.Prefixes.{ipv6_prefix_spelled, is_slash}
use Rattle.avp_forms.proofs.TooManyParts.{more_parts}
use Rattle.avp_forms.proofs.prefixes.ipv6_prefix_spelled.Goals as goal

pub returns-in-Some : goal.returns-in-Some
unfolding ipv6_prefix_spelled
returns-in-Some c =
    let more = some_part is_slash c.in-Some.field-0.1.now in
    sym (more_parts ipv6_spelled 128 (slice_split is_slash c.args.text.now) (rw (c.in_ok-address.ensures.cut, c.in-Some.ensures.cut) (omega arith)))
