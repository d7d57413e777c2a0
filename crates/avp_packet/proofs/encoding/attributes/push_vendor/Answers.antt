use Rattle.std.proofs.Common.{◌+◌, length, refl}
use Rattle.avp_packet.proofs.Written.{vendor_written}
use Rattle.avp_packet.proofs.encoding.attributes.push_vendor.Goals as goal

pub returns : goal.returns
returns c =
    let f = c.args.format in
    let os = c.args.value.now in
    cc (
      c.in_ok-push_vendor_head.ensures,
      c.in_ok-extend_from_slice.ensures.items,
      c.from.ensures,
      c.from-2.ensures,
      vendor_written c.args.octets.now.items os f c.args.vendor c.args.number (f.t + f.l + length os) refl,
    )
